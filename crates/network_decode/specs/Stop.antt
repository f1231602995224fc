-- Why a file was not decoded.
--     stop_of n stop             what a stop in section n is answered by
--     OnDamage P stop            P holds of the damage, where there is one
--     IsBrokenIn version body stop   the damage is that of a section, the first that is cut off or breaks a rule
use Rattle.std.specs.Prelude.{ℕ, List}
use Rattle.network_bytes.specs.declared.stop.ReadStop.{ReadStop}
use Rattle.network_bytes.specs.declared.stop.ReadStop.TheVariants as read
use Rattle.network_codec.specs.declared.version.Version.{Version}
use Rattle.network_codec.specs.declared.damage.Damage.{Damage}
use Rattle.network_codec.specs.declared.damage.Damage.TheVariants as damage
use Rattle.network_codec.specs.declared.damage.DecodeStop.{DecodeStop}
use Rattle.network_codec.specs.declared.damage.DecodeStop.TheVariants as stop
use Rattle.network_codec.specs.File.{IsBrokenAt}

abbrev pub stop_of : ℕ → ReadStop → DecodeStop
stop_of n read.Broken = stop.Damaged (damage.Section n)
stop_of n read.NoMemory = stop.NoMemory

abbrev pub OnDamage : (Damage → Type 0) → DecodeStop → Type 0
OnDamage P (stop.Damaged damage) = P damage
OnDamage P stop.NoMemory = Unit {0}

abbrev pub IsBrokenSection : Version → List ℕ → Damage → Type 0
IsBrokenSection version body (damage.Section n) = IsBrokenAt n version body
IsBrokenSection version body _ = ⊥

abbrev pub IsBrokenIn : Version → List ℕ → DecodeStop → Type 0
IsBrokenIn version body stop = OnDamage (IsBrokenSection version body) stop
