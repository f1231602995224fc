-- What a file that was read holds.
use Rattle.std.proofs.Common.{◌≡◌, ◌∙◌, ℕ, ◌≤◌, List, length, Option, Some, ap, subst, sym}
use Rattle.std.specs.Prelude.{IsSomeAnd}
use Rattle.network_file.specs.declared.compiled.Compiled.{Compiled}
use Rattle.network_codec.specs.declared.damage.DecodeStop.{DecodeStop}
use Rattle.network_codec.specs.declared.damage.DecodeStop.TheVariants as decoding
use Rattle.network_codec.specs.File.{IsFileOf, IsDamaged}
use Rattle.network_decode.specs.Value.{HaveSameParts}
use Rattle.network_decode.specs.Stop.{OnDamage}
use Rattle.file_commands.specs.Held.{most_bytes, IsOnlyFileOf}
use Rattle.file_commands.specs.Stop.{of_decode, IsNoFile, FitsStop}

-- a name that holds these bytes
holds_what : (P : List ℕ → Type 0) (held : Option (List ℕ)) (bytes : List ℕ) → held ≡ Some bytes → P bytes → IsSomeAnd held P
holds_what P held bytes e p = subst (λ (x : Option (List ℕ)). IsSomeAnd x P) (sym e) p

pub value_held : (held : Option (List ℕ)) (bytes seen : List ℕ) (value : Compiled) → held ≡ Some bytes → seen ≡ bytes → length bytes ≤ most_bytes
    → IsFileOf value seen → ((other : Compiled) → IsFileOf other seen → HaveSameParts value other)
    → IsSomeAnd held (IsOnlyFileOf value)
value_held held bytes seen value e same within own only =
    let short : length seen ≤ most_bytes = subst (λ (x : List ℕ). length x ≤ most_bytes) (sym same) within in
    holds_what (IsOnlyFileOf value) held seen (e ∙ ap Some (sym same)) (record { within = short; own = own; only = only })

pub stop_fits : (held : Option (List ℕ)) (bytes seen : List ℕ) (e : DecodeStop) → held ≡ Some bytes → seen ≡ bytes → length bytes ≤ most_bytes
    → OnDamage (IsDamaged seen) e → OnDamage (λ _. (value : Compiled) → ¬ (IsFileOf value seen)) e
    → FitsStop held (of_decode e)
stop_fits held bytes seen (decoding.Damaged damage) e same within first none =
    let short : length seen ≤ most_bytes = subst (λ (x : List ℕ). length x ≤ most_bytes) (sym same) within in
    holds_what (IsNoFile damage) held seen (e ∙ ap Some (sym same)) (record { within = short; first = first; none = none })
stop_fits held bytes seen decoding.NoMemory e same within first none = tt
