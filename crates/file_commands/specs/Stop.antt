-- Why a file was not read, or not rewritten.
--     of_read stop, of_decode stop   what a stop of a read, or of decoding, is answered by
--     IsNoFile damage bytes      the bytes are no value's file, and the damage is their first
--     FitsStop held stop         what a name holds where its file is not read for this cause
--     OnUnread P stop            P holds of why the old file was not read, where it was not
--     OnUnwritten P stop         P holds of why the new file was not written, where it was not
use Rattle.std.specs.Prelude.{◌≡◌, ℕ, ◌+◌, ◌<◌, ◌≤◌, List, length, Option, IsNone, IsSome, IsSomeAnd}
use Rattle.move_files.specs.declared.whole.ReadStop.{ReadStop}
use Rattle.move_files.specs.declared.whole.ReadStop.TheVariants as read
use Rattle.network_file.specs.declared.compiled.Compiled.{Compiled}
use Rattle.network_codec.specs.declared.damage.Damage.{Damage}
use Rattle.network_codec.specs.declared.damage.DecodeStop.{DecodeStop}
use Rattle.network_codec.specs.declared.damage.DecodeStop.TheVariants as decoding
use Rattle.network_codec.specs.declared.damage.EncodeStop.{EncodeStop}
use Rattle.network_codec.specs.File.{IsFileOf, IsDamaged}
use Rattle.file_commands.specs.declared.stop.FileStop.{FileStop}
use Rattle.file_commands.specs.declared.stop.FileStop.TheVariants as stop
use Rattle.file_commands.specs.declared.stop.MigrateStop.{MigrateStop}
use Rattle.file_commands.specs.declared.stop.MigrateStop.TheVariants as migration
use Rattle.file_commands.specs.Held.{most_bytes}

abbrev pub of_read : ReadStop → FileStop
of_read read.Missing = stop.Missing
of_read read.ReadFault = stop.ReadFault
of_read (read.TooLong n) = stop.TooLong n
of_read read.NoMemory = stop.NoMemory

abbrev pub of_decode : DecodeStop → FileStop
of_decode (decoding.Damaged damage) = stop.Damaged damage
of_decode decoding.NoMemory = stop.NoMemory

pub record IsNoFile (damage : Damage) (bytes : List ℕ) : Type 0 where
  pub within : length bytes ≤ most_bytes
  pub first : IsDamaged bytes damage
  pub none : (value : Compiled) → ¬ (IsFileOf value bytes)

-- want of memory may come whatever is held
abbrev pub FitsStop : Option (List ℕ) → FileStop → Type 0
FitsStop held stop.Missing = IsNone held
FitsStop held stop.ReadFault = IsSome held
FitsStop held (stop.TooLong n) = IsSomeAnd held (λ bytes. (most_bytes < length bytes) × (n ≡ most_bytes + 1))
FitsStop held (stop.Damaged damage) = IsSomeAnd held (IsNoFile damage)
FitsStop held stop.NoMemory = Unit {0}

abbrev pub OnUnread : (FileStop → Type 0) → MigrateStop → Type 0
OnUnread P (migration.Unread stop) = P stop
OnUnread P (migration.Unwritten stop) = Unit {0}

abbrev pub OnUnwritten : (EncodeStop → Type 0) → MigrateStop → Type 0
OnUnwritten P (migration.Unread stop) = Unit {0}
OnUnwritten P (migration.Unwritten stop) = P stop
