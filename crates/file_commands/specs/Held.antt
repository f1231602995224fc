-- What names hold of network files.
--     most_bytes                     the most bytes of a network file that is read
--     IsOnlyFileOf value bytes       the bytes are the file of the value, of version 1 or of version 2, and of no value with other parts
--     IsNewestFileOf value bytes     the bytes are the file of the value of version 2
--     IsMigrated old new             new is the file of version 2 of the value whose file old is
--     HoldsMigrated old new          a name holds such a file of what a name held
--     HoldsPartMigrated old was now  a name holds what it held, or the first bytes of such a file
use Rattle.std.specs.Prelude.{◌≡◌, ◌⊎◌, ℕ, ◌^◌, ◌≤◌, List, length, take, Option, Some, IsSomeAnd}
use Rattle.network_file.specs.declared.compiled.Compiled.{Compiled}
use Rattle.network_codec.specs.declared.version.Version.TheVariants as version
use Rattle.network_codec.specs.Form.{file}
use Rattle.network_codec.specs.Rules.{IsWritable}
use Rattle.network_codec.specs.File.{IsFileOf}
use Rattle.network_decode.specs.Value.{HaveSameParts}

abbrev pub most_bytes : ℕ
most_bytes = 2 ^ 50

pub record IsOnlyFileOf (value : Compiled) (bytes : List ℕ) : Type 0 where
  pub within : length bytes ≤ most_bytes
  pub own : IsFileOf value bytes
  pub only : (other : Compiled) → IsFileOf other bytes → HaveSameParts value other

pub record IsNewestFileOf (value : Compiled) (bytes : List ℕ) : Type 0 where
  pub bytes_are : bytes ≡ file version.Two value
  pub rules : IsWritable version.Two value

-- whatever value the old bytes are the file of, for there are others with the same parts
pub record IsMigrated (old new : List ℕ) : Type 0 where
  pub some : (value : Compiled) × IsFileOf value old
  pub each : (value : Compiled) → IsFileOf value old → IsNewestFileOf value new

abbrev pub HoldsMigrated : Option (List ℕ) → Option (List ℕ) → Type 0
HoldsMigrated old new = IsSomeAnd old (λ bytes. IsSomeAnd new (IsMigrated bytes))

abbrev pub IsPartMigrated : List ℕ → Option (List ℕ) → Type 0
IsPartMigrated old now = (whole : List ℕ) × (n : ℕ) × (IsMigrated old whole × (now ≡ Some (take n whole)))

abbrev pub HoldsPartMigrated : Option (List ℕ) → Option (List ℕ) → Option (List ℕ) → Type 0
HoldsPartMigrated old was now = (now ≡ was) ⊎ IsSomeAnd old (λ bytes. IsPartMigrated bytes now)
