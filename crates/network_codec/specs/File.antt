-- Which value a file holds, and how a file is damaged.
--     IsFileOf c bytes           the bytes are the file of c, of version 1 or of version 2
--     IsCutOff bytes             the bytes are too few for the head, or for the body that the head tells of
--     body_of bytes              the bytes of the body, as long as the head tells
--     Begins k version c body    the first k sections of c stand at the front of the body, and keep their rules
--     IsBroken n ..              section n is the first that is cut off or breaks a rule; 10 where bytes are left
--     IsDamaged bytes damage     the first kind of damage
use Rattle.std.specs.Prelude.{◌≡◌, ◌≢◌, ◌⊎◌, ℕ, ◌+◌, ◌-◌, ◌<◌, ◌≤◌, List, [], ◌++◌, length, take, drop}
use Rattle.std.specs.List.{concat}
use Rattle.std.specs.Int.{w64, from_be_bytes}
use Rattle.sha2.specs.Sha256.{sha256}
use Rattle.network_bytes.specs.Bytes.{word}
use Rattle.network_file.specs.declared.compiled.Compiled.{Compiled}
use Rattle.network_codec.specs.declared.version.Version.{Version}
use Rattle.network_codec.specs.declared.damage.Damage.{Damage}
use Rattle.network_codec.specs.declared.damage.Damage.TheVariants as damage
use Rattle.network_codec.specs.Form.{mark, number_of, sections, file}
use Rattle.network_codec.specs.Rules.{KeepsSections, IsWritable}

pub record IsFileOf (c : Compiled) (bytes : List ℕ) : Type 0 where
  pub version : Version
  pub bytes_are : bytes ≡ file version c
  pub rules : IsWritable version c

-- the length of the body, as the head tells it
abbrev pub told : List ℕ → ℕ
told bytes = from_be_bytes w64 (take 8 (drop 12 bytes))

abbrev pub IsCutOff : List ℕ → Type 0
IsCutOff bytes = (length bytes < 52) ⊎ (length bytes < 52 + told bytes)

abbrev pub body_of : List ℕ → List ℕ
body_of bytes = take (told bytes) (drop 52 bytes)

pub record IsMarked (bytes : List ℕ) : Type 0 where
  pub whole : ¬ (IsCutOff bytes)
  pub marked : take 8 bytes ≡ mark

abbrev pub HasVersion : Version → List ℕ → Type 0
HasVersion version bytes = take 4 (drop 8 bytes) ≡ word (number_of version)

-- the head of a file of this version is right, up to the digest
pub record IsHeaded (version : Version) (bytes : List ℕ) : Type 0 where
  pub marked : IsMarked bytes
  pub version_is : HasVersion version bytes

abbrev pub HasDigest : List ℕ → Type 0
HasDigest bytes = take 32 (drop 20 bytes) ≡ sha256 (body_of bytes)

pub record Begins (k : ℕ) (version : Version) (c : Compiled) (body rest : List ℕ) : Type 0 where
  pub parts : body ≡ concat (take k (sections version c)) ++ rest
  pub rules : KeepsSections k version c

-- the sections before it are those of some value, and there is none that has this section too
pub record IsBrokenAt (n : ℕ) (version : Version) (body : List ℕ) : Type 0 where
  pub numbered : (1 ≤ n) × (n ≤ 9)
  pub c : Compiled
  pub rest : List ℕ
  pub before : Begins (n - 1) version c body rest
  pub none : (other : Compiled) (after : List ℕ) → Begins n version other body after → ⊥

-- all sections are those of some value, and bytes are left in the body or stand behind it
pub record HasMore (version : Version) (bytes : List ℕ) : Type 0 where
  pub c : Compiled
  pub rest : List ℕ
  pub before : Begins 9 version c (body_of bytes) rest
  pub more : (rest ≢ []) ⊎ (52 + told bytes < length bytes)

abbrev pub IsBroken : ℕ → Version → List ℕ → Type 0
IsBroken n version bytes = IsBrokenAt n version (body_of bytes) ⊎ ((n ≡ 10) × HasMore version bytes)

-- the kinds are tested in this order
abbrev pub IsDamaged : List ℕ → Damage → Type 0
IsDamaged bytes damage.TooShort = IsCutOff bytes
IsDamaged bytes damage.Magic = ¬ (IsCutOff bytes) × (take 8 bytes ≢ mark)
IsDamaged bytes damage.Version = IsMarked bytes × ((version : Version) → ¬ (HasVersion version bytes))
IsDamaged bytes damage.Digest = (version : Version) × (IsHeaded version bytes × ¬ (HasDigest bytes))
IsDamaged bytes (damage.Section n) = (version : Version) × (IsHeaded version bytes × (HasDigest bytes × IsBroken n version bytes))
