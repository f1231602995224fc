-- The files of compiled networks.
--     IsCompiledFile n bytes     the bytes are the newest file of a value that is right for n
--     HoldsPartCompiled n was now    a name holds what it held, or the first bytes of such a file
use Rattle.std.specs.Prelude.{◌≡◌, ◌⊎◌, ℕ, List, take, Option, Some}
use Rattle.move_model.specs.declared.network.Network.{Network}
use Rattle.network_file.specs.declared.compiled.Compiled.{Compiled}
use Rattle.network_file.specs.Compiled.{IsRight}
use Rattle.file_commands.specs.Held.{IsNewestFileOf}

pub record IsCompiledFile (n : Network) (bytes : List ℕ) : Type 0 where
  pub value : Compiled
  pub network : value.network ≡ n
  pub right : IsRight value
  pub written : IsNewestFileOf value bytes

abbrev pub IsPartCompiled : Network → Option (List ℕ) → Type 0
IsPartCompiled n now = (whole : List ℕ) × (k : ℕ) × (IsCompiledFile n whole × (now ≡ Some (take k whole)))

abbrev pub HoldsPartCompiled : Network → Option (List ℕ) → Option (List ℕ) → Type 0
HoldsPartCompiled n was now = (now ≡ was) ⊎ IsPartCompiled n now
