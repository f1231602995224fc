-- The bytes that a map of files holds.
--     held_in files name      the bytes under a name, or None where the name is not held
use Rattle.std.specs.Prelude.{ℕ, List, Option, option_map}
use Rattle.std.specs.declared.alloc.Global.{Global}
use Rattle.std.specs.declared.vec.Vec.{Vec}
use Rattle.std.specs.declared.string.String.{String}
use Rattle.std.specs.BTreeMap.{BTreeMap, get_by_text}

-- the bytes under a name, or None where the name is not held
abbrev pub held_in : BTreeMap (String Global) (Vec ℕ Global) → List ℕ → Option (List ℕ)
held_in files name = option_map (λ v. v.items) (get_by_text files name)
