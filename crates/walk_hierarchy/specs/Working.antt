-- What contracts see of the scratch memory of searches.
--     Working                    for how many vertices it was made, and the settled entries
use Rattle.std.specs.Prelude.{ℕ, List}
use Rattle.walk_hierarchy.specs.declared.settled.Settled.{Settled}

pub record Working : Type 0 where
  pub nodes : ℕ
  pub settled : List Settled
