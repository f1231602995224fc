-- Walks that grow.
--     IsWay g a b m places since    the places are a walk from a to b of m seconds, which goes on to another vertex at each step, and
--                                   comes to no vertex twice at one second; the places from `since` on are reached at its last second
use Rattle.std.specs.Prelude.{◌≡◌, ◌≢◌, ◌↔◌, ℕ, ◌<◌, ◌≤◌, List, ◌++◌, length, All}
use Rattle.std.specs.List.{AllAdjacentBelow}
use Rattle.move_model.specs.declared.network.NodeNo.{NodeNo}
use Rattle.move_model.specs.Streets.{Streets, IsVertex, IsWalk}
use Rattle.walk_hierarchy.specs.Hierarchy.{HasNoIdleCircle}

pub record IsWay (g : Streets) (a b : NodeNo) (seconds : ℕ) (places : List NodeNo) (since : ℕ) : Type 0 where
  pub walks : IsWalk g a places b seconds
  pub vertices : All (IsVertex g) places
  pub goes_on : AllAdjacentBelow (λ p q. p ≢ q) places (length places)
  pub no_circle : HasNoIdleCircle g places
  pub low : since < length places
  pub late : (us vs : List NodeNo) (v : NodeNo) (m : ℕ) → places ≡ us ++ vs → IsWalk g v vs b m → (m ≡ 0) ↔ (since ≤ length us)
