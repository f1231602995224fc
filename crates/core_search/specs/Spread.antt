-- Labels that spread over a core.
--     Comes walk labels v y      y is a label that stood at some vertex, with the seconds of arcs from there to v added
--     HasLeastLabel walk labels v r   r is the least label that comes to v, or None where none comes
--     IsWalk core a b m          arcs of the core lead from a to b, in m seconds in all
--     StandAt core labels        labels stand at vertices of the core alone
--     IsSpread core old new      new has for each vertex the least of the labels that come to it over the core
--     IsSpreadOver graph old new the same by the distances of a graph
use Rattle.std.specs.Prelude.{◌≡◌, ℕ, ◌≤◌, List, Option, Some, None}
use Rattle.move_model.specs.Streets.{Streets, IsDistance}
use Rattle.walk_laws.specs.Sums.{IsSum}
use Rattle.walk_core.specs.Core.{Contraction, Holds, IsCoreArc}
use Rattle.core_search.specs.declared.label.Label.{Label}
use Rattle.core_search.specs.Label.{IsUpto, after, label_at}

-- `walk a b m` says that m seconds lead from a to b
pub record Comes (walk : ℕ → ℕ → ℕ → Type 0) (labels : List (Option Label)) (v : ℕ) (y : Label) : Type 0 where
  pub from : ℕ
  pub x : Label
  pub m : ℕ
  pub stood : label_at labels from ≡ Some x
  pub leads : walk from v m
  pub is : y ≡ after x m

pub record IsLeastLabel (walk : ℕ → ℕ → ℕ → Type 0) (labels : List (Option Label)) (v : ℕ) (x : Label) : Type 0 where
  pub attained : Comes walk labels v x
  pub least : (y : Label) → Comes walk labels v y → IsUpto x y

abbrev pub HasLeastLabel : (ℕ → ℕ → ℕ → Type 0) → List (Option Label) → ℕ → Option Label → Type 0
HasLeastLabel walk labels v (Some x) = IsLeastLabel walk labels v x
HasLeastLabel walk labels v None = (y : Label) → Comes walk labels v y → ⊥

-- arcs of the core, none or more
abbrev pub IsCoreWalk : Contraction → ℕ → ℕ → ℕ → Type 0
IsCoreWalk core a b m = IsSum (IsCoreArc core) a b m

-- the distance of two vertices of a graph
abbrev pub IsApart : Streets → ℕ → ℕ → ℕ → Type 0
IsApart graph a b m = IsDistance graph (record { 0 = a }) (record { 0 = b }) m

abbrev pub StandInCore : Contraction → List (Option Label) → Type 0
StandInCore core labels = (v : ℕ) (x : Label) → label_at labels v ≡ Some x → Holds core (record { 0 = v })

-- no label has more seconds
abbrev pub most : ℕ
most = 4000000000000

abbrev pub AreShort : List (Option Label) → Type 0
AreShort labels = (v : ℕ) (x : Label) → label_at labels v ≡ Some x → x.seconds ≤ most

abbrev pub IsSpread : Contraction → List (Option Label) → List (Option Label) → Type 0
IsSpread core old new = (v : ℕ) → HasLeastLabel (IsCoreWalk core) old v (label_at new v)

abbrev pub IsSpreadOver : Streets → Contraction → List (Option Label) → List (Option Label) → Type 0
IsSpreadOver graph core old new = (v : ℕ) → Holds core (record { 0 = v }) → HasLeastLabel (IsApart graph) old v (label_at new v)
