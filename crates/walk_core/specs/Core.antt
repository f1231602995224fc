-- A street graph that is contracted to a core.
--     Contraction                        its vertices, those that were contracted in their order, their ranks, and the lists of arcs
--     core_row, up_row, down_row core v  the lists of a vertex
--     Holds core v                       v is a vertex that was not contracted
--     IsBefore core v w                  v was contracted, and w later or never
--     IsCoreArc, IsArcUp, IsArcDown core p q l   an arc of the core, an arc up or an arc down leads from p to q in l seconds
--     IsWay core a b m                   arcs up, then arcs of the core, then arcs down lead from a to b, in m seconds in all
--     HasDifferentEnds row               no two arcs of the list have the same other end
--     AreArcs core                       the arcs lead to where was contracted later or not at all, one to each vertex, and none is
--                                        too long
--     IsUnfolded graph core p q arc      the arc is a least street, or stands for an arc down to its middle and an arc up from there
--     state_of core                      its lists of arcs and its ranks
--     IsContraction graph core           the core is one of the graph: its distances are those of the streets
--     IsCore core                        the core is one of some graph
use Rattle.std.specs.Prelude.{◌≡◌, ◌≢◌, ◌==◌, ℕ, ◌+◌, ◌<◌, ◌≤◌, ◌⊎◌, ◌↔◌, Bool, if◌then◌else◌, List, [], All, AllPairs, Contains, Option, Some, slice_get, slice_index_or}
use Rattle.std.specs.List.{list_any}
use Rattle.move_model.specs.declared.network.NodeNo.{NodeNo}
use Rattle.move_model.specs.Streets.{Streets, IsVertex, IsLeastArc, HasDistance}
use Rattle.walk_laws.specs.declared.CoreArc.{CoreArc}
use Rattle.street_graph.specs.Graph.{IsWithinLimits}
use Rattle.walk_laws.specs.Sums.{IsSum, HasLeast, View, Keeps, longest}
use Rattle.walk_core.specs.Ranks.{AreRanks}
use Rattle.walk_core.specs.Middles.{Ruled}

-- The arcs out of each vertex and into it, by its number: out of a vertex of the core to such vertices, and out of a
-- contracted vertex and into it, where `to` is the vertex at which the arc begins. The rank of a contracted vertex is its
-- place in the order, and that of any other the greatest number.
pub record Contraction : Type 0 where
  pub nodes : ℕ
  pub contracted : List NodeNo
  pub ranks : List ℕ
  pub arcs_out : List (List CoreArc)
  pub arcs_into : List (List CoreArc)

abbrev pub is_contracted : Contraction → ℕ → Bool
is_contracted core v = list_any (λ w. w.0 == v) core.contracted

-- the arcs of the core out of a vertex
abbrev pub core_row : Contraction → ℕ → List CoreArc
core_row core v = if is_contracted core v then [] else slice_index_or core.arcs_out v []

-- the arcs out of a contracted vertex
abbrev pub up_row : Contraction → ℕ → List CoreArc
up_row core v = if is_contracted core v then slice_index_or core.arcs_out v [] else []

-- the arcs into a contracted vertex
abbrev pub down_row : Contraction → ℕ → List CoreArc
down_row core v = if is_contracted core v then slice_index_or core.arcs_into v [] else []

pub record Holds (core : Contraction) (v : NodeNo) : Type 0 where
  pub from_one : 1 ≤ v.0
  pub to_nodes : v.0 ≤ core.nodes
  pub stays : Contains core.contracted v → ⊥

pub record IsBefore (core : Contraction) (v w : NodeNo) : Type 0 where
  pub place : ℕ
  pub there : slice_get core.contracted place ≡ Some v
  pub later : (k : ℕ) → slice_get core.contracted k ≡ Some w → place < k

-- some arc of the list has this other end and these seconds
abbrev pub HasEnd : List CoreArc → ℕ → ℕ → Type 0
HasEnd row q l = (middle : ℕ) × Contains row (record { to = record { 0 = q }; seconds = l; middle = record { 0 = middle } })

abbrev pub IsCoreArc : Contraction → ℕ → ℕ → ℕ → Type 0
IsCoreArc core p q l = HasEnd (core_row core p) q l

abbrev pub IsArcUp : Contraction → ℕ → ℕ → ℕ → Type 0
IsArcUp core p q l = HasEnd (up_row core p) q l

abbrev pub IsArcDown : Contraction → ℕ → ℕ → ℕ → Type 0
IsArcDown core p q l = HasEnd (down_row core q) p l

pub record IsWay (core : Contraction) (a b seconds : ℕ) : Type 0 where
  pub top : ℕ
  pub bend : ℕ
  pub l : ℕ
  pub k : ℕ
  pub n : ℕ
  pub up : IsSum (IsArcUp core) a top l
  pub over : IsSum (IsCoreArc core) top bend k
  pub down : IsSum (IsArcDown core) bend b n
  pub all : l + k + n ≡ seconds

abbrev pub HasDifferentEnds : List CoreArc → Type 0
HasDifferentEnds row = AllPairs (λ x y. x.to.0 ≢ y.to.0) row

pub record AreArcs (core : Contraction) : Type 0 where
  pub out_in_core : (v : NodeNo) → All (λ arc. Holds core v × Holds core arc.to) (core_row core v.0)
  pub up_later : (v : NodeNo) → All (λ arc. IsBefore core v arc.to) (up_row core v.0)
  pub down_later : (v : NodeNo) → All (λ arc. IsBefore core v arc.to) (down_row core v.0)
  pub out_ends : (v : NodeNo) → HasDifferentEnds (core_row core v.0)
  pub up_ends : (v : NodeNo) → HasDifferentEnds (up_row core v.0)
  pub down_ends : (v : NodeNo) → HasDifferentEnds (down_row core v.0)
  pub out_short : (v : NodeNo) → All (λ arc. arc.seconds ≤ longest) (core_row core v.0)
  pub up_short : (v : NodeNo) → All (λ arc. arc.seconds ≤ longest) (up_row core v.0)
  pub down_short : (v : NodeNo) → All (λ arc. arc.seconds ≤ longest) (down_row core v.0)

-- The arc from p to q with the middle m stands for an arc down from p to m and an arc up from m to q.
pub record IsByMiddle (core : Contraction) (p q : NodeNo) (seconds : ℕ) (m : NodeNo) : Type 0 where
  pub before_from : IsBefore core m p
  pub before_to : IsBefore core m q
  pub k : ℕ
  pub n : ℕ
  pub down : IsArcDown core p.0 m.0 k
  pub up : IsArcUp core m.0 q.0 n
  pub total : seconds ≡ k + n

abbrev pub IsUnfolded : Streets → Contraction → NodeNo → NodeNo → ℕ → NodeNo → Type 0
IsUnfolded graph core p q seconds middle =
    ((middle.0 ≡ 0) × IsLeastArc graph.arcs p q seconds) ⊎ IsByMiddle core p q seconds middle

-- each arc unfolds, so it stands for streets of its seconds
pub record AreUnfolded (graph : Streets) (core : Contraction) : Type 0 where
  pub out : (v : NodeNo) → All (λ arc. IsUnfolded graph core v arc.to arc.seconds arc.middle) (core_row core v.0)
  pub up : (v : NodeNo) → All (λ arc. IsUnfolded graph core v arc.to arc.seconds arc.middle) (up_row core v.0)
  pub down : (v : NodeNo) → All (λ arc. IsUnfolded graph core arc.to v arc.seconds arc.middle) (down_row core v.0)

-- what a further contraction goes on from
abbrev pub state_of : Contraction → View
state_of core = record { out = core.arcs_out; into = core.arcs_into; rank = core.ranks }

-- The lists of all vertices keep the distances and the rule on middles, those into a vertex of the core too, so that more
-- vertices can be contracted.
pub record IsContraction (graph : Streets) (core : Contraction) : Type 0 where
  pub limits : IsWithinLimits graph
  pub nodes : core.nodes ≡ graph.nodes
  pub ranks : AreRanks core.nodes core.ranks core.contracted
  pub contracted : All (IsVertex graph) core.contracted
  pub each_once : AllPairs (λ v w. v ≢ w) core.contracted
  pub arcs : AreArcs core
  pub unfolded : AreUnfolded graph core
  pub keeps : Keeps graph (state_of core)
  pub ruled : Ruled graph (state_of core)
  pub distances : (a b : NodeNo) (r : Option ℕ) → IsVertex graph a → HasLeast (IsWay core a.0 b.0) r ↔ HasDistance graph a b r
  pub core_distances : (a b : NodeNo) (r : Option ℕ) → Holds core a → Holds core b
      → HasLeast (IsSum (IsCoreArc core) a.0 b.0) r ↔ HasDistance graph a b r

-- whatever the graph
abbrev pub IsCore : Contraction → Type 0
IsCore core = (graph : Streets) × IsContraction graph core
