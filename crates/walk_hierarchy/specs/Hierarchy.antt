-- Hierarchies of street graphs: ranks of the vertices, arcs up to greater ranks, and arcs down to lesser ones.
--     IsNode h v                 v is a vertex of h
--     rank_of h v                the rank of the vertex v
--     HasArc arcs p q l          one of the arcs leads from p to q in l seconds
--     IsHierarchy h              the rules of a hierarchy by itself: of its ranks, its arcs, and how an added arc is made of two others
--     IsOver graph h             the arcs of h that aren't added are least arcs of the graph
--     IsUpSum h a v m            some list of arcs up leads from a to v, with m seconds in all
--     IsDownSum h v b m          some list of arcs down leads from v to b, with m seconds in all
--     IsUpDownSum h a b m        arcs up, and then arcs down, lead from a to b, with m seconds in all
--     GivesDistances graph h     the least such sums are the distances of the graph
--     AreSettled sum entries     the entries are the least sums, one for each vertex that has one
--     HasNoIdleCircle graph walk  no part of the walk comes back to its first vertex in 0 seconds
--     IsWayOver graph h a b walk  a walk from a to b that has the least seconds of arcs up and arcs down, and no idle circle
--     IsShortestWalk graph a b walk  a walk from a to b that has the seconds of the distance, and comes to no vertex twice
use Rattle.std.specs.Prelude.{◌≡◌, ◌≢◌, ℕ, ◌+◌, ◌-◌, ◌<◌, ◌≤◌, ◌⊎◌, ◌↔◌, List, ◌++◌, length, slice_index, All, AllPairs, Contains, Option}
use Rattle.std.specs.List.{AllAdjacentBelow}
use Rattle.move_model.specs.declared.network.NodeNo.{NodeNo}
use Rattle.move_model.specs.Streets.{Streets, IsVertex, IsLeastArc, IsWalk, IsDistance, HasDistance}
use Rattle.walk_laws.specs.Sums.{IsSum, IsLeast, HasLeast, longest}
use Rattle.walk_hierarchy.specs.declared.arcs.UpDown.{UpDown}
use Rattle.walk_hierarchy.specs.declared.settled.Settled.{Settled}

-- the rank of each vertex, from vertex 1, the arcs up and the arcs down
pub record Parts : Type 0 where
  pub ranks : List ℕ
  pub up : List UpDown
  pub down : List UpDown

pub record IsNode (h : Parts) (v : NodeNo) : Type 0 where
  pub from_one : 1 ≤ v.0
  pub to_nodes : v.0 ≤ length h.ranks

abbrev pub rank_of : Parts → NodeNo → ℕ
rank_of h v = slice_index h.ranks (v.0 - 1)

-- whatever the middle
abbrev pub HasArc : List UpDown → ℕ → ℕ → ℕ → Type 0
HasArc arcs p q l =
    (middle : NodeNo) × Contains arcs (record { from = record { 0 = p }; to = record { 0 = q }; seconds = l; middle = middle })

-- each number below the number of vertices is a rank once
pub record AreRanks (ranks : List ℕ) : Type 0 where
  pub below : All (λ rank. rank < length ranks) ranks
  pub once : AllPairs (λ rank other. rank ≢ other) ranks

pub record IsArcUp (h : Parts) (arc : UpDown) : Type 0 where
  pub from : IsNode h arc.from
  pub to : IsNode h arc.to
  pub rises : rank_of h arc.from < rank_of h arc.to
  pub short : arc.seconds ≤ longest

pub record IsArcDown (h : Parts) (arc : UpDown) : Type 0 where
  pub from : IsNode h arc.from
  pub to : IsNode h arc.to
  pub falls : rank_of h arc.to < rank_of h arc.from
  pub short : arc.seconds ≤ longest

-- by the vertex where an arc begins, and then by that at its end
abbrev pub IsBefore : UpDown → UpDown → Type 0
IsBefore arc other = (arc.from.0 < other.from.0) ⊎ ((arc.from.0 ≡ other.from.0) × (arc.to.0 < other.to.0))

-- the middle is a vertex below both ends, between an arc down to it and an arc up from it that have the seconds together
pub record IsAdded (h : Parts) (arc : UpDown) : Type 0 where
  pub middle : IsNode h arc.middle
  pub below_from : rank_of h arc.middle < rank_of h arc.from
  pub below_to : rank_of h arc.middle < rank_of h arc.to
  pub l : ℕ
  pub k : ℕ
  pub first : HasArc h.down arc.from.0 arc.middle.0 l
  pub second : HasArc h.up arc.middle.0 arc.to.0 k
  pub total : l + k ≡ arc.seconds

-- an arc without a middle is no added one
abbrev pub IsMade : Parts → UpDown → Type 0
IsMade h arc = arc.middle.0 ≢ 0 → IsAdded h arc

pub record IsHierarchy (h : Parts) : Type 0 where
  pub has_node : 1 ≤ length h.ranks
  pub nodes : length h.ranks ≤ 2000000
  pub ranks : AreRanks h.ranks
  pub up : All (IsArcUp h) h.up
  pub up_in_order : AllAdjacentBelow IsBefore h.up (length h.up)
  pub up_made : All (IsMade h) h.up
  pub down : All (IsArcDown h) h.down
  pub down_in_order : AllAdjacentBelow IsBefore h.down (length h.down)
  pub down_made : All (IsMade h) h.down

abbrev pub IsLeastStreet : Streets → UpDown → Type 0
IsLeastStreet graph arc = arc.middle.0 ≡ 0 → IsLeastArc graph.arcs arc.from arc.to arc.seconds

pub record IsOver (graph : Streets) (h : Parts) : Type 0 where
  pub nodes : graph.nodes ≡ length h.ranks
  pub up : All (IsLeastStreet graph) h.up
  pub down : All (IsLeastStreet graph) h.down

abbrev pub IsUpSum : Parts → ℕ → ℕ → ℕ → Type 0
IsUpSum h = IsSum (HasArc h.up)

abbrev pub IsDownSum : Parts → ℕ → ℕ → ℕ → Type 0
IsDownSum h = IsSum (HasArc h.down)

pub record IsUpDownSum (h : Parts) (a b : NodeNo) (seconds : ℕ) : Type 0 where
  pub top : ℕ
  pub l : ℕ
  pub k : ℕ
  pub up : IsUpSum h a.0 top l
  pub down : IsDownSum h top b.0 k
  pub total : l + k ≡ seconds

pub record GivesDistances (graph : Streets) (h : Parts) : Type 0 where
  pub nodes : graph.nodes ≡ length h.ranks
  pub distances : (a b : NodeNo) (r : Option ℕ) → IsVertex graph a → IsVertex graph b → HasLeast (IsUpDownSum h a b) r ↔ HasDistance graph a b r

-- `sum v` says which numbers are sums at the vertex v
pub record AreSettled (sum : ℕ → ℕ → Type 0) (entries : List Settled) : Type 0 where
  pub least : (v m : ℕ) → Contains entries (record { node = record { 0 = v }; seconds = m }) ↔ IsLeast (sum v) m
  pub once : AllPairs (λ entry other. entry.node ≢ other.node) entries

-- so the walk comes to no vertex twice at one second; a part that is one vertex alone stays there
abbrev pub HasNoIdleCircle : Streets → List NodeNo → Type 0
HasNoIdleCircle graph walk = (us vs ws : List NodeNo) (v : NodeNo) → walk ≡ us ++ vs ++ ws → IsWalk graph v vs v 0 → length vs ≡ 1

pub record IsWayOver (graph : Streets) (h : Parts) (a b : NodeNo) (walk : List NodeNo) : Type 0 where
  pub seconds : ℕ
  pub walks : IsWalk graph a walk b seconds
  pub least : IsLeast (IsUpDownSum h a b) seconds
  pub goes_on : AllAdjacentBelow (λ p q. p ≢ q) walk (length walk)
  pub no_idle_circle : HasNoIdleCircle graph walk

pub record IsShortestWalk (graph : Streets) (a b : NodeNo) (walk : List NodeNo) : Type 0 where
  pub seconds : ℕ
  pub walks : IsWalk graph a walk b seconds
  pub least : IsDistance graph a b seconds
  pub no_vertex_twice : AllPairs (λ p q. p ≢ q) walk
