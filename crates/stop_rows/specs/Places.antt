-- How the vertices of stops become places.
--     StandsAt stops v               some stop of the list stands at the vertex v
--     AreMarks stops marks           the vertices with a mark are those at which a stop stands
--     AreNumbers marks nodes at      the vertices with a mark have places by rising vertex: at has the place of each
--     AreAt stops at places          the places are those of the vertices of the stops
--     AreStopsAt places p row        the stops of the place p, by rising number
use Rattle.std.specs.Prelude.{◌≡◌, ◌↔◌, ℕ, ◌<◌, Bool, true, false, List, length, slice_get, slice_index, slice_index_or, Contains, Some}
use Rattle.std.specs.List.{AllAdjacentBelow}
use Rattle.move_model.specs.declared.network.NodeNo.{NodeNo}
use Rattle.move_model.specs.declared.network.Stop.{Stop}
use Rattle.move_model.specs.declared.network.StopNo.{StopNo}

pub record StandsAt (stops : List Stop) (v : ℕ) : Type 0 where
  pub place : ℕ
  pub stop : Stop
  pub is : slice_get stops place ≡ Some stop
  pub stands : stop.node.0 ≡ v

pub record AreMarks (stops : List Stop) (marks : List Bool) : Type 0 where
  pub only : (v : ℕ) → slice_index_or marks v false ≡ true → StandsAt stops v
  pub all : (x : ℕ) (stop : Stop) → slice_get stops x ≡ Some stop → slice_index_or marks stop.node.0 false ≡ true

pub record AreNumbers (marks : List Bool) (nodes : List NodeNo) (at : List ℕ) : Type 0 where
  pub rising : AllAdjacentBelow (λ v w. v.0 < w.0) nodes (length nodes)
  pub marked : (p : ℕ) (v : NodeNo) → slice_get nodes p ≡ Some v → slice_index_or marks v.0 false ≡ true
  pub numbered : (v : ℕ) → slice_index_or marks v false ≡ true → slice_get nodes (slice_index at v) ≡ Some (record { 0 = v })

pub record AreAt (stops : List Stop) (at places : List ℕ) : Type 0 where
  pub one_each : length places ≡ length stops
  pub each : (x : ℕ) (stop : Stop) → slice_get stops x ≡ Some stop → slice_index places x ≡ slice_index at stop.node.0

pub record AreStopsAt (places : List ℕ) (p : ℕ) (row : List StopNo) : Type 0 where
  pub exact : (x : StopNo) → Contains row x ↔ ((x.0 < length places) × (slice_index places x.0 ≡ p))
  pub rising : AllAdjacentBelow (λ x y. x.0 < y.0) row (length row)
