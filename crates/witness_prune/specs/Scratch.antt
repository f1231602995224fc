-- The scratch memory of a search, and what it holds at a place.
--     row_from rows place               the seconds from a place to each place
--     parts_at routes rows place foot   the parts that a search from the place reads, with the seconds to each stop
--     IsFootFrom rows place foot        the seconds from the place to each stop
--     FitsScratch routes rows s         the memory is as long as there are routes, calls, stops and places
--     IsAt n rows routes place z s      at the second z the memory holds what is kept at the place
--     IsBoarded n rows routes place z g s   at the second z the memory holds what is kept there, and first rides were boarded at
--                                       all stops that are walked to before the second g
--     AddsNeeded n us z needed needed'   the needed walks of some stops at a second are added, and no others
use Rattle.std.specs.Prelude.{◌≡◌, ◌↔◌, ◌⊎◌, ℕ, ◌<◌, ◌≤◌, List, [], length, slice_get, slice_index, slice_index_or, All, Contains, Some, vec_capacity}
use Rattle.move_model.specs.declared.network.Network.{Network}
use Rattle.move_model.specs.declared.network.NodeNo.{NodeNo}
use Rattle.move_model.specs.declared.network.StopNo.{StopNo}
use Rattle.route_split.specs.Route.{Route}
use Rattle.stop_rows.specs.Rows.{Rows, entry}
use Rattle.piece_laws.specs.Pieces.{IsNeeded}
use Rattle.two_trip_labels.specs.Closed.{Parts}
use Rattle.two_trip_passes.specs.Step.{parts_of}
use Rattle.witness_prune.specs.declared.scratch.Scratch.{Scratch}
use Rattle.witness_prune.specs.Needed.{Pair}
use Rattle.witness_prune.specs.Labels.{kept_of, Fits, HasDue, IsKept, IsDone}

abbrev pub row_from : Rows → ℕ → List ℕ
row_from rows place = slice_index_or rows.seconds place []

abbrev pub parts_at : List Route → Rows → ℕ → List ℕ → Parts
parts_at routes rows place foot = parts_of routes foot (row_from rows place) rows

pub record IsFootFrom (rows : Rows) (place : ℕ) (foot : List ℕ) : Type 0 where
  pub many : length foot ≡ length rows.places
  pub each : (x : ℕ) → x < length rows.places → slice_index foot x ≡ entry rows place (slice_index rows.places x)

pub record FitsScratch (routes : List Route) (rows : Rows) (s : Scratch) : Type 0 where
  pub places : s.places.items ≡ rows.places
  pub within : All (λ p. p < length rows.nodes) s.places.items
  pub foot : length s.foot.items ≡ length rows.places
  pub labels : Fits routes rows (kept_of s.labels)
  pub due : HasDue routes rows s.labels
  pub cuts : length s.cuts.items ≡ length rows.nodes
  pub own : length s.own.items ≡ length rows.places
  pub room : length rows.places ≤ vec_capacity s.pairs

pub record IsAt (n : Network) (rows : Rows) (routes : List Route) (place z : ℕ) (s : Scratch) : Type 0 where
  pub exists : place < length rows.nodes
  pub foot : IsFootFrom rows place s.foot.items
  pub kept : (q : NodeNo) → slice_get rows.nodes place ≡ Some q → IsKept n q z (parts_at routes rows place s.foot.items) (kept_of s.labels)

pub record IsBoarded (n : Network) (rows : Rows) (routes : List Route) (place z g : ℕ) (s : Scratch) : Type 0 where
  pub exists : place < length rows.nodes
  pub foot : IsFootFrom rows place s.foot.items
  pub done : (q : NodeNo) → slice_get rows.nodes place ≡ Some q → IsDone n q z g (parts_at routes rows place s.foot.items) (kept_of s.labels)

abbrev pub AddsNeeded : Network → List StopNo → ℕ → List Pair → List Pair → Type 0
AddsNeeded n us z needed needed' = (x y : StopNo) → Contains needed' (x, y) ↔ (Contains needed (x, y) ⊎ IsNeeded n us z x y)
