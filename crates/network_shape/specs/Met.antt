-- Which arcs without a middle have the seconds of a street arc.
--     IsLeastOf streets arc      an arc without a middle has the seconds of the least street arc
--     IsStreet arc street        the arc has no middle, and the street arc has its ends
--     AreMet streets arcs met i  the marks are those of the arcs that have the seconds of one of the first i street arcs, and
--                                none of these has fewer
--     AllMet arcs met            each arc without a middle has a mark
use Rattle.std.specs.Prelude.{◌≡◌, ◌<◌, ◌≤◌, ℕ, Bool, true, false, List, length, slice_index_or, Contains}
use Rattle.move_model.specs.declared.network.Arc.{Arc}
use Rattle.move_model.specs.Streets.{IsLeastArc}
use Rattle.walk_hierarchy.specs.declared.arcs.UpDown.{UpDown}
use Rattle.network_shape.specs.Search.{HasEnds}

abbrev pub IsLeastOf : List Arc → UpDown → Type 0
IsLeastOf streets arc = arc.middle.0 ≡ 0 → IsLeastArc streets arc.from arc.to arc.seconds

abbrev pub IsStreet : UpDown → Arc → Type 0
IsStreet arc street = (arc.middle.0 ≡ 0) × HasEnds arc street.from street.to

pub record AreMet (streets : List Arc) (arcs : List UpDown) (met : List Bool) (i : ℕ) : Type 0 where
  pub one_each : length met ≡ length arcs
  pub attained : (j : ℕ) (d : UpDown) → j < length arcs → slice_index_or met j false ≡ true
      → Contains streets (record { from = (slice_index_or arcs j d).from; to = (slice_index_or arcs j d).to; seconds = (slice_index_or arcs j d).seconds })
  pub least : (k j : ℕ) (s : Arc) (d : UpDown) → k < i → j < length arcs → IsStreet (slice_index_or arcs j d) (slice_index_or streets k s)
      → (slice_index_or arcs j d).seconds ≤ (slice_index_or streets k s).seconds
  pub marked : (k j : ℕ) (s : Arc) (d : UpDown) → k < i → j < length arcs → IsStreet (slice_index_or arcs j d) (slice_index_or streets k s)
      → (slice_index_or arcs j d).seconds ≡ (slice_index_or streets k s).seconds → slice_index_or met j false ≡ true

abbrev pub AllMet : List UpDown → List Bool → Type 0
AllMet arcs met = (j : ℕ) (d : UpDown) → j < length arcs → (slice_index_or arcs j d).middle.0 ≡ 0 → slice_index_or met j false ≡ true
