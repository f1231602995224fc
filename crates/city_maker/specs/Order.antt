-- The numbers of trips, which are as for the trips of any day.
--     trip_cmp trip other          the seconds of the trips in lexicographic order, as an ordering
--     same_seconds trip other      the trips have the same seconds
--     IsNumbered trips numbered    the trips by rising seconds, those with the same seconds as they stood
use Rattle.std.specs.Prelude.{◌≡◌, ◌==◌, ◌&&◌, Bool, List, length, filter}
use Rattle.std.specs.List.{AllAdjacentBelow}
use Rattle.std.specs.List.Sorted.{IsPermutation}
use Rattle.std.specs.Cmp.Lexicographic.{slice_cmp, pointwise}
use Rattle.std.specs.Ordering.{nat_cmp, ordering_then}
use Rattle.std.specs.declared.cmp.Ordering.{Ordering}
use Rattle.move_model.specs.declared.network.Call.{Call}
use Rattle.move_model.specs.declared.network.Trip.{Trip}
use Rattle.move_model.specs.Network.{IsAtOrBefore}

-- by arrival, and then by departure
abbrev pub call_cmp : Call → Call → Ordering
call_cmp call other = ordering_then (nat_cmp call.arr other.arr) (nat_cmp call.dep other.dep)

-- by the first call that differs; a list comes after those that it begins with
abbrev pub trip_cmp : Trip → Trip → Ordering
trip_cmp trip other = slice_cmp call_cmp trip.calls other.calls

abbrev pub same_seconds : Trip → Trip → Bool
same_seconds trip other = pointwise (λ call next. (call.arr == next.arr) && (call.dep == next.dep)) trip.calls other.calls

pub record IsNumbered (trips numbered : List Trip) : Type 0 where
  pub same_trips : IsPermutation trips numbered
  pub by_seconds : AllAdjacentBelow (λ trip next. IsAtOrBefore trip.calls next.calls) numbered (length numbered)
  pub ties_stay : (trip : Trip) → filter (same_seconds trip) numbered ≡ filter (same_seconds trip) trips
