use Rattle.std.proofs.Common.{◌≡◌, ℕ, ◌<◌, ◌≤◌, ◌⊎◌, Some}
use Rattle.std.specs.Prelude.{slice_get, slice_index, IsTrue}
use Rattle.route_split.specs.declared.place.Place.{Place}
use Rattle.route_split.specs.Route.{arrivals_of}
use Rattle.two_trip_rides.specs.First.{Falls, IsLeftAfter}
use Rattle.two_trip_rides.proofs.first.leave_own.Given as goal

abbrev pub invariant-loop-next : goal.invariant-loop-next
invariant-loop-next l = record {
  falls : Falls l.fn.own l.own;
  known : (k : ℕ) (off : Place) → l.call < k → k < l.next → slice_get l.rows.places k ≡ Some off → IsTrue off.alight
      → slice_index l.own off.stop.0 ≤ slice_index (arrivals_of l.rows k) l.row;
  changed : (x : ℕ) → (slice_index l.own x ≡ slice_index l.fn.own x) ⊎ IsLeftAfter l.rows l.call l.row x (slice_index l.own x);
}
