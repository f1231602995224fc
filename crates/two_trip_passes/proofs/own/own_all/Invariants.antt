use Rattle.std.proofs.Common.{◌≡◌, ℕ, ◌⊎◌, take}
use Rattle.std.specs.Prelude.{All, slice_index}
use Rattle.two_trip_rides.specs.First.{Falls}
use Rattle.two_trip_passes.specs.Own.{IsOwnOfAny, OwnFrom}
use Rattle.two_trip_passes.proofs.own.own_all.Given as goal

abbrev pub invariant-loop-stop : goal.invariant-loop-stop
invariant-loop-stop l = record {
  falls : Falls l.fn.own l.own;
  known : All (OwnFrom l.routes l.departs l.own) (take l.stop-index l.stops);
  changed : (x : ℕ) → (slice_index l.own x ≡ slice_index l.fn.own x) ⊎ IsOwnOfAny l.routes l.departs l.stops x (slice_index l.own x);
}
