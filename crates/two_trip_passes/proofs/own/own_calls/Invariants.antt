use Rattle.std.proofs.Common.{◌≡◌, ℕ, ◌⊎◌, take}
use Rattle.std.specs.Prelude.{All, slice_index}
use Rattle.two_trip_rides.specs.First.{Falls}
use Rattle.two_trip_passes.specs.Own.{IsOwnOf, OwnAt}
use Rattle.two_trip_passes.proofs.own.own_calls.Given as goal

abbrev pub invariant-loop-call : goal.invariant-loop-call
invariant-loop-call l = record {
  falls : Falls l.fn.own l.own;
  known : All (OwnAt l.routes l.departs l.own) (take l.call-index l.calls);
  changed : (x : ℕ) → (slice_index l.own x ≡ slice_index l.fn.own x) ⊎ IsOwnOf l.routes l.departs l.calls x (slice_index l.own x);
}
