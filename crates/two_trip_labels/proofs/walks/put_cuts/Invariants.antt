use Rattle.std.proofs.Common.{◌≡◌, ℕ, ◌+◌, ◌<◌, ◌≤◌, ◌⊎◌, length}
use Rattle.std.specs.Prelude.{slice_index}
use Rattle.two_trip_rides.specs.Second.{ready_at}
use Rattle.two_trip_labels.proofs.walks.put_cuts.Given as goal

abbrev pub invariant-loop-place : goal.invariant-loop-place
invariant-loop-place l = record {
  many : length l.cuts ≡ length l.ready;
  each : (p a : ℕ) → p < l.place → slice_index l.cuts p < a → (l.second + slice_index l.foot p ≤ a) ⊎ ((ready_at l.ready p).ready < a);
}
