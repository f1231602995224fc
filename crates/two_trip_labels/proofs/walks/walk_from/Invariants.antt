use Rattle.std.proofs.Common.{◌≡◌, ℕ, ◌-◌, ◌<◌, ◌≤◌, ◌⊎◌, length}
use Rattle.two_trip_rides.specs.Second.{ready_at}
use Rattle.two_trip_labels.specs.Walks.{ReadyFall, IsWalkLabel, IsWalkedTo}
use Rattle.two_trip_labels.proofs.walks.walk_from.Given as goal

abbrev pub invariant-loop-from : goal.invariant-loop-from
invariant-loop-from l = record {
  within : l.from ≤ length l.row;
  known : (p : ℕ) → p < l.from → IsWalkedTo l.row l.foot l.second l.a1 l.c l.ready p;
  falls : ReadyFall l.fn.ready l.ready;
  changed : (p : ℕ) → (ready_at l.ready p ≡ ready_at l.fn.ready p) ⊎ IsWalkLabel l.row l.a1 l.c p (ready_at l.ready p);
}

abbrev pub decreases-loop-from : goal.decreases-loop-from
decreases-loop-from l = length l.row - l.from
