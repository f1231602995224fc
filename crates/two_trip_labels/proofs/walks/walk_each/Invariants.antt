use Rattle.std.proofs.Common.{◌≡◌, ℕ, ◌<◌, ◌≤◌, ◌⊎◌}
use Rattle.two_trip_rides.specs.Second.{ready_at}
use Rattle.two_trip_labels.specs.Walks.{ReadyFall, IsWalkLabel, IsWalkedTo}
use Rattle.two_trip_labels.proofs.walks.walk_each.Given as goal

abbrev pub invariant-loop-place : goal.invariant-loop-place
invariant-loop-place l = record {
  known : (p : ℕ) → l.from ≤ p → p < l.place → IsWalkedTo l.row l.foot l.second l.a1 l.c l.ready p;
  falls : ReadyFall l.fn.ready l.ready;
  changed : (p : ℕ) → (ready_at l.ready p ≡ ready_at l.fn.ready p) ⊎ IsWalkLabel l.row l.a1 l.c p (ready_at l.ready p);
}
