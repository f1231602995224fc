use Rattle.std.proofs.Common.{◌≡◌, ◌≤◌, ℕ, length}
use Rattle.walk_hierarchy.specs.Search.{IsGoing, IsOnward, work_left}
use Rattle.walk_hierarchy.proofs.search.leave.Given as goal

abbrev pub invariant-loop-half : goal.invariant-loop-half
invariant-loop-half l = record {
  going : (from bound : ℕ) → IsGoing l.rows from bound l.at.0 l.seconds 0 l.fn.labels l.fn.queue → IsGoing l.rows from bound l.at.0 l.seconds l.half-index l.labels l.queue;
  onward : IsOnward l.fn.labels l.fn.queue l.labels l.queue;
  less : work_left l.labels l.queue ≤ work_left l.fn.labels l.fn.queue;
  many : length l.labels ≡ length l.fn.labels;
}
