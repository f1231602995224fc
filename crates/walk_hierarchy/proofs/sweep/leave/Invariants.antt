use Rattle.std.proofs.Common.{◌≡◌, ◌≤◌, ℕ, length}
use Rattle.walk_hierarchy.specs.Search.{work_left}
use Rattle.walk_hierarchy.specs.Sweep.{IsSweeping}
use Rattle.walk_hierarchy.proofs.sweep.leave.Given as goal

abbrev pub invariant-loop-half : goal.invariant-loop-half
invariant-loop-half l = record {
  sweeping : (from : ℕ) → IsSweeping l.rows from l.at.0 l.seconds 0 l.fn.labels l.fn.waiting → IsSweeping l.rows from l.at.0 l.seconds l.half-index l.labels l.waiting;
  less : work_left l.labels l.waiting ≤ work_left l.fn.labels l.fn.waiting;
  many : length l.labels ≡ length l.fn.labels;
}
