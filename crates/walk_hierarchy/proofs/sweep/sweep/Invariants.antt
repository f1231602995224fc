use Rattle.std.proofs.Common.{◌≡◌, length}
use Rattle.walk_hierarchy.specs.Search.{work_left}
use Rattle.walk_hierarchy.specs.Sweep.{IsSweep}
use Rattle.walk_hierarchy.proofs.sweep.sweep.Given as goal

abbrev pub invariant-places : goal.invariant-places
invariant-places l = record {
  sweep : IsSweep l.rows l.fn.from.0 l.labels l.waiting;
  many : length l.labels ≡ length l.fn.labels;
}

abbrev pub decreases-places : goal.decreases-places
decreases-places l = work_left l.labels l.waiting
