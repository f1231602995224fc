use Rattle.std.proofs.Common.{◌≡◌, ◌+◌, length}
use Rattle.walk_hierarchy.specs.Search.{work_left}
use Rattle.walk_hierarchy.specs.Meeting.{IsBoth}
use Rattle.walk_hierarchy.proofs.meeting.meet_between.Given as goal

abbrev pub invariant-both : goal.invariant-both
invariant-both l = record {
  both : IsBoth l.rows l.other l.fn.from.0 l.fn.to.0 l.best l.labels l.queue l.others l.waiting;
  many : length l.labels ≡ length l.fn.labels;
  others_many : length l.others ≡ length l.fn.labels;
}

abbrev pub decreases-both : goal.decreases-both
decreases-both l = work_left l.labels l.queue + work_left l.others l.waiting
