use Rattle.std.proofs.Common.{length, refl, sym, ◌∙◌}
use Rattle.walk_queue.specs.Keys.{IsEmpty}
use Rattle.walk_hierarchy.proofs.SearchLaws.{few_seconds, none_waits}
use Rattle.walk_hierarchy.proofs.MeetLaws.{both_first, both_swap, both_done}
use Rattle.walk_hierarchy.proofs.meeting.meet_between.Goals as goal

pub both-init : goal.both-init
both-init c = record {
  both = both_first c.args.rows.now c.args.other.now c.args.from.0 c.args.to.0 c.begin.new.labels c.begin.new.queue c.begin-2.new.labels c.begin-2.new.queue
      (c.begin.ensures.search c.args.rows.now 18446744073709551615) (c.begin-2.ensures.search c.args.other.now 18446744073709551615) c.begin.ensures.waits;
  many = c.begin.ensures.many;
  others_many = c.begin-2.ensures.many ∙ c.requires.same;
}

pub step-best-requires-clause-both : goal.step-best-requires-clause-both
step-best-requires-clause-both c = (c.args.other.now, (c.args.from.0, (c.args.to.0, (c.both.waiting, c.both.invariant.both))))

pub step-best-requires-clause-others_few : goal.step-best-requires-clause-others_few
step-best-requires-clause-others_few c = λ v x has.
    few_seconds c.args.other.now (length c.args.labels.now) c.requires.other_climbs (c.both.invariant.both.there.sound.sums v x has)

pub step-best-requires-in-both-clause-both : goal.step-best-requires-in-both-clause-both
step-best-requires-in-both-clause-both c =
    let both = c.step-best.ensures.both c.args.other.now c.args.from.0 c.args.to.0 c.both.waiting c.both.invariant.both in (
      c.args.rows.now,
      (
        c.args.to.0,
        (
          c.args.from.0,
          (
            c.step-best.new.queue,
            both_swap c.args.rows.now c.args.other.now c.args.from.0 c.args.to.0 c.step-best.result c.step-best.new.labels c.step-best.new.queue c.both.others c.both.waiting both,
          ),
        ),
      ),
    )

pub step-best-requires-in-both-clause-others_few : goal.step-best-requires-in-both-clause-others_few
step-best-requires-in-both-clause-others_few c = λ v x has.
    let both = c.step-best.ensures.both c.args.other.now c.args.from.0 c.args.to.0 c.both.waiting c.both.invariant.both in
    few_seconds c.args.rows.now (length c.args.labels.now) c.requires.climbs (both.here.sound.sums v x has)

pub both-preserved : goal.both-preserved
both-preserved c =
    let both = c.step-best.ensures.both c.args.other.now c.args.from.0 c.args.to.0 c.both.waiting c.both.invariant.both in
    let swapped =
    both_swap c.args.rows.now c.args.other.now c.args.from.0 c.args.to.0 c.step-best.result c.step-best.new.labels c.step-best.new.queue c.both.others c.both.waiting both in
    let later = c.step-best-in-both.ensures.both c.args.rows.now c.args.to.0 c.args.from.0 c.step-best.new.queue swapped in
    record {
      both = both_swap c.args.other.now c.args.rows.now c.args.to.0 c.args.from.0 c.step-best-in-both.result c.step-best-in-both.new.labels c.step-best-in-both.new.queue
          c.step-best.new.labels c.step-best.new.queue later;
      many = c.step-best.ensures.many ∙ c.both.invariant.many;
      others_many = c.step-best-in-both.ensures.many ∙ c.both.invariant.others_many;
    }

pub returns-clause-best : goal.returns-clause-best
returns-clause-best c =
    let empty : IsEmpty c.both.queue × IsEmpty c.both.waiting = c.both-test.ensures.0 refl in
    both_done c.args.rows.now c.args.other.now (length c.args.labels.now) c.requires.climbs c.requires.other_climbs c.args.from.0 c.args.to.0 c.both.best
    c.both.labels c.both.queue c.both.others c.both.waiting c.both.invariant.both empty.0 empty.1

pub returns-clause-queue : goal.returns-clause-queue
returns-clause-queue c =
    let empty : IsEmpty c.both.queue × IsEmpty c.both.waiting = c.both-test.ensures.0 refl in
    none_waits c.both.queue (length c.args.labels.now) (c.both.invariant.both.here.sound.room ∙ c.both.invariant.many) empty.0 ∙ sym c.requires.queue

pub returns-clause-waiting : goal.returns-clause-waiting
returns-clause-waiting c =
    let empty : IsEmpty c.both.queue × IsEmpty c.both.waiting = c.both-test.ensures.0 refl in
    none_waits c.both.waiting (length c.args.labels.now) (c.both.invariant.both.there.sound.room ∙ c.both.invariant.others_many) empty.1 ∙ sym c.requires.waiting
