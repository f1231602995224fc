use Rattle.std.proofs.Common.{◌-◌, ◌<◌, length, arith}
use Rattle.std.proofs.lemmas.List.{get_or_default}
use Rattle.std.proofs.lemmas.List.Elements.{All-more}
use Rattle.move_model.specs.Check.{Stays}
use Rattle.move_model.proofs.CheckLemmas.{no-call, All-whole, go_on-one_more}
use Rattle.move_model.proofs.check.first_untimed_call.Goals as goal
use Rattle.move_model.proofs.check.first_untimed_call.Goals.{else-i-gt0-via-then-i-gt0+else-calls-i, else-i-gt0-via-else-i-gt0}

pub loop-i-preserved : goal.loop-i-preserved
loop-i-preserved c = record {
  stay = All-more Stays _ _ no-call c.loop-i-test.true c.loop-i.invariant.stay (c.stays.ensures.0 c.if-not-stays.false);
  go_on = go_on-one_more _ _ c.loop-i.invariant.go_on (λ pos d. elim c.else-i-gt0.branch [
    | else-i-gt0-via-then-i-gt0+else-calls-i w ↦ (
        let before : c.loop-i.i - 1 < length c.args.calls.now = omega arith in
        let now : c.loop-i.i < length c.args.calls.now = c.loop-i-test.true in
        rw (get_or_default _ _ d no-call before, get_or_default _ _ d no-call now) w.if-calls-i.false)
    | else-i-gt0-via-else-i-gt0 w ↦ absurd (omega arith)
  ]);
}

pub returns-clause-none : goal.returns-clause-none
returns-clause-none c = record {
  stay = All-whole Stays _ _ (omega arith) c.loop-i.invariant.stay;
  go_on = λ k d below. c.loop-i.invariant.go_on k d (omega arith);
}
