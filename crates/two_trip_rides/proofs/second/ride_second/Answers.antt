use Rattle.std.proofs.Common.{◌-◌, ◌<◌, length, arith, refl, sym, subst}
use Rattle.std.proofs.lemmas.Bool.{false≢true}
use Rattle.piece_laws.specs.declared.labels.Held.{Held}
use Rattle.two_trip_rides.specs.Second.{held_at}
use Rattle.two_trip_rides.proofs.SecondLemmas.{IsLow, low_self, low_less, held_none, held_on, held_set, seconds_none, seconds_on, opened, held_more, opened_more, closed_where_held, rows_more, seconds_more}
use Rattle.two_trip_rides.proofs.second.ride_second.Goals as goal

pub loop-next-init : goal.loop-next-init
loop-next-init c = record {
  held_fall = held_none _;
  best_fall = seconds_none _;
  held_from = λ k ge lt. absurd (omega arith);
  closed = opened _ _ _ _ _ _ _ _;
  rows_sound = λ s is old. old;
  sound = λ s rows is old. old;
}

pub loop-next-preserved : goal.loop-next-preserved
loop-next-preserved c =
    let was = c.loop-next.invariant in
    let next = c.loop-next.next in
    let before : c.args.call < next = omega arith in
    let many = was.held_fall.as_many in
    let within : next - 1 < length c.loop-next.held = omega (arith, many) in
    let low : IsLow c.args.hold (held_at c.loop-next.held (next - 1)) = low_less c.args.hold (held_at c.loop-next.held (next - 1)) (c.if-not-is_better.ensures.0 refl) in
    record {
      held_fall = held_on _ _ _ was.held_fall (held_set _ _ _ within low);
      best_fall = seconds_on _ _ _ was.best_fall c.leave_at.ensures.falls;
      held_from = held_more c.args.call next c.args.hold c.loop-next.held before within was.held_from;
      closed = λ h. opened_more _ _ _ _ _ c.args.call next c.args.hold c.loop-next.held c.loop-next.best _ before within low was.held_from c.leave_at.ensures.falls c.leave_at.ensures.known (was.closed h);
      rows_sound = λ s is old. rows_more s _ c.args.call next c.args.hold c.loop-next.held before within is (was.rows_sound s is old);
      sound = λ s rows is old. seconds_more s _ c.args.call next c.args.hold c.loop-next.best _ rows is before c.leave_at.ensures.falls.as_many c.leave_at.ensures.changed (was.sound s rows is old);
    }

pub returns-clause-boarded : goal.returns-clause-boarded
returns-clause-boarded c = λ h. subst (λ (m : Held). IsLow m c.args.hold) (sym (c.loop-next.invariant.held_from c.args.call (omega arith) (omega arith))) (low_self c.args.hold)

pub returns-clause-closed : goal.returns-clause-closed
returns-clause-closed c = λ h. closed_where_held _ _ _ _ _ c.args.call c.loop-next.next c.args.hold _ _ c.loop-next.invariant.held_from (λ lt. absurd (omega arith)) (c.loop-next.invariant.closed h)

pub returns-then-not-is_better-clause-closed : goal.returns-then-not-is_better-clause-closed
returns-then-not-is_better-clause-closed c =
    λ h. closed_where_held _ _ _ _ _ c.args.call c.loop-next.next c.args.hold _ _ c.loop-next.invariant.held_from (λ lt l. false≢true (c.if-not-is_better.ensures.1 l)) (c.loop-next.invariant.closed h)
