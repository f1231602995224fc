use Rattle.std.proofs.Common.{◌≡◌, ℕ, ◌+◌, ◌-◌, ◌<◌, ◌≤◌, length, arith, inl, inr, subst}
use Rattle.std.proofs.lemmas.Bool.{cases_eq}
use Rattle.std.specs.Prelude.{slice_index}
use Rattle.two_trip_rides.proofs.FirstLemmas.{falls_none, falls_on, falls_set, opened, held_more, opened_more, closed_where_held, rows_more, first_more}
use Rattle.two_trip_rides.proofs.first.ride_first.Goals as goal

pub loop-next-init : goal.loop-next-init
loop-next-init c = record {
  held_falls = falls_none _;
  first_falls = falls_none _;
  held_from = λ k ge lt. absurd (omega arith);
  closed = opened _ _ _ _ _ _;
  rows_sound = λ s is old. old;
  sound = λ s rows is old. old;
}

pub loop-next-preserved : goal.loop-next-preserved
loop-next-preserved c =
    let was = c.loop-next.invariant in
    let next = c.loop-next.next in
    let before : c.args.call < next = omega arith in
    let many = was.held_falls.as_many in
    let within : next - 1 < length c.loop-next.held = omega (arith, many) in
    record {
      held_falls = falls_on _ _ _ was.held_falls (falls_set _ _ _ within (omega arith));
      first_falls = falls_on _ _ _ was.first_falls c.leave_at.ensures.falls;
      held_from = held_more c.args.call next c.args.row c.loop-next.held before within was.held_from;
      closed = λ h. opened_more _ _ _ c.args.call next c.args.row c.loop-next.held c.loop-next.first _ before within (omega arith) was.held_from c.leave_at.ensures.falls c.leave_at.ensures.known (was.closed h);
      rows_sound = λ s is old. rows_more s _ c.args.call next c.args.row c.loop-next.held before within is (was.rows_sound s is old);
      sound = λ s rows is old. first_more s _ c.args.call next c.args.row c.loop-next.first _ rows is c.requires.row before c.leave_at.ensures.falls.as_many c.leave_at.ensures.changed (was.sound s rows is old);
    }

pub returns-clause-boarded : goal.returns-clause-boarded
returns-clause-boarded c = λ h. omega (arith, c.loop-next.invariant.held_from c.args.call (omega arith) (omega arith))

pub returns-clause-closed : goal.returns-clause-closed
returns-clause-closed c = λ h. closed_where_held _ _ _ c.args.call c.loop-next.next c.args.row _ _ c.loop-next.invariant.held_from (λ lt. absurd (omega arith)) (c.loop-next.invariant.closed h)

pub returns-then-held-at-clause-closed : goal.returns-then-held-at-clause-closed
returns-then-held-at-clause-closed c = λ h. closed_where_held _ _ _ c.args.call c.loop-next.next c.args.row _ _ c.loop-next.invariant.held_from (λ lt. omega arith) (c.loop-next.invariant.closed h)

pub returns-then-held-at-clause-boarded : goal.returns-then-held-at-clause-boarded
returns-then-held-at-clause-boarded c = λ h. elim (cases_eq c.loop-next.next (c.args.call + 1)) [
  | inl e ↦
      let at : c.loop-next.next - 1 ≡ c.args.call = omega arith in
      let l : slice_index c.loop-next.held (c.loop-next.next - 1) ≤ c.args.row = omega arith in
      subst (λ (i : ℕ). slice_index c.loop-next.held i ≤ c.args.row) at l
  | inr ne ↦ omega (arith, c.loop-next.invariant.held_from c.args.call (omega arith) (omega arith))
]
