use Rattle.std.proofs.Common.{inl, inr, arith}
use Rattle.std.proofs.lemmas.Option.{slice_get_within}
use Rattle.raptor_rounds.proofs.RidesLemmas.{falls_on, caught_more, scanned_more, held_more, scanned_all, held_leaves}
use Rattle.raptor_rounds.proofs.TimesLemmas.{arrivals_length}
use Rattle.raptor_rounds.proofs.scan.scan_route.Goals as goal

pub loop-call-preserved : goal.loop-call-preserved
loop-call-preserved c =
    let route = c.args.rows.now in
    let was = c.loop-call.invariant in
    record {
      falls = falls_on _ _ _ was.falls c.leave_held.ensures.falls;
      held = held_more route c.args.buffer c.args.ready.now c.args.ready_by.now c.loop-call.call c.loop-call.hold c.hold_earlier-hold.result was.held c.hold_earlier-hold.ensures.held;
      caught = caught_more route _ _ _ _ _ _ _ _ was.caught c.hold_earlier-hold.ensures.lower c.leave_held.ensures.falls.best c.hold_earlier-hold.ensures.caught;
      scanned = scanned_more _ route _ _ _ _ _ _ _ c.requires.whole was.caught was.scanned c.leave_held.ensures.falls c.leave_held.ensures.known (arrivals_length _ route c.requires.whole);
      covers = λ h. c.leave_held.ensures.covers (was.covers h);
      sound = λ s last buffer rows all old. c.leave_held.ensures.sound s last
          (λ off trip at may is_trip. elim was.held [
            | inl none ↦ absurd (omega (arith, none, slice_get_within route.trips c.loop-call.hold.row trip is_trip))
            | inr held ↦ held_leaves s route _ _ _ c.loop-call.hold c.loop-call.call off trip buffer rows c.requires.whole all held.1 held.0 at may is_trip
          ])
          (was.sound s last buffer rows all old);
    }

pub returns-clause-scanned : goal.returns-clause-scanned
returns-clause-scanned c = scanned_all c.args.rows.now _ _ _ _ c.loop-call.found (omega arith) c.loop-call.invariant.scanned
