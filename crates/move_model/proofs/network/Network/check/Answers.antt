use Rattle.std.proofs.Common.{arith, refl}
use Rattle.move_model.specs.Check.{IsFirstFault, HasNodes}
use Rattle.move_model.proofs.CheckLemmas.{keeps-rules}
use Rattle.move_model.proofs.network.Network.check.Goals as goal

pub returns-in-Some-first_unordered-clause-fault : goal.returns-in-Some-first_unordered-clause-fault
unfolding IsFirstFault
returns-in-Some-first_unordered-clause-fault c =
    let nodes : HasNodes c.args.self.now = (omega arith, omega arith) in (
      nodes,
      c.in_default.ensures.none,
      rw c.as_slice.ensures at c.in_default-first_long_arc.ensures.none,
      c.in_default-first_lost_stop.ensures.none,
      rw c.as_slice-2.ensures at c.in_default-first_short_trip.ensures.none,
      c.in_default-first_stray.ensures.none,
      rw c.as_slice-3.ensures at c.in_default-first_untimed.ensures.none,
      rw c.as_slice-4.ensures at c.in-Some-first_unordered.ensures.found,
    )

pub returns-then-self-gt-LONGEST_BUFFER-clause-fault : goal.returns-then-self-gt-LONGEST_BUFFER-clause-fault
unfolding IsFirstFault
returns-then-self-gt-LONGEST_BUFFER-clause-fault c =
    let nodes : HasNodes c.args.self.now = (omega arith, omega arith) in (
      nodes,
      c.in_default.ensures.none,
      rw c.as_slice.ensures at c.in_default-first_long_arc.ensures.none,
      c.in_default-first_lost_stop.ensures.none,
      rw c.as_slice-2.ensures at c.in_default-first_short_trip.ensures.none,
      c.in_default-first_stray.ensures.none,
      rw c.as_slice-3.ensures at c.in_default-first_untimed.ensures.none,
      rw c.as_slice-4.ensures at c.in_default-first_unordered.ensures.none,
      refl,
      omega arith,
    )

pub returns-clause-ok : goal.returns-clause-ok
returns-clause-ok c =
    let nodes : HasNodes c.args.self.now = (omega arith, omega arith) in
    keeps-rules _ nodes c.in_default.ensures.none
    (rw c.as_slice.ensures at c.in_default-first_long_arc.ensures.none)
    c.in_default-first_lost_stop.ensures.none
    (rw c.as_slice-2.ensures at c.in_default-first_short_trip.ensures.none)
    c.in_default-first_stray.ensures.none
    (rw c.as_slice-3.ensures at c.in_default-first_untimed.ensures.none)
    (rw c.as_slice-4.ensures at c.in_default-first_unordered.ensures.none)
    (omega arith)
