use Rattle.std.proofs.Common.{false, arith}
use Rattle.std.proofs.lemmas.Bool.{leb-true}
use Rattle.move_model.specs.declared.network.Call.{Call}
use Rattle.feed_checks.proofs.KeptLemmas.{all_end}
use Rattle.feed_checks.proofs.days.fits.Goals as goal

pub returns-then-row-ge1 : goal.returns-then-row-ge1
returns-then-row-ge1 c = λ yes.
    let none : Call = record { stop = record { 0 = 0 }; arr = 0; dep = 0; board = false; alight = false } in
    record {
      times = (c.if-row-ge1.true.0, c.if-row-ge1.true.1);
      steps = c.if-row-ge1.true.2;
      in_time = all_end c.args.calls.now c.args.row.end none none c.requires.some c.requires.rising
          (omega (arith, leb-true _ _ yes, c.from.ensures, c.from-travel.ensures, c.from-then-row-ge1.ensures));
    }
