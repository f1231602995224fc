use Rattle.std.proofs.Common.{◌≡◌, sym, ap, subst, arith, drop, []}
use Rattle.std.proofs.lemmas.List.{drop_all}
use Rattle.journey_print.specs.Legs.{IsPrintable}
use Rattle.journey_print.specs.Records.{finding_records, findings_from}
use Rattle.journey_print.proofs.RowLemmas.{findings_from-drop}
use Rattle.journey_print.proofs.WritingLemmas.{left_is, more_written, all_written}
use Rattle.journey_print.proofs.rows.add_findings.Goals as goal

pub loop-finding-preserved : goal.loop-finding-preserved
loop-finding-preserved c = record {
  count = omega arith;
  so_far = λ all text h.
      let n = c.args.network.now in
      let within = rw c.as_slice-finding-items.ensures at c.loop-finding-test.true in
      let is = rw c.as_slice-finding-items.ensures at c.finding-item.is in
      let real = subst (λ f. IsPrintable n f) (sym is) (all c.loop-finding.finding-index c.finding-item.result within) in
      more_written _ _ _ _ (finding_records c.args.number c.loop-finding.journey n c.args.answer.now c.finding-item.result) _ text
      (left_is (findings_from-drop c.args.number c.loop-finding.journey n c.args.answer.now c.args.answer.now.found c.loop-finding.finding-index c.finding-item.result within is)
      (c.loop-finding.invariant.so_far all text h))
      (c.in_ok-add_finding.ensures real);
}

pub returns : goal.returns
returns c = λ all text h.
    let none : drop c.loop-finding.finding-index c.args.answer.now.found ≡ [] = drop_all _ _ (rw c.as_slice-finding-items.ensures at c.loop-finding-test.false) in
    all_written _ _ _ text
    (left_is (ap (λ fs. findings_from c.args.number c.loop-finding.journey c.args.network.now c.args.answer.now fs) none)
    (c.loop-finding.invariant.so_far all text h))
