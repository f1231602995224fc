use Rattle.std.proofs.lemmas.Result.{on_ok_weaker}
use Rattle.journey_print.specs.Legs.{leg_records}
use Rattle.journey_print.proofs.LegLemmas.{arrival_fits}
use Rattle.journey_print.proofs.WritingLemmas.{row_and_rows}
use Rattle.range_print.specs.Rows.{span_record}
use Rattle.range_print.proofs.rows.add_span.Goals as goal

pub returns : goal.returns
returns c =
    on_ok_weaker c.add_legs.result
    (λ legs is text h.
    let n = c.args.network.now in
    let finding = c.args.found.now.finding in
    row_and_rows c.args.out.now c.add_span_row.new.out c.add_legs.new.out (span_record c.args.number c.args.journey c.args.answer.now c.args.found.now)
    (leg_records c.args.number c.args.journey n finding.journey.walks finding.journey.rides finding.journey.depart) text h
    c.in_ok-add_span_row.ensures.row (legs is.from is.to is.arrive is.leads (arrival_fits n finding is c.add_span_row.ensures.small)))
    c.add_legs.ensures
