use Rattle.std.proofs.lemmas.Result.{on_ok_weaker}
use Rattle.journey_print.specs.Legs.{leg_records}
use Rattle.journey_print.specs.Records.{pair_record}
use Rattle.journey_print.proofs.LegLemmas.{arrival_fits}
use Rattle.journey_print.proofs.WritingLemmas.{row_and_rows}
use Rattle.journey_print.proofs.rows.add_finding.Goals as goal

pub returns : goal.returns
returns c =
    on_ok_weaker c.add_legs.result
    (λ legs is text h.
    let n = c.args.network.now in
    let finding = c.args.finding.now in
    row_and_rows c.args.out.now c.add_pair.new.out c.add_legs.new.out (pair_record c.args.number c.args.journey c.args.answer.now finding)
    (leg_records c.args.number c.args.journey n finding.journey.walks finding.journey.rides finding.journey.depart) text h
    c.in_ok-add_pair.ensures.row (legs is.from is.to is.arrive is.leads (arrival_fits n finding is c.add_pair.ensures.small)))
    c.add_legs.ensures
