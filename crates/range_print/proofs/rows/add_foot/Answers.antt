use Rattle.std.proofs.lemmas.Result.{on_ok_weaker}
use Rattle.journey_print.specs.Legs.{leg_records}
use Rattle.journey_print.proofs.LegLemmas.{arrival_fits}
use Rattle.journey_print.proofs.WritingLemmas.{row_and_rows}
use Rattle.range_print.specs.Rows.{foot_record}
use Rattle.range_print.proofs.rows.add_foot.Goals as goal

pub returns : goal.returns
returns c =
    on_ok_weaker c.add_legs.result
    (λ legs is text h.
    let n = c.args.network.now in
    let foot = c.args.foot.now in
    row_and_rows c.args.out.now c.add_foot_row.new.out c.add_legs.new.out (foot_record c.args.number c.args.answer.now foot)
    (leg_records c.args.number 1 n foot.journey.walks foot.journey.rides foot.journey.depart) text h
    c.in_ok-add_foot_row.ensures.row (legs is.from is.to is.arrive is.leads (arrival_fits n foot is c.add_foot_row.ensures.small)))
    c.add_legs.ensures
