use Rattle.std.proofs.Common.{◌+◌, ◌<◌, ◌^◌, ◌++◌, sym, ap, subst, arith}
use Rattle.move_model.specs.declared.network.Call.{Call}
use Rattle.journey_print.specs.Legs.{walk_records, ride_record}
use Rattle.journey_print.specs.Records.{HasText, records_text}
use Rattle.journey_print.proofs.LegLemmas.{ride_calls, ride_records-is}
use Rattle.journey_print.proofs.WritingLemmas.{rows_and_row}
use Rattle.journey_print.proofs.legs.add_leg.Goals as goal

pub returns : goal.returns
returns c = λ a b m on off walk is late.
    let n = c.args.network.now in
    let trip = c.in-Some.trip.now in
    let boards = c.in-Some-get.on.now in
    let leaves = c.in-Some-get-2.off.now in
    let same = ride_calls n c.args.ride on off trip boards leaves is c.in-Some.ensures c.in-Some-get.ensures c.in-Some-get-2.ensures in
    let small : c.args.begin + m < 2 ^ 64 = omega (arith, late, ap (λ (x : Call). x.dep) same.0, c.add_ride.ensures.small) in
    let rows = walk_records c.args.number c.args.journey n.arcs c.args.walk.now c.args.begin in (
      omega (arith, c.from.ensures, ap (λ (x : Call). x.arr) same.1),
      λ text h.
          subst (λ row. HasText c.add_ride.new.out (text ++ records_text (rows ++ row)))
          (sym (ride_records-is c.args.number c.args.journey n c.args.ride trip boards leaves c.in-Some.ensures c.in-Some-get.ensures c.in-Some-get-2.ensures))
          (rows_and_row c.args.out.now c.add_walk.new.out c.add_ride.new.out rows (ride_record c.args.number c.args.journey n trip boards leaves) text h
          (c.in_ok-add_walk.ensures a b m walk small) c.in_ok-add_ride.ensures.row),
    )
