use Rattle.walk_core.proofs.BridgeLemmas.{both_put}
use Rattle.walk_core.proofs.StreetLemmas.{StreetDone-put}
use Rattle.walk_core.proofs.streets.lay_street.Goals as goal

pub returns : goal.returns
returns c =
    StreetDone-put c.args.arc c.args.out.now c.put.new.self c.args.into.now c.put-2.new.self c.args.rank.now
    (both_put c.args.arc.from c.args.arc.to c.args.arc.seconds (record { 0 = 0 }) c.args.out.now c.put.new.self c.args.into.now c.put-2.new.self c.args.rank.now
    c.requires.built c.if-arc.false c.requires.from_one c.requires.to_one c.requires.from c.requires.to c.requires.short c.in_ok-put.ensures c.in_ok-put-2.ensures)
    c.in_ok-put.ensures c.in_ok-put-2.ensures
