use Rattle.std.proofs.Common.{rules, ◌+◌}
use Rattle.walk_core.specs.Bridge.{view_of}
use Rattle.walk_core.proofs.BridgeLemmas.{PairDone-put, both_put, only_put}
use Rattle.walk_core.proofs.contraction.bridge_pair.Goals as goal

pub returns : goal.returns
returns c =
    PairDone-put c.args.m c.args.x c.args.y (view_of c.args.out.now c.args.into.now c.args.rank.now) (view_of c.put.new.self c.put-2.new.self c.args.rank.now)
    c.requires.x_left c.requires.y_left c.requires.x_other c.requires.y_other
    (both_put c.args.x.to c.args.y.to (c.args.x.seconds + c.args.y.seconds) (record { 0 = c.args.m }) c.args.out.now c.put.new.self c.args.into.now c.put-2.new.self c.args.rank.now
    c.requires.built (search rules) c.requires.x_one c.requires.y_one c.requires.x_low c.requires.y_low (search rules) c.in_ok-put.ensures c.in_ok-put-2.ensures)
    (only_put c.args.m c.args.x c.args.y c.args.out.now c.put.new.self c.args.into.now c.put-2.new.self c.args.rank.now
    c.requires.x_left c.requires.y_left c.requires.x_other c.requires.y_other c.in_ok-put.ensures c.in_ok-put-2.ensures)
