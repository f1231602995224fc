use Rattle.std.proofs.Common.{◌<◌, arith}
use Rattle.plain_shortcuts.proofs.ChangeLemmas.{walk_some, walk_short}
use Rattle.plain_shortcuts.proofs.keys.key_to.Goals as goal

pub overflow_add-result : goal.overflow_add-result
overflow_add-result c =
    let from = c.args.change.now.second.off.stop in
    let is = walk_some c.args.network.now c.args.walks.now from c.args.to c.in-Some.to_end c.requires.walks c.requires.stands.left_second c.in-Some.ensures in
    let short = walk_short c.args.network.now from c.args.to c.in-Some.to_end c.requires.rules is in
    omega (arith, short, c.from.ensures, c.from.type_inv)
