use Rattle.std.proofs.Common.{rules, arith}
use Rattle.walk_core.specs.Row.{is_last}
use Rattle.walk_core.proofs.RestLemmas.{room_left}
use Rattle.walk_core.proofs.rest.contract_each.Goals as goal

pub contract_next-requires-clause-room : goal.contract_next-requires-clause-room
contract_next-requires-clause-room c =
    let left : is_last c.loop-at.rank c.loop-at.at = search rules in
    room_left c.loop-at.rank c.loop-at.contracted.items c.loop-at.invariant.sound.ordered c.loop-at.at left (omega arith)
