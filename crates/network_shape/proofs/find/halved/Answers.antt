use Rattle.std.proofs.Common.{◌+◌, ◌-◌, ◌/◌, arith}
use Rattle.network_shape.proofs.OrderLemmas.{no_arc, upper, lower}
use Rattle.network_shape.proofs.find.halved.Goals as goal

pub returns-then-is_earlier-clause-between : goal.returns-then-is_earlier-clause-between
returns-then-is_earlier-clause-between c =
    upper c.args.arcs.now c.args.from c.args.to c.args.low (c.args.low + (c.args.high - c.args.low) / 2) c.args.high no_arc c.requires.in_order c.requires.between (omega arith) (omega arith)
    (c.is_earlier.ensures.0 c.if-is_earlier.true)

pub returns-else-is_earlier-clause-between : goal.returns-else-is_earlier-clause-between
returns-else-is_earlier-clause-between c =
    lower c.args.arcs.now c.args.from c.args.to c.args.low (c.args.low + (c.args.high - c.args.low) / 2) c.args.high no_arc c.requires.in_order c.requires.between (omega arith) (omega arith)
    (λ before. let yes = c.is_earlier.ensures.1 before in let no = c.if-is_earlier.false in absurd cc)
