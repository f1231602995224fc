use Rattle.std.proofs.Common.{arith}
use Rattle.plain_search.proofs.Rows.{weight-set}
use Rattle.plain_search.proofs.Walked.{walk_fits, WalksOn-same, walk_arc_whole, walk_arc_walks}
use Rattle.plain_search.proofs.walks.walk_arc.Goals as goal

pub overflow_add-second : goal.overflow_add-second
overflow_add-second c = omega (arith, walk_fits _ _ _ c.from.result c.requires c.in-Some.ensures.some (omega (arith, c.from.ensures)))

pub returns-in_default-clause-walks_on : goal.returns-in_default-clause-walks_on
returns-in_default-clause-walks_on c = WalksOn-same _ _

pub returns-then-not-is_better-clause-walks_on : goal.returns-then-not-is_better-clause-walks_on
returns-then-not-is_better-clause-walks_on c = WalksOn-same _ _

pub returns-clause-whole : goal.returns-clause-whole
returns-clause-whole c =
    let better = c.if-not-is_better.ensures.better in
    walk_arc_whole c.args.row.now c.args.arc c.in-Some.way.now _ _ c.requires c.in-Some.ensures.some (omega arith) (omega (arith, c.from.ensures)) c.in_ok-walk.ensures better.0 better.1

pub returns-clause-walks_on : goal.returns-clause-walks_on
returns-clause-walks_on c =
    let better = c.if-not-is_better.ensures.better in
    walk_arc_walks c.args.row.now c.args.arc c.in-Some.way.now _ _ c.requires c.in-Some.ensures.some (omega arith) (omega (arith, c.from.ensures)) c.in_ok-walk.ensures better.0 better.1

pub returns-clause-falls : goal.returns-clause-falls
returns-clause-falls c =
    let better = c.if-not-is_better.ensures.better in
    weight-set _ _ _ better.0 better.1 (walk_fits _ _ _ c.from.result c.requires c.in-Some.ensures.some (omega (arith, c.from.ensures)))
