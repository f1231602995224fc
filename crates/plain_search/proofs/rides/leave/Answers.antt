use Rattle.std.proofs.Common.{Some, subst, rules, arith}
use Rattle.std.proofs.Math.ListN.{set}
use Rattle.plain_search.specs.Row.{Ways}
use Rattle.plain_search.specs.Ridden.{Leaves}
use Rattle.plain_search.proofs.Riding.{leave_whole, leave_leaves}
use Rattle.plain_search.proofs.rides.leave.Goals as goal

pub returns-in_ok-walk-clause-whole : goal.returns-in_ok-walk-clause-whole
returns-in_ok-walk-clause-whole c =
    let better = c.if-is_better.ensures.better in
    leave_whole c.args.row.now c.args.node _ _ c.args.ride c.requires (omega (arith, c.from-second.ensures)) (search rules) better.0 better.1

pub returns-in_ok-walk-clause-leaves : goal.returns-in_ok-walk-clause-leaves
returns-in_ok-walk-clause-leaves c =
    let better = c.if-is_better.ensures.better in
    let row : Ways = set c.args.row.now c.args.node.0 (Some (record { second = c.from-second.result; walk = c.in_ok-walk.walk; ride = Some c.args.ride })) in
    subst (λ m. Leaves c.args.row.now row c.args.node m c.args.ride) c.from-second.ensures
    (leave_leaves c.args.row.now c.args.node _ _ c.args.ride c.requires (omega (arith, c.from-second.ensures)) c.in_ok-walk.ensures better.0 better.1)
