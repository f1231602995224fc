use Rattle.std.proofs.Common.{arith}
use Rattle.range_lanes.proofs.Exploiting.{route_whole, exploited_never, exploited_bound}
use Rattle.range_lanes.proofs.scan.board_from.Goals as goal

pub returns-then-from-second-clause-exploited : goal.returns-then-from-second-clause-exploited
returns-then-from-second-clause-exploited g c r i route place at_route at_place same =
    exploited_never _ c.args.below.now c.args.level.now route c.args.table.now.buffer i c.args.second
    (route_whole _ _ c.routes-routes.ensures.whole r route at_route) (omega (arith, c.if-from-second.true, c.from.ensures))

pub returns-then-bound-second-clause-exploited : goal.returns-then-bound-second-clause-exploited
returns-then-bound-second-clause-exploited g c r i route place at_route at_place same =
    exploited_bound c.args.below.now c.args.level.now route c.args.table.now.buffer i c.args.second c.args.bound c.requires.bound c.if-bound-second.true
    (omega (arith, c.if-from-second.false, c.from.ensures))
