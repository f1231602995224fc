use Rattle.std.proofs.Common.{ℕ, ◌≡◌, length, get_or, take, sym, ap, ◌∙◌, arith, subst}
use Rattle.std.proofs.lemmas.List.{get_or-map, take_all}
use Rattle.lane_rows.specs.Rows.{count_below, IsFirstFrom}
use Rattle.lane_rows.proofs.Catch.{eight_lanes, none_yet}
use Rattle.lane_rows.proofs.Sorted.{IsFirstFrom-count}
use Rattle.lane_rows.proofs.catch8.Goals as goal

pub loop-x-preserved : goal.loop-x-preserved
loop-x-preserved c =
    eight_lanes c.args.row.now c.loop-x.found c.args.ready c.loop-x.x-index c.loop-x-test.true c.requires c.type_inv.ready.0 c.loop-x.invariant

pub loop-x-init : goal.loop-x-init
loop-x-init c = none_yet c.args.ready (omega arith)

pub returns-clause-first : goal.returns-clause-first
returns-clause-first c sorted lane low =
    let row = c.args.row.now in
    let all : take c.loop-x.x-index row ≡ row = take_all c.loop-x.x-index row (omega arith) in
    let found = ap (λ l. get_or l lane 0) c.loop-x.invariant ∙ get_or-map (count_below (take c.loop-x.x-index row)) c.args.ready lane 0 0 (omega arith) ∙ ap (λ xs. count_below xs (get_or c.args.ready lane 0)) all in
    subst (IsFirstFrom row (get_or c.args.ready lane 0)) (sym found) (IsFirstFrom-count row (get_or c.args.ready lane 0) sorted)
