use Rattle.std.proofs.lemmas.Result.{err_from_is_err_and}
use Rattle.street_graph.proofs.CoLemmas.{refused_by_line, refused_without, refused_count, are_co_points}
use Rattle.street_graph.proofs.co.read_co.Goals as goal

pub returns-in_err-points-clause-refused : goal.returns-in_err-points-clause-refused
returns-in_err-points-clause-refused c =
    let p = err_from_is_err_and c.from_residual.result c.from_residual.ensures.1 in
    rw (p.1, p.2) (refused_by_line c.args.nodes c.args.bytes.now _ c.in_err-points.ensures.refused)

pub returns-then-not-sized-clause-refused : goal.returns-then-not-sized-clause-refused
returns-then-not-sized-clause-refused c =
    refused_without c.args.nodes c.args.bytes.now c.in_ok-points.field-0 c.refused.result c.in_ok-points.ensures.hold c.in_ok-points.ensures.read
    c.if-not-sized.true c.refused.ensures

pub returns-then-count-nodes-clause-refused : goal.returns-then-count-nodes-clause-refused
returns-then-count-nodes-clause-refused c =
    refused_count c.args.nodes c.args.bytes.now c.in_ok-points.field-0 c.refused-then-count-nodes.result c.in_ok-points.ensures.hold c.in_ok-points.ensures.read
    c.if-not-sized.false c.if-count-nodes.true (rw c.from.ensures at c.refused-then-count-nodes.ensures)

pub returns-clause-points : goal.returns-clause-points
returns-clause-points c =
    rw c.from_vec.ensures (are_co_points c.args.nodes c.args.bytes.now c.in_ok-points.field-0 c.in_ok-points.ensures.hold c.in_ok-points.ensures.read
    c.if-not-sized.false c.if-count-nodes.false)
