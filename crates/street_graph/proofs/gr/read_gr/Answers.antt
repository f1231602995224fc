use Rattle.std.proofs.Common.{arith}
use Rattle.std.proofs.lemmas.Result.{err_from_is_err_and}
use Rattle.street_graph.specs.Gr.{gr_lines}
use Rattle.street_graph.proofs.GrLemmas.{refused_by_line, refused_without, refused_count}
use Rattle.street_graph.proofs.LimitLemmas.{read_within}
use Rattle.street_graph.proofs.gr.read_gr.Goals as goal

pub returns-in_err-size-clause-refused : goal.returns-in_err-size-clause-refused
returns-in_err-size-clause-refused c =
    let p = err_from_is_err_and c.from_residual.result c.from_residual.ensures.1 in
    rw (p.1, p.2) (refused_by_line c.args.bytes.now _ c.in_err-size.ensures.refused)

pub returns-in_default-clause-refused : goal.returns-in_default-clause-refused
returns-in_default-clause-refused c =
    refused_without c.args.bytes.now c.in_ok-size.field-0 c.refused.result c.in_ok-size.ensures.hold c.in_ok-size.ensures.read c.in_default.is c.refused.ensures

pub returns-then-count-size-clause-refused : goal.returns-then-count-size-clause-refused
returns-then-count-size-clause-refused c =
    refused_count c.args.bytes.now c.in_ok-size.field-0 c.in-Some.size c.len-count.result c.refused-then-count-size.result c.in_ok-size.ensures.hold c.in_ok-size.ensures.read
    c.in-Some.is (omega arith) (λ e. omega arith) c.refused-then-count-size.ensures

pub of-requires : goal.of-requires
of-requires c = read_within (gr_lines c.args.bytes.now) c.in_ok-size.field-0 c.in-Some.size c.in_ok-size.ensures.hold c.in_ok-size.ensures.read c.in-Some.is (omega arith)
