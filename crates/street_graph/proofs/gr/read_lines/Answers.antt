use Rattle.std.proofs.Common.{◌≡◌, ◌∙◌, ◌+◌, ◌∷◌, take, drop, sym, ap, arith}
use Rattle.std.proofs.lemmas.List.{take_all, length-take-le}
use Rattle.std.proofs.lemmas.Result.{err_from_is_err_and}
use Rattle.street_graph.specs.Gr.{gr_lines}
use Rattle.street_graph.specs.declared.gr.GrLine.TheVariants.{Skipped}
use Rattle.street_graph.proofs.LineLemmas.{here, at_end}
use Rattle.street_graph.proofs.GrLemmas.{gr_lines_first, gr_lines-empty, hold_more, has_read_more, refused_here}
use Rattle.street_graph.proofs.gr.read_lines.Goals as goal

pub loop-rest-preserved : goal.loop-rest-preserved
loop-rest-preserved c =
    let ls = gr_lines c.args.text.now in
    let i = c.loop-rest.row in
    let line = c.gr_line.result in
    let v = c.loop-rest.invariant in
    let first : drop i ls ≡ line ∷ gr_lines c.next_line.result.1.now =
    v.ahead ∙ gr_lines_first c.loop-rest.rest.now c.next_line.result.0.now c.next_line.result.1.now c.next_line.ensures.first
    ∙ ap (λ x. x ∷ gr_lines c.next_line.result.1.now) (sym c.gr_line.ensures) in
    let h = here ls (gr_lines c.next_line.result.1.now) line Skipped i v.within first in
    record {
      left = omega (arith, c.next_line.ensures.shorter, v.left);
      counted = omega (arith, c.next_line.ensures.shorter, v.counted);
      within = omega (arith, h.0);
      ahead = h.2;
      hold = hold_more ls line i c.loop-rest.draft.size h.1 v.read.size v.hold c.in_ok-take.ensures.holds;
      read = rw h.3 (has_read_more (take i ls) line c.loop-rest.draft c.take.new.self (i + 1) (omega (arith, length-take-le i ls v.within)) v.read
          c.in_ok-take.ensures.holds c.in_ok-take.ensures.size c.in_ok-take.ensures.row c.in_ok-take.ensures.arcs);
    }

pub returns-in_err-take-clause-refused : goal.returns-in_err-take-clause-refused
returns-in_err-take-clause-refused c =
    let ls = gr_lines c.args.text.now in
    let i = c.loop-rest.row in
    let line = c.gr_line.result in
    let v = c.loop-rest.invariant in
    let first : drop i ls ≡ line ∷ gr_lines c.next_line.result.1.now =
    v.ahead ∙ gr_lines_first c.loop-rest.rest.now c.next_line.result.0.now c.next_line.result.1.now c.next_line.ensures.first
    ∙ ap (λ x. x ∷ gr_lines c.next_line.result.1.now) (sym c.gr_line.ensures) in
    let h = here ls (gr_lines c.next_line.result.1.now) line Skipped i v.within first in
    let p = err_from_is_err_and c.from_residual.result c.from_residual.ensures.1 in
    rw (p.1, p.2) (refused_here ls line i c.loop-rest.draft.size _ h.0 h.1 v.read.size v.hold c.in_err-take.ensures.refused)

pub returns-clause-hold : goal.returns-clause-hold
returns-clause-hold c =
    let v = c.loop-rest.invariant in
    let end = at_end (gr_lines c.args.text.now) c.loop-rest.row v.within (v.ahead ∙ gr_lines-empty c.loop-rest.rest.now (sym c.is_empty.ensures ∙ c.loop-rest-test.false)) in
    rw (← end) v.hold

pub returns-clause-read : goal.returns-clause-read
returns-clause-read c =
    let ls = gr_lines c.args.text.now in
    let v = c.loop-rest.invariant in
    let end = at_end ls c.loop-rest.row v.within (v.ahead ∙ gr_lines-empty c.loop-rest.rest.now (sym c.is_empty.ensures ∙ c.loop-rest-test.false)) in
    rw (take_all c.loop-rest.row ls (omega arith)) at v.read
