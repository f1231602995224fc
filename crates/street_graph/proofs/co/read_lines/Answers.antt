use Rattle.std.proofs.Common.{◌≡◌, ◌∙◌, ◌+◌, ◌∷◌, None, Some, length, take, drop, sym, ap, refl, arith}
use Rattle.std.proofs.lemmas.List.{take_all, length-take-le}
use Rattle.refusals.specs.Refusal.{first_cause}
use Rattle.refusals.proofs.RefusalLemmas.{accepted_more, first_refusal}
use Rattle.street_graph.specs.declared.co.CoLine.TheVariants.{Skipped}
use Rattle.street_graph.specs.Co.{co_lines, co_rules, co_spot_at, CoSpot}
use Rattle.street_graph.proofs.LineLemmas.{here, at_end}
use Rattle.street_graph.proofs.CoLemmas.{co_lines_first, co_lines-empty, cause_is, co_spot_here, has_placed_more}
use Rattle.street_graph.proofs.co.read_lines.Goals as goal

pub loop-rest-preserved : goal.loop-rest-preserved
loop-rest-preserved c =
    let ls = co_lines c.args.text.now in
    let i = c.loop-rest.row in
    let line = c.co_line.result in
    let v = c.loop-rest.invariant in
    let first : drop i ls ≡ line ∷ co_lines c.next_line.result.1.now =
    v.ahead ∙ co_lines_first c.loop-rest.rest.now c.next_line.result.0.now c.next_line.result.1.now c.next_line.ensures.first
    ∙ ap (λ x. x ∷ co_lines c.next_line.result.1.now) (sym c.co_line.ensures) in
    let h = here ls (co_lines c.next_line.result.1.now) line Skipped i v.within first in
    let spot : CoSpot = record { before = take i ls; line = line } in
    let holds : first_cause (co_rules c.args.nodes) spot ≡ None = cause_is c.args.nodes (take i ls) c.loop-rest.draft line v.read ∙ c.in-Ok.ensures.cause.0 in
    record {
      left = omega (arith, c.next_line.ensures.shorter, v.left);
      counted = omega (arith, c.next_line.ensures.shorter, v.counted);
      within = omega (arith, h.0);
      ahead = h.2;
      hold = accepted_more (co_rules c.args.nodes) (co_spot_at ls) i spot v.hold (co_spot_here ls line i h.1) holds;
      read = rw h.3 (has_placed_more c.args.nodes (take i ls) line c.loop-rest.draft c.take.new.self (i + 1) (omega (arith, length-take-le i ls v.within)) v.read
          c.in-Ok.ensures.cause.0 c.in-Ok.ensures.points c.in-Ok.ensures.placed c.in-Ok.ensures.count c.in-Ok.ensures.row c.in-Ok.ensures.sized);
    }

pub returns-in-Err-clause-refused : goal.returns-in-Err-clause-refused
returns-in-Err-clause-refused c =
    let ls = co_lines c.args.text.now in
    let i = c.loop-rest.row in
    let line = c.co_line.result in
    let v = c.loop-rest.invariant in
    let first : drop i ls ≡ line ∷ co_lines c.next_line.result.1.now =
    v.ahead ∙ co_lines_first c.loop-rest.rest.now c.next_line.result.0.now c.next_line.result.1.now c.next_line.ensures.first
    ∙ ap (λ x. x ∷ co_lines c.next_line.result.1.now) (sym c.co_line.ensures) in
    let h = here ls (co_lines c.next_line.result.1.now) line Skipped i v.within first in
    let spot : CoSpot = record { before = take i ls; line = line } in
    let broken : first_cause (co_rules c.args.nodes) spot ≡ Some c.in-Err.cause = cause_is c.args.nodes (take i ls) c.loop-rest.draft line v.read ∙ c.in-Err.ensures.cause in
    rw c.refused.ensures
    (refl, first_refusal (co_rules c.args.nodes) (co_spot_at ls) (length ls) i (i + 1) spot c.in-Err.cause c.in-Err.cause h.0 v.hold (co_spot_here ls line i h.1) broken refl refl)

pub returns-clause-hold : goal.returns-clause-hold
returns-clause-hold c =
    let v = c.loop-rest.invariant in
    let end = at_end (co_lines c.args.text.now) c.loop-rest.row v.within (v.ahead ∙ co_lines-empty c.loop-rest.rest.now (sym c.is_empty.ensures ∙ c.loop-rest-test.false)) in
    rw (← end) v.hold

pub returns-clause-read : goal.returns-clause-read
returns-clause-read c =
    let ls = co_lines c.args.text.now in
    let v = c.loop-rest.invariant in
    let end = at_end ls c.loop-rest.row v.within (v.ahead ∙ co_lines-empty c.loop-rest.rest.now (sym c.is_empty.ensures ∙ c.loop-rest-test.false)) in
    rw (take_all c.loop-rest.row ls (omega arith)) at v.read
