use Rattle.std.proofs.Common.{◌≡◌, ◌∙◌, List, sym, subst}
use Rattle.std.specs.Prelude.{Contains}
use Rattle.move_model.specs.declared.network.Arc.{Arc}
use Rattle.journey_print.proofs.IndexLemmas.{least_of_part}
use Rattle.journey_print.proofs.least_arcs.LeastArcs.seconds.Goals as goal

pub returns : goal.returns
returns c =
    let whole : c.deref.result.now ≡ c.args.self.now = c.deref.ensures.value ∙ c.self.view_is in
    least_of_part c.arcs_with.result.now c.args.self.now c.args.from c.args.to c.least_arc.result
    (λ arc h. subst (λ (arcs : List Arc). Contains arcs arc) whole (c.arcs_with.ensures.some arc h))
    (λ arc is h. c.arcs_with.ensures.all arc (is ∙ sym c.ends.ensures) (subst (λ (arcs : List Arc). Contains arcs arc) (sym whole) h))
    c.least_arc.ensures.least
