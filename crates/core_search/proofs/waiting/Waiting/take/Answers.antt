use Rattle.std.proofs.Common.{◌+◌, ◌<◌, ◌∷◌, List, Option, None, IfSome, length, sym, subst, arith}
use Rattle.move_model.specs.declared.network.NodeNo.{NodeNo}
use Rattle.core_search.specs.declared.label.Label.{Label}
use Rattle.core_search.specs.Waiting.{IsTaken}
use Rattle.core_search.proofs.WaitLemmas.{taken_by, label_low}
use Rattle.core_search.proofs.waiting.Waiting.take.Goals as goal
use Rattle.core_search.proofs.waiting.Waiting.take.Goals.{in-Some, in-None}

pub overflow_add-result : goal.overflow_add-result
overflow_add-result c =
    let low : c.in-Some.at < length c.self.inside.queue = label_low c.self.inside.queue c.in-Some.at c.in-Some.label c.in-Some.ensures.least.held in
    omega (arith, c.self.invariant)

pub returns-clause-taken : goal.returns-clause-taken
returns-clause-taken c =
    elim c.match-take_least.branch [
      | in-Some w ↦
          let low : w.in-Some.at < length c.self.inside.queue = label_low c.self.inside.queue w.in-Some.at w.in-Some.label w.in-Some.ensures.least.held in
          subst (λ (r : Option (NodeNo × Label)). IfSome r (λ (taken : NodeNo × Label). IsTaken c.args.self.now (None ∷ c.take_least.new.self) taken.0.0 taken.1)) (sym w.result-is)
          (subst (λ (old : List (Option Label)). IsTaken old (None ∷ c.take_least.new.self) (w.in-Some.at + 1) w.in-Some.label) c.self.view_is
          (taken_by c.self.inside.queue c.take_least.new.self w.in-Some.at w.in-Some.label low w.in-Some.ensures.taken w.in-Some.ensures.least w.in-Some.ensures.places))
      | in-None w ↦
          subst (λ (r : Option (NodeNo × Label)). IfSome r (λ (taken : NodeNo × Label). IsTaken c.args.self.now (None ∷ c.take_least.new.self) taken.0.0 taken.1)) (sym w.result-is) tt
    ]
