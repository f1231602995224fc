use Rattle.move_model.specs.Network.{IsAtOrBefore}
use Rattle.move_model.proofs.CheckLemmas.{not-before_end}
use Rattle.move_model.proofs.check.precedes.Goals as goal

pub returns-then-i-next : goal.returns-then-i-next
returns-then-i-next c =
    let none : IsAtOrBefore c.args.calls.now c.args.next.now → ⊥ = λ h. not-before_end _ _ _ c.loop-i-test.true c.if-i-next.true (c.loop-i.invariant.1 h) in
    (λ f. cc, λ h. absurd (none h))
