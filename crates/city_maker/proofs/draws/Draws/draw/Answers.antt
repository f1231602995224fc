use Rattle.std.proofs.Common.{◌≡◌, ◌+◌, ◌/◌, ◌^◌, ◌∙◌, ℕ, refl, sym, ap, add-one}
use Rattle.city_maker.specs.Draws.{next, state_after, draw}
use Rattle.city_maker.proofs.draws.Draws.draw.Goals as goal

state_more : (number k : ℕ) → state_after number (k + 1) ≡ next (state_after number k)
unfolding state_after
state_more number k = rw add-one refl

pub invariant_of-self : goal.invariant_of-self
invariant_of-self c =
    let now = c.args.self.now in
    record { stands = c.next-state.ensures ∙ ap next now.stands ∙ sym (state_more now.number now.made) }

pub returns-clause-value : goal.returns-clause-value
unfolding draw
returns-clause-value c =
    let now = c.args.self.now in
    ap (λ (s : ℕ). s / 2 ^ 33) (c.next-state.ensures ∙ ap next now.stands ∙ sym (state_more now.number now.made))
