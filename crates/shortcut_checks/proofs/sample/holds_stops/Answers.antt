use Rattle.std.proofs.Common.{◌≡◌, ℕ, inl, inr, get_or, rules, subst, arith}
use Rattle.std.proofs.lemmas.Bool.{cases_lt}
use Rattle.std.proofs.lemmas.List.{get_or_default}
use Rattle.move_model.specs.declared.network.Stop.{Stop}
use Rattle.walk_core.specs.Core.{Holds}
use Rattle.shortcut_checks.proofs.sample.holds_stops.Goals as goal

pub loop-i-preserved : goal.loop-i-preserved
loop-i-preserved c = λ k d low. elim (cases_lt k c.loop-i.i) [
  | inl before ↦ c.loop-i.invariant k d before
  | inr past ↦
      let core = c.args.core.now in
      let stops = c.args.stops.now in
      let here : Holds core (get_or stops c.loop-i.i c.index-stops-i.result).node = c.if-not-holds.ensures.0 (search rules) in
      let at = get_or_default stops c.loop-i.i c.index-stops-i.result d c.loop-i-test.true in
      let same : c.loop-i.i ≡ k = omega (arith, low, past) in
      subst (λ (n : ℕ). Holds core (get_or stops n d).node) same (subst (λ (stop : Stop). Holds core stop.node) at here)
]

pub returns : goal.returns
returns c = λ yes k d low. c.loop-i.invariant k d (omega (arith, low, c.loop-i-test.false))
