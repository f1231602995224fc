use Rattle.std.proofs.Common.{◌≡◌, ◌-◌, ◌∙◌, ◌++◌, ◌∷◌, [], ap, sym, Some, arith}
use Rattle.std.specs.Prelude.{slice_get}
use Rattle.std.proofs.lemmas.Option.{slice_get-get_or}
use Rattle.range_search.proofs.RideLemmas.{Rest, chain_ends, chain_goes_on, pushed, pushed_first}
use Rattle.range_search.proofs.rides.+push_rides.Goals.{then-k-gt0+in_ok-push_rides, else-k-gt0}
use Rattle.range_search.proofs.rides.+push_rides.Goals as goal

pub returns : goal.returns
returns t c chain is_chain =
    let level = c.index-levels-k.result in
    let is_level : slice_get c.args.levels.now c.args.k ≡ Some level = slice_get-get_or c.args.levels.now c.args.k level c.requires ∙ ap (λ v. Some v) (sym c.index-levels-k.is) in
    let is_step : slice_get level.steps.items c.args.stop.0 ≡ Some c.in-Some.step = sym c.step_at.ensures ∙ c.in-Some.is in
    elim c.if-k-gt0.branch [
      | then-k-gt0+in_ok-push_rides w ↦
          let rest : Rest c.args.levels.now (c.args.k - 1) c.in-Some.step chain =
          chain_goes_on c.args.levels.now c.args.k (c.args.k - 1) c.args.stop chain is_chain (omega (arith, w.if-k-gt0.true)) level is_level c.in-Some.step is_step in
          pushed c.in-Some.step chain c.args.rides.now w.push_rides.new.rides c.push.new.self rest.rides rest.chain_is (w.in_ok-push_rides.ensures rest.rides rest.rest)
          (c.in_ok-push.ensures.ok ∙ ap (λ v. v ++ c.in-Some.step.ride ∷ []) w.rides-is)
      | else-k-gt0 w ↦
          pushed_first c.in-Some.step.ride chain c.args.rides.now c.if-k-gt0.rides c.push.new.self
          (chain_ends c.args.levels.now c.args.k c.args.stop chain is_chain (omega (arith, w.if-k-gt0.false)) level is_level c.in-Some.step is_step)
          w.rides-is c.in_ok-push.ensures.ok
    ]
