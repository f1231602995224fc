use Rattle.std.proofs.Common.{◌≡◌, ◌≢◌, ◌<◌, ◌+◌, ℕ, length, slice_index, set, refl, sym, ap, ◌∙◌, arith, Some, rules}
use Rattle.std.specs.Prelude.{slice_get}
use Rattle.std.proofs.lemmas.Option.{slice_get-get_or}
use Rattle.raptor_rounds.proofs.WalksLemmas.{below_more, set_elsewhere, keep_more}
use Rattle.raptor_rounds.proofs.go_on.keep_steps.Goals as goal

pub loop-y-preserved : goal.loop-y-preserved
loop-y-preserved c =
    let was = c.loop-y.invariant in
    let stops = c.as_slice-stops.result.now in
    let n = c.loop-y.y-index in
    let at : ℕ = slice_index stops n in
    let base = c.args.base in
    let slots = c.loop-y.slots in
    let steps = c.args.found.now.steps.items in
    let v = c.index.result.now in
    let len : length steps ≡ c.args.found.now.steps.len = search rules in
    let low : at < length steps = omega (arith, c.as_slice-stops.ensures.within n c.loop-y-test.true, c.requires.fresh, len) in
    let room : base + at < length slots = omega (arith, low, c.requires.room, c.loop-y.auto.slots, len) in
    let is : slice_get steps at ≡ Some v = slice_get-get_or steps at v low ∙ ap Some (sym c.index.ensures) in
    record {
      below = λ i lt. let other : i ≢ base + at = omega arith in set_elsewhere slots (base + at) i v other ∙ was.below i lt;
      kept = below_more 0 stops n (λ y. slice_get (set slots (base + at) v) (base + y) ≡ slice_get steps y) c.loop-y-test.true
          (λ i y less here. keep_more slots steps base at v room is y (λ other. was.kept i y less here))
          (keep_more slots steps base at v room is at (λ other. absurd (other refl)));
    }

pub returns-clause-kept : goal.returns-clause-kept
returns-clause-kept c y fresh =
    let has = (c.as_slice-stops.ensures.numbers y).1 fresh in
    c.loop-y.invariant.kept has.0 y (omega (arith, has.1, c.loop-y-test.false)) (slice_get-get_or c.as_slice-stops.result.now has.0 y has.1 ∙ ap Some has.2)
