use Rattle.std.proofs.Common.{◌≡◌, ℕ, ◌+◌, ◌-◌, ◌≤◌, arith}
use Rattle.std.specs.Prelude.{IsTrue, nat_eq}
use Rattle.std.proofs.lemmas.Bool.Decides.{nat_tests}
use Rattle.network_shape.proofs.OrderLemmas.{no_arc}
use Rattle.network_shape.proofs.MadeLemmas.{adds_up, adds}
use Rattle.network_shape.proofs.made.adds_up.Goals as goal

is_sum : (l k s : ℕ) → l ≤ s → IsTrue (nat_eq k (s - l)) → l + k ≡ s
is_sum l k s le e = grind (arith, nat_tests)

sum_is : (l k s : ℕ) → l ≤ s → l + k ≡ s → IsTrue (nat_eq k (s - l))
sum_is l k s le e = grind (arith, nat_tests)

pub returns-then-l-arc : goal.returns-then-l-arc
returns-then-l-arc c = (
  λ no. absurd cc,
  λ sum.
      let total = adds c.args.up.now c.args.down.now c.args.arc c.in-Some.first c.in-Some-place_between.second no_arc c.requires.up c.requires.down c.in-Some.ensures.found c.in-Some-place_between.ensures.found sum in
      absurd (omega (arith, total)),
)

pub returns : goal.returns
returns c = (
  λ yes. adds_up c.args.up.now c.args.down.now c.args.arc c.in-Some.first c.in-Some-place_between.second no_arc c.in-Some.ensures.found c.in-Some-place_between.ensures.found (is_sum _ _ _ c.if-l-arc.false yes),
  λ sum. sum_is _ _ _ c.if-l-arc.false
      (adds c.args.up.now c.args.down.now c.args.arc c.in-Some.first c.in-Some-place_between.second no_arc c.requires.up c.requires.down c.in-Some.ensures.found c.in-Some-place_between.ensures.found sum),
)
