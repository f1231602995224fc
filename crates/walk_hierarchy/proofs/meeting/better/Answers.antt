use Rattle.std.proofs.Common.{◌≡◌, Some, None, refl, sym, ap, ◌∙◌, inl, inr, arith}
use Rattle.walk_hierarchy.specs.declared.labels.Label.{Label}
use Rattle.walk_hierarchy.specs.Labels.{HasLabel}
use Rattle.walk_hierarchy.proofs.SearchLaws.{label_same}
use Rattle.walk_hierarchy.proofs.meeting.better.Goals as goal

pub overflow_add-total : goal.overflow_add-total
overflow_add-total c =
    let there : HasLabel c.args.others.now c.args.node.0 c.in-Some.there = record { is = sym c.in-Some.ensures } in
    let few = c.requires.others_few c.args.node.0 c.in-Some.there there in
    omega (arith, c.requires.few, few)

pub returns-in_default : goal.returns-in_default
returns-in_default c = record {
  lower = omega arith;
  here = λ y has. let e : None ≡ Some y = c.in_default.ensures ∙ has.is in absurd (cc);
  is = inl refl;
}

pub returns-then-bound-total : goal.returns-then-bound-total
returns-then-bound-total c =
    let there : HasLabel c.args.others.now c.args.node.0 c.in-Some.there = record { is = sym c.in-Some.ensures } in
    record {
      lower = omega arith;
      here = λ y has.
          let same = label_same c.args.others.now c.args.node.0 c.in-Some.there y there has in
          omega (arith, c.bound.ensures, c.if-bound-total.true, ap (λ (z : Label). z.seconds) same);
      is = inl refl;
    }

pub returns : goal.returns
returns c =
    let there : HasLabel c.args.others.now c.args.node.0 c.in-Some.there = record { is = sym c.in-Some.ensures } in
    record {
      lower = omega (arith, c.bound.ensures, c.if-bound-total.false);
      here = λ y has.
          let same = label_same c.args.others.now c.args.node.0 c.in-Some.there y there has in
          omega (arith, ap (λ (z : Label). z.seconds) same);
      is = inr (c.in-Some.there, (there, refl));
    }
