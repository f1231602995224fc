use Rattle.std.proofs.Common.{◌≡◌, ◌<◌, ◌++◌, ◌∷◌, [], List, sym, ap, subst, ◌∙◌, inl, inr}
use Rattle.std.specs.Prelude.{All}
use Rattle.std.proofs.lemmas.List.Elements.{All-push}
use Rattle.walk_hierarchy.specs.declared.arcs.UpDown.{UpDown}
use Rattle.walk_hierarchy.specs.Unfolding.{IsArcOf, IsUnfolding}
use Rattle.walk_hierarchy.proofs.UnfoldLaws.{load, load_popped, load_parts, all_front, all_end, unfolding_street, unfolding_parts}
use Rattle.walk_hierarchy.proofs.unfolding.unfold.Goals as goal

pub arcs-smaller-in-Continue-1 : goal.arcs-smaller-in-Continue-1
arcs-smaller-in-Continue-1 c =
    let h = c.args.hierarchy.now in
    subst (λ (xs : List UpDown). load h c.pop.new.self.items < load h xs) (sym c.in-Some.ensures.items) (load_popped h c.pop.new.self.items c.in-Some.arc)

pub arcs-preserved-in-Continue-1 : goal.arcs-preserved-in-Continue-1
arcs-preserved-in-Continue-1 c =
    let h = c.args.hierarchy.now in
    let xs = c.pop.new.self.items in
    let arc = c.in-Some.arc in
    let all : All (IsArcOf h) (xs ++ arc ∷ []) = subst (λ (ys : List UpDown). All (IsArcOf h) ys) c.in-Some.ensures.items c.arcs.invariant.arcs in
    record {
      arcs = all_front (IsArcOf h) xs arc all;
      walks = λ graph a b total over start.
          unfolding_street h c.requires.rules graph over a b total xs arc c.arcs.way c.go_on.new.self (all_end (IsArcOf h) xs arc all) c.if-arc-eq0.true
          (λ p q m. c.in_ok-go_on.ensures graph p q m)
          (subst (λ (ys : List UpDown). IsUnfolding graph a b total ys c.arcs.way) c.in-Some.ensures.items (c.arcs.invariant.walks graph a b total over start));
    }

pub parts-requires-clause-arc : goal.parts-requires-clause-arc
parts-requires-clause-arc c =
    let h = c.args.hierarchy.now in
    all_end (IsArcOf h) c.pop.new.self.items c.in-Some.arc (subst (λ (ys : List UpDown). All (IsArcOf h) ys) c.in-Some.ensures.items c.arcs.invariant.arcs)

pub arcs-smaller : goal.arcs-smaller
arcs-smaller c =
    let h = c.args.hierarchy.now in
    let xs = c.pop.new.self.items in
    let first = c.parts.result.0 in
    let second = c.parts.result.1 in
    let items : c.push-else-arc-eq0.new.self.items ≡ (xs ++ second ∷ []) ++ first ∷ [] =
    c.in_ok-push-2.ensures.items ∙ ap (λ (ys : List UpDown). ys ++ first ∷ []) c.in_ok-push.ensures.items in
    subst (λ (ys : List UpDown). load h ys < load h c.arcs.stack.items) (sym items)
    (subst (λ (ys : List UpDown). load h ((xs ++ second ∷ []) ++ first ∷ []) < load h ys) (sym c.in-Some.ensures.items)
    (load_parts h c.requires.rules xs c.in-Some.arc first second c.if-arc-eq0.false c.parts.ensures.first c.parts.ensures.second c.parts.ensures.first_to c.parts.ensures.second_from))

pub arcs-preserved : goal.arcs-preserved
arcs-preserved c =
    let h = c.args.hierarchy.now in
    let xs = c.pop.new.self.items in
    let arc = c.in-Some.arc in
    let first = c.parts.result.0 in
    let second = c.parts.result.1 in
    let items : c.push-else-arc-eq0.new.self.items ≡ (xs ++ second ∷ []) ++ first ∷ [] =
    c.in_ok-push-2.ensures.items ∙ ap (λ (ys : List UpDown). ys ++ first ∷ []) c.in_ok-push.ensures.items in
    let all : All (IsArcOf h) (xs ++ arc ∷ []) = subst (λ (ys : List UpDown). All (IsArcOf h) ys) c.in-Some.ensures.items c.arcs.invariant.arcs in
    record {
      arcs = subst (λ (ys : List UpDown). All (IsArcOf h) ys) (sym items)
          (All-push (IsArcOf h) (xs ++ second ∷ []) first
          (All-push (IsArcOf h) xs second (all_front (IsArcOf h) xs arc all) (inl c.parts.ensures.second))
          (inr c.parts.ensures.first));
      walks = λ graph a b total over start.
          subst (λ (ys : List UpDown). IsUnfolding graph a b total ys c.arcs.way) (sym items)
          (unfolding_parts h c.requires.rules graph a b total xs arc first second c.arcs.way
          c.parts.ensures.from c.parts.ensures.first_to c.parts.ensures.second_from c.parts.ensures.to c.parts.ensures.total
          (subst (λ (ys : List UpDown). IsUnfolding graph a b total ys c.arcs.way) c.in-Some.ensures.items (c.arcs.invariant.walks graph a b total over start)));
    }
