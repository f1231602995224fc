use Rattle.std.proofs.Common.{◌≡◌, ◌+◌, ◌++◌, ◌∷◌, [], ℕ, List, Option, sym, ap, subst, ◌∙◌, inr, arith}
use Rattle.std.specs.Prelude.{All}
use Rattle.std.proofs.lemmas.List.Elements.{All-push}
use Rattle.move_model.specs.declared.network.NodeNo.{NodeNo}
use Rattle.walk_hierarchy.specs.declared.arcs.UpDown.{UpDown}
use Rattle.walk_hierarchy.specs.declared.labels.Label.{Label}
use Rattle.walk_laws.specs.Sums.{IsSum, IsLeast}
use Rattle.walk_hierarchy.specs.Hierarchy.{HasArc}
use Rattle.walk_hierarchy.specs.Meeting.{IsArcBack}
use Rattle.walk_hierarchy.specs.Places.{by_vertex}
use Rattle.walk_hierarchy.specs.Unfolding.{IsArcOf, IsUnfolding}
use Rattle.walk_hierarchy.proofs.PlaceLaws.{label_named}
use Rattle.walk_hierarchy.proofs.UnfoldLaws.{no_arcs_of, label_same, same_node, step_back, parent_down, unfolding_push, first_zero}
use Rattle.walk_hierarchy.proofs.unfolding.fall.Goals as goal

pub on-init : goal.on-init
on-init c = record {
  here = c.requires.top;
  empty = c.requires.empty;
  done = 0;
  total = λ x has. omega (arith, ap (λ (y : Label). y.seconds) (label_same (by_vertex c.args.hierarchy.now.ranks c.args.names.now c.args.labels.now) c.args.top.0 c.requires.top.x x c.requires.top.has has));
  walks = λ graph a m over start. let same : m ≡ m + 0 = omega arith in subst (λ (n : ℕ). IsUnfolding graph a c.args.top n [] c.args.way.now) same start;
}

pub label_at-requires-clause-label : goal.label_at-requires-clause-label
label_at-requires-clause-label c =
    let here = c.on.invariant.here in
    let step = step_back (IsArcBack c.args.hierarchy.now.down) c.args.to.0 (by_vertex c.args.hierarchy.now.ranks c.args.names.now c.args.labels.now) c.on.at.0 here.x c.requires.labels here.has here.least c.on-test.true in
    (here.x, (here.has, (label_named c.args.hierarchy.now.ranks c.args.names.now c.requires.names c.args.labels.now here.x.parent.0 step.y step.before).at.from_one))

pub arc_down-requires : goal.arc_down-requires
arc_down-requires c =
    let here = c.on.invariant.here in
    let step = step_back (IsArcBack c.args.hierarchy.now.down) c.args.to.0 (by_vertex c.args.hierarchy.now.ranks c.args.names.now c.args.labels.now) c.on.at.0 here.x c.requires.labels here.has here.least c.on-test.true in
    let same = label_same (by_vertex c.args.hierarchy.now.ranks c.args.names.now c.args.labels.now) c.on.at.0 here.x c.label_at.result here.has c.label_at.ensures in
    subst (λ (x : Label). (l : ℕ) × HasArc c.args.hierarchy.now.down c.on.at.0 x.parent.0 l) same
    (step.k, step.leads)

pub unfold-requires-clause-arcs : goal.unfold-requires-clause-arcs
unfold-requires-clause-arcs c =
    let h = c.args.hierarchy.now in
    subst (λ (ys : List UpDown). All (IsArcOf h) ys) (sym c.in_ok-push.ensures.items)
    (All-push (IsArcOf h) c.on.stack.items c.arc_down.result (no_arcs_of h c.on.stack.items c.on.invariant.empty) (inr c.arc_down.ensures.stands))

pub on-preserved : goal.on-preserved
on-preserved c =
    let labels : List (Option Label) = by_vertex c.args.hierarchy.now.ranks c.args.names.now c.args.labels.now in
    let arc = c.arc_down.result in
    let same = label_same labels c.on.at.0 c.on.invariant.here.x c.label_at.result c.on.invariant.here.has c.label_at.ensures in
    let least : IsLeast (IsSum (IsArcBack c.args.hierarchy.now.down) c.args.to.0 c.on.at.0) c.label_at.result.seconds =
    subst (λ (x : Label). IsLeast (IsSum (IsArcBack c.args.hierarchy.now.down) c.args.to.0 c.on.at.0) x.seconds) same c.on.invariant.here.least in
    let parent = parent_down c.args.hierarchy.now c.requires.rules labels c.on.at c.label_at.result arc c.args.to c.requires.labels c.label_at.ensures least c.on-test.true
    c.arc_down.ensures.stands c.arc_down.ensures.from c.arc_down.ensures.to in
    let stack : c.push.new.self.items ≡ arc ∷ [] = c.in_ok-push.ensures.items ∙ ap (λ (ys : List UpDown). ys ++ arc ∷ []) c.on.invariant.empty in
    record {
      here = record { x = parent.y; has = parent.before; least = parent.least };
      empty = c.in_ok-unfold.ensures.empty;
      done = c.on.invariant.done + arc.seconds;
      total = λ x has. omega (arith, c.on.invariant.total x has, parent.exact, ap (λ (y : Label). y.seconds) same);
      walks = λ graph a m over start.
          let more : IsUnfolding graph a arc.to (m + c.on.invariant.done + arc.seconds) c.push.new.self.items c.on.way =
          unfolding_push graph a c.on.at (m + c.on.invariant.done) arc c.push.new.self.items c.on.way stack c.arc_down.ensures.from (c.on.invariant.walks graph a m over start) in
          let all : m + c.on.invariant.done + arc.seconds ≡ m + (c.on.invariant.done + arc.seconds) = omega arith in
          c.in_ok-unfold.ensures.walks graph a c.label_at.result.parent (m + (c.on.invariant.done + arc.seconds)) over
          (subst (λ (n : ℕ). IsUnfolding graph a c.label_at.result.parent n c.push.new.self.items c.on.way) all
          (subst (λ (v : NodeNo). IsUnfolding graph a v (m + c.on.invariant.done + arc.seconds) c.push.new.self.items c.on.way) c.arc_down.ensures.to more));
    }

pub returns : goal.returns
returns c = record {
  walks = λ graph a m x over has start.
      let at : c.on.at ≡ c.args.to = same_node c.on.at c.args.to c.on-test.false in
      let last : IsLeast (IsSum (IsArcBack c.args.hierarchy.now.down) c.args.to.0 c.args.to.0) c.on.invariant.here.x.seconds =
      subst (λ (v : NodeNo). IsLeast (IsSum (IsArcBack c.args.hierarchy.now.down) c.args.to.0 v.0) c.on.invariant.here.x.seconds) at c.on.invariant.here.least in
      let zero_here = first_zero (IsArcBack c.args.hierarchy.now.down) c.args.to.0 c.on.invariant.here.x.seconds last in
      let all : m + c.on.invariant.done ≡ m + x.seconds = omega (arith, c.on.invariant.total x has, zero_here) in
      subst (λ (n : ℕ). IsUnfolding graph a c.args.to n [] c.on.way) all
      (subst (λ (v : NodeNo). IsUnfolding graph a v (m + c.on.invariant.done) [] c.on.way) at (c.on.invariant.walks graph a m over start));
}
