use Rattle.std.proofs.Common.{◌≡◌, ◌+◌, ◌++◌, ◌∷◌, [], ℕ, List, Option, sym, ap, subst, inl, arith}
use Rattle.std.specs.Prelude.{All}
use Rattle.std.proofs.lemmas.List.Elements.{All-push}
use Rattle.move_model.specs.declared.network.NodeNo.{NodeNo}
use Rattle.walk_hierarchy.specs.declared.arcs.UpDown.{UpDown}
use Rattle.walk_hierarchy.specs.declared.labels.Label.{Label}
use Rattle.walk_hierarchy.specs.Hierarchy.{HasArc}
use Rattle.walk_laws.specs.Sums.{IsSum, IsLeast}
use Rattle.walk_hierarchy.specs.Places.{by_vertex}
use Rattle.walk_hierarchy.specs.Unfolding.{IsArcOf, IsStack}
use Rattle.walk_hierarchy.proofs.PlaceLaws.{label_named}
use Rattle.walk_hierarchy.proofs.UnfoldLaws.{no_arcs_of, stack_start, label_same, same_node, step_back, parent_up, stack_push, first_zero}
use Rattle.walk_hierarchy.proofs.unfolding.climb.Goals as goal

pub back-init : goal.back-init
back-init c = record {
  here = c.requires.top;
  arcs = no_arcs_of c.args.hierarchy.now c.args.stack.now.items c.requires.empty;
  m = 0;
  stacked = stack_start c.args.stack.now.items c.args.top c.requires.empty;
  total = λ x has. omega (arith, ap (λ (y : Label). y.seconds) (label_same (by_vertex c.args.hierarchy.now.ranks c.args.names.now c.args.labels.now) c.args.top.0 c.requires.top.x x c.requires.top.has has));
}

pub label_at-requires-clause-label : goal.label_at-requires-clause-label
label_at-requires-clause-label c =
    let here = c.back.invariant.here in
    let step = step_back (HasArc c.args.hierarchy.now.up) c.args.from.0 (by_vertex c.args.hierarchy.now.ranks c.args.names.now c.args.labels.now) c.back.at.0 here.x c.requires.labels here.has here.least c.back-test.true in
    (here.x, (here.has, (label_named c.args.hierarchy.now.ranks c.args.names.now c.requires.names c.args.labels.now here.x.parent.0 step.y step.before).at.from_one))

pub arc_up-requires : goal.arc_up-requires
arc_up-requires c =
    let here = c.back.invariant.here in
    let step = step_back (HasArc c.args.hierarchy.now.up) c.args.from.0 (by_vertex c.args.hierarchy.now.ranks c.args.names.now c.args.labels.now) c.back.at.0 here.x c.requires.labels here.has here.least c.back-test.true in
    let same = label_same (by_vertex c.args.hierarchy.now.ranks c.args.names.now c.args.labels.now) c.back.at.0 here.x c.label_at.result here.has c.label_at.ensures in
    subst (λ (x : Label). (l : ℕ) × HasArc c.args.hierarchy.now.up x.parent.0 c.back.at.0 l) same
    (step.k, step.leads)

pub back-preserved : goal.back-preserved
back-preserved c =
    let h = c.args.hierarchy.now in
    let labels : List (Option Label) = by_vertex c.args.hierarchy.now.ranks c.args.names.now c.args.labels.now in
    let xs = c.back.stack.items in
    let arc = c.arc_up.result in
    let same = label_same labels c.back.at.0 c.back.invariant.here.x c.label_at.result c.back.invariant.here.has c.label_at.ensures in
    let least : IsLeast (IsSum (HasArc h.up) c.args.from.0 c.back.at.0) c.label_at.result.seconds =
    subst (λ (x : Label). IsLeast (IsSum (HasArc h.up) c.args.from.0 c.back.at.0) x.seconds) same c.back.invariant.here.least in
    let parent = parent_up h c.requires.rules labels c.back.at c.label_at.result arc c.args.from c.requires.labels c.label_at.ensures least c.back-test.true
    c.arc_up.ensures.stands c.arc_up.ensures.from c.arc_up.ensures.to in
    let m : ℕ = c.back.invariant.m + arc.seconds in
    record {
      here = record { x = parent.y; has = parent.before; least = parent.least };
      arcs = subst (λ (ys : List UpDown). All (IsArcOf h) ys) (sym c.in_ok-push.ensures.items)
          (All-push (IsArcOf h) xs arc c.back.invariant.arcs (inl c.arc_up.ensures.stands));
      m = c.back.invariant.m + arc.seconds;
      stacked = subst (λ (ys : List UpDown). IsStack ys c.label_at.result.parent c.args.top (c.back.invariant.m + arc.seconds)) (sym c.in_ok-push.ensures.items)
          (subst (λ (v : NodeNo). IsStack (xs ++ arc ∷ []) v c.args.top (c.back.invariant.m + arc.seconds)) c.arc_up.ensures.from
          (stack_push xs arc c.back.invariant.stacked c.arc_up.ensures.to));
      total = λ x has. omega (arith, c.back.invariant.total x has, parent.exact, ap (λ (y : Label). y.seconds) same);
    }

pub returns-clause-stacked : goal.returns-clause-stacked
returns-clause-stacked c = λ x has.
    let at : c.back.at ≡ c.args.from = same_node c.back.at c.args.from c.back-test.false in
    let first : IsLeast (IsSum (HasArc c.args.hierarchy.now.up) c.args.from.0 c.args.from.0) c.back.invariant.here.x.seconds =
    subst (λ (v : NodeNo). IsLeast (IsSum (HasArc c.args.hierarchy.now.up) c.args.from.0 v.0) c.back.invariant.here.x.seconds) at c.back.invariant.here.least in
    let zero_here = first_zero (HasArc c.args.hierarchy.now.up) c.args.from.0 c.back.invariant.here.x.seconds first in
    let all : c.back.invariant.m ≡ x.seconds = omega (arith, c.back.invariant.total x has, zero_here) in
    subst (λ (n : ℕ). IsStack c.back.stack.items c.args.from c.args.top n) all
    (subst (λ (v : NodeNo). IsStack c.back.stack.items v c.args.top c.back.invariant.m) at c.back.invariant.stacked)
