use Rattle.std.proofs.Common.{◌+◌, ◌++◌, List, map, arith, sym, ap, subst, refl, ◌∙◌}
use Rattle.move_model.specs.declared.network.NodeNo.{NodeNo}
use Rattle.walk_laws.specs.declared.CoreArc.{CoreArc}
use Rattle.walk_hierarchy.specs.declared.arcs.UpDown.{UpDown}
use Rattle.walk_order.specs.Lists.{with_ends, AreArcsOf}
use Rattle.walk_order.proofs.ListLemmas.{AreArcsOf-none, AreArcsOf-more}
use Rattle.walk_order.proofs.HierarchyLemmas.{AreRows-of_core}
use Rattle.walk_order.proofs.arcs.gathered.Goals as goal

pub loop-place-preserved : goal.loop-place-preserved
loop-place-preserved c =
    let core = c.args.core.now in
    let side = c.args.side in
    let node : NodeNo = record { 0 = c.loop-place.place + 1 } in
    subst (λ (arcs : List UpDown). AreArcsOf side core (c.loop-place.place + 1) arcs)
    (sym (c.in_ok-push_row.ensures ∙ ap (λ (row : List CoreArc). c.loop-place.arcs.items ++ map (with_ends side node) row) c.row.ensures))
    (AreArcsOf-more side core (AreRows-of_core c.nodes-place-end.ensures.rules.0 core c.nodes-place-end.ensures.rules.1 side) c.loop-place.place c.loop-place.arcs.items
    c.loop-place.invariant (omega arith) node refl)
