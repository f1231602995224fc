use Rattle.std.proofs.Common.{◌≡◌, ◌-◌, List, slice_index_or, Some, length, arith, ap, sym, ◌∙◌}
use Rattle.std.specs.Prelude.{slice_get}
use Rattle.std.proofs.lemmas.List.{length-set}
use Rattle.std.proofs.lemmas.Option.{slice_get-get_or, slice_get_within}
use Rattle.move_model.specs.declared.network.NodeNo.{NodeNo}
use Rattle.walk_order.proofs.HierarchyLemmas.{ranks_more}
use Rattle.walk_order.proofs.whole.ranks_of.Goals as goal

pub loop-place-preserved : goal.loop-place-preserved
loop-place-preserved c =
    let core = c.args.core.now in
    let rules = c.nodes.ensures.rules in
    let node : NodeNo = slice_index_or c.contracted-node-items.result.now c.loop-place.place (record { 0 = 0 }) in
    let there : slice_get core.contracted c.loop-place.place ≡ Some node =
    ap (λ (list : List NodeNo). slice_get list c.loop-place.place) (sym c.contracted-node-items.ensures)
    ∙ slice_get-get_or c.contracted-node-items.result.now c.loop-place.place (record { 0 = 0 }) (omega arith) in
    record {
      many = length-set c.loop-place.ranks.items (node.0 - 1) c.loop-place.place ∙ c.loop-place.invariant.many;
      places = ranks_more rules.0 core rules.1 c.loop-place.ranks.items c.loop-place.place node there c.loop-place.invariant.many c.loop-place.invariant.places;
    }

pub returns : goal.returns
returns c =
    record {
      many = c.loop-place.invariant.many;
      places = λ k v e.
          let lt = slice_get_within c.args.core.now.contracted k v e in
          c.loop-place.invariant.places k v (omega (arith, lt, ap length c.contracted-node-items.ensures)) e;
    }
