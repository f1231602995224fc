use Rattle.std.proofs.Common.{ℕ}
use Rattle.std.specs.Prelude.{All}
use Rattle.move_model.specs.declared.network.NodeNo.{NodeNo}
use Rattle.move_model.specs.Streets.{Streets}
use Rattle.walk_hierarchy.specs.Hierarchy.{IsOver}
use Rattle.walk_hierarchy.specs.Unfolding.{IsArcOf, IsUnfolding}
use Rattle.walk_hierarchy.proofs.UnfoldLaws.{load}
use Rattle.walk_hierarchy.proofs.unfolding.unfold.Given as goal

abbrev pub invariant-arcs : goal.invariant-arcs
invariant-arcs l = record {
  arcs : All (IsArcOf l.hierarchy) l.stack.items;
  walks : (graph : Streets) (a b : NodeNo) (total : ℕ) → IsOver graph l.hierarchy
      → IsUnfolding graph a b total l.fn.stack.items l.fn.way → IsUnfolding graph a b total l.stack.items l.way;
}

abbrev pub decreases-arcs : goal.decreases-arcs
decreases-arcs l = load l.hierarchy l.stack.items
