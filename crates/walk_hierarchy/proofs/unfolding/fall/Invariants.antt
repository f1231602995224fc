use Rattle.std.proofs.Common.{◌≡◌, ◌+◌, ℕ, []}
use Rattle.move_model.specs.declared.network.NodeNo.{NodeNo}
use Rattle.move_model.specs.Streets.{Streets}
use Rattle.walk_hierarchy.specs.declared.labels.Label.{Label}
use Rattle.walk_hierarchy.specs.Labels.{HasLabel, HasLeastLabel}
use Rattle.walk_hierarchy.specs.Hierarchy.{rank_of, IsOver}
use Rattle.walk_hierarchy.specs.Meeting.{IsArcBack}
use Rattle.walk_hierarchy.specs.Places.{by_vertex}
use Rattle.walk_hierarchy.specs.Unfolding.{IsUnfolding}
use Rattle.walk_hierarchy.proofs.unfolding.fall.Given as goal

abbrev pub invariant-on : goal.invariant-on
invariant-on l = record {
  here : HasLeastLabel (IsArcBack l.hierarchy.down) l.fn.to.0 (by_vertex l.hierarchy.ranks l.names l.labels) l.at.0;
  empty : l.stack.items ≡ [];
  done : ℕ;
  total : (x : Label) → HasLabel (by_vertex l.hierarchy.ranks l.names l.labels) l.fn.top.0 x → here.x.seconds + done ≡ x.seconds;
  walks : (graph : Streets) (a : NodeNo) (m : ℕ) → IsOver graph l.hierarchy → IsUnfolding graph a l.fn.top m [] l.fn.way → IsUnfolding graph a l.at (m + done) [] l.way;
}

abbrev pub decreases-on : goal.decreases-on
decreases-on l = rank_of l.hierarchy l.at
