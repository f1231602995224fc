use Rattle.std.proofs.Common.{◌≡◌, ◌+◌, ℕ}
use Rattle.std.specs.Prelude.{All}
use Rattle.walk_hierarchy.specs.declared.labels.Label.{Label}
use Rattle.walk_hierarchy.specs.Labels.{HasLabel, HasLeastLabel}
use Rattle.walk_hierarchy.specs.Hierarchy.{HasArc, rank_of}
use Rattle.walk_hierarchy.specs.Places.{by_vertex}
use Rattle.walk_hierarchy.specs.Unfolding.{IsArcOf, IsStack}
use Rattle.walk_hierarchy.proofs.unfolding.climb.Given as goal

abbrev pub invariant-back : goal.invariant-back
invariant-back l = record {
  here : HasLeastLabel (HasArc l.hierarchy.up) l.fn.from.0 (by_vertex l.hierarchy.ranks l.names l.labels) l.at.0;
  arcs : All (IsArcOf l.hierarchy) l.stack.items;
  m : ℕ;
  stacked : IsStack l.stack.items l.at l.fn.top m;
  total : (x : Label) → HasLabel (by_vertex l.hierarchy.ranks l.names l.labels) l.fn.top.0 x → here.x.seconds + m ≡ x.seconds;
}

abbrev pub decreases-back : goal.decreases-back
decreases-back l = rank_of l.hierarchy l.at
