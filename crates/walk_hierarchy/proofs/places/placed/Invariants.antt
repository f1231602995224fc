use Rattle.std.proofs.Common.{◌≡◌, ◌≤◌, length, map, take, vec_capacity}
use Rattle.walk_hierarchy.specs.Places.{place_arc}
use Rattle.walk_hierarchy.proofs.places.placed.Given as goal

abbrev pub invariant-loop-arc : goal.invariant-loop-arc
invariant-loop-arc l = record {
  all : l.all.items ≡ map (place_arc l.ranks) (take l.arc-index l.arcs);
  room : length l.arcs ≤ vec_capacity l.all;
}
