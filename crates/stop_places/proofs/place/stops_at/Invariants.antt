use Rattle.std.proofs.Common.{◌≡◌, length}
use Rattle.stop_places.specs.Given.{vertex_in}
use Rattle.stop_places.proofs.Placed.{EachPlaced}
use Rattle.stop_places.proofs.place.stops_at.Given as goal

abbrev pub invariant-loop-stop : goal.invariant-loop-stop
invariant-loop-stop l = record {
  long : length l.placed ≡ l.stop-index;
  each : EachPlaced (vertex_in l.given) l.near l.stops l.placed;
}
