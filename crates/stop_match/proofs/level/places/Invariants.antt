-- The places so far are those of the first vertices.
use Rattle.std.proofs.Common.{◌≡◌}
use Rattle.stop_match.specs.Place.{AreAllPlaces}
use Rattle.stop_match.proofs.level.places.Given as goal

abbrev pub invariant-loop-point : goal.invariant-loop-point
invariant-loop-point l = record { number : l.number ≡ l.point-index; places : AreAllPlaces l.places.items l.point-index }
