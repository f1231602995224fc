-- The cells so far are those of the first places.
use Rattle.std.proofs.Common.{take}
use Rattle.stop_match.specs.Place.{AreCellsOf}
use Rattle.stop_match.proofs.level.point_cells.Given as goal

abbrev pub invariant-loop-place : goal.invariant-loop-place
invariant-loop-place l = AreCellsOf l.cells.items (take l.place-index l.places) l.points
