use Rattle.std.proofs.Common.{◌≡◌, length}
use Rattle.street_checks.proofs.stops.vertices_difference.Given as goal

abbrev pub invariant-loop-place : goal.invariant-loop-place
invariant-loop-place g l = record { fits : l.work.nodes ≡ length l.hierarchy.ranks; one_each : length l.row ≡ length l.stops }
