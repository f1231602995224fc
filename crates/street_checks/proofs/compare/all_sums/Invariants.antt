use Rattle.std.proofs.Common.{◌≡◌, length}
use Rattle.street_checks.proofs.compare.all_sums.Given as goal

abbrev pub invariant-loop-place : goal.invariant-loop-place
invariant-loop-place g l = l.work.nodes ≡ length l.hierarchy.ranks
