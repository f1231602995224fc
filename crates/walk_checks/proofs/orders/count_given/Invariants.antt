use Rattle.std.proofs.Common.{◌≡◌, length}
use Rattle.walk_checks.proofs.orders.count_given.Given as goal

abbrev pub ghosts-walks : goal.ghosts-walks
ghosts-walks a = record { name = a.blank.name; parts = a.blank.parts }

abbrev pub invariant-loop-row : goal.invariant-loop-row
invariant-loop-row l = l.work.nodes ≡ length l.hierarchy.ranks
