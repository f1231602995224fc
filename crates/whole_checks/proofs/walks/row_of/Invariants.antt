use Rattle.std.proofs.Common.{◌≡◌, length}
use Rattle.std.specs.Prelude.{All}
use Rattle.raptor_rounds.specs.Answers.{HasSeconds}
use Rattle.whole_checks.proofs.walks.row_of.Given as goal

abbrev pub invariant-loop-x : goal.invariant-loop-x
invariant-loop-x l = (length l.row ≡ l.stops) × All HasSeconds l.row
