use Rattle.std.specs.Prelude.{All}
use Rattle.raptor_rounds.specs.Answers.{IsEntryWithin}
use Rattle.whole_checks.proofs.walks.all_pairs.Given as goal

abbrev pub invariant-loop-i : goal.invariant-loop-i
invariant-loop-i l = All (IsEntryWithin l.stops) l.list
