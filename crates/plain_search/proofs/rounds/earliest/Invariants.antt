use Rattle.std.proofs.Common.{◌≡◌, take, map}
use Rattle.plain_search.specs.Row.{second_of}
use Rattle.plain_search.proofs.rounds.earliest.Given as goal

abbrev pub invariant-loop-row : goal.invariant-loop-row
invariant-loop-row l = l.all ≡ map (λ row. map second_of row) (take l.row-index l.row-items)
