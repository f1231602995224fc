use Rattle.std.proofs.Common.{◌≡◌, take, map}
use Rattle.plain_search.specs.Row.{second_of}
use Rattle.plain_search.proofs.rounds.seconds_of.Given as goal

abbrev pub invariant-loop-way : goal.invariant-loop-way
invariant-loop-way l = l.seconds ≡ map second_of (take l.way-index l.way-items)
