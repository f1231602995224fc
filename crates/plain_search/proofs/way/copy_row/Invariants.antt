use Rattle.std.proofs.Common.{◌≡◌, take}
use Rattle.plain_search.proofs.way.copy_row.Given as goal

abbrev pub invariant-loop-way : goal.invariant-loop-way
invariant-loop-way l = l.copy.items ≡ take l.way-index l.row
