use Rattle.plain_search.specs.Row.{IsWhole, WalksOn, weight}
use Rattle.plain_search.proofs.walks.walk_on.Given as goal

abbrev pub invariant-loop : goal.invariant-loop
invariant-loop l = record { whole : IsWhole l.row; walks : WalksOn l.arcs l.initial.row l.row }

abbrev pub decreases-loop : goal.decreases-loop
decreases-loop l = weight l.row
