use Rattle.network_rules.proofs.RankLemmas.{AreSeen}
use Rattle.network_rules.proofs.ranks.are_ranks.Given as goal

abbrev pub invariant-loop-i : goal.invariant-loop-i
invariant-loop-i l = AreSeen l.ranks l.seen.items l.i
