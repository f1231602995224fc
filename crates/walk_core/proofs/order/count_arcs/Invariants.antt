use Rattle.std.proofs.Common.{◌≡◌, vec_len, length}
use Rattle.walk_core.proofs.order.count_arcs.Given as goal

abbrev pub invariant-loop-x : goal.invariant-loop-x
invariant-loop-x l = vec_len l.search.labels ≡ length l.rank
