use Rattle.std.proofs.Common.{◌≡◌}
use Rattle.std.specs.Prelude.{vec_len}
use Rattle.range_profile.proofs.answer.none_open.Given as goal

abbrev pub invariant-loop-k : goal.invariant-loop-k
invariant-loop-k l = vec_len l.pending ≡ l._k
