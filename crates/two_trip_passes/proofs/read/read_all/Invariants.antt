use Rattle.std.proofs.Common.{◌+◌, ◌≤◌, ◌⊎◌, vec_len, vec_capacity}
use Rattle.std.specs.Prelude.{◌↔◌}
use Rattle.two_trip_passes.specs.Read.{Pair, IsFound, HasRead}
use Rattle.two_trip_passes.proofs.read.read_all.Given as goal

abbrev pub invariant-loop-stop : goal.invariant-loop-stop
invariant-loop-stop l = record {
  pairs : (q : Pair) → IsFound l.known l.pairs.items q ↔ (IsFound l.known l.fn.pairs.items q ⊎ HasRead l.rows l.foot l.second l.before l.own l.boarded l.best l.stop q.0 q.1);
  len : vec_len l.pairs ≤ vec_len l.fn.pairs + l.stop;
  capacity : vec_capacity l.fn.pairs ≤ vec_capacity l.pairs;
}
