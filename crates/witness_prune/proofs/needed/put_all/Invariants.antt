use Rattle.std.proofs.Common.{◌≤◌, ◌+◌, ◌-◌, ◌⊎◌, length, vec_len}
use Rattle.std.specs.Prelude.{◌↔◌, Contains, vec_capacity}
use Rattle.witness_prune.specs.Needed.{Pair, IsRising}
use Rattle.witness_prune.proofs.NeededLemmas.{StandsBelow}
use Rattle.witness_prune.proofs.needed.put_all.Given as goal

abbrev pub invariant-loop-pair : goal.invariant-loop-pair
invariant-loop-pair l = record {
  rising : IsRising l.pairs.items;
  room : vec_len l.pairs + (length l.more - l.pair-index) ≤ vec_capacity l.pairs;
  pairs : (q : Pair) → Contains l.pairs.items q ↔ (Contains l.fn.pairs.items q ⊎ StandsBelow l.more l.pair-index q);
}
