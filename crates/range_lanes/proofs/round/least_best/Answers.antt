use Rattle.std.proofs.Common.{inl, inr, sym, arith}
use Rattle.range_lanes.proofs.round.least_best.Goals as goal

pub loop-i-preserved : goal.loop-i-preserved
loop-i-preserved c = record {
  each = λ a small le. elim c.lesser-bound.ensures [
    | inl same ↦ c.loop-i.invariant.each a small (omega (arith, same, le))
    | inr same ↦ (c.index-below-i.result, (c.loop-i.i, c.loop-i-test.true, sym c.index-below-i.is), omega (arith, same, le))
  ];
}
