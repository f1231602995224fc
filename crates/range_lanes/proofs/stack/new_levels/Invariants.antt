use Rattle.std.proofs.Common.{◌≡◌}
use Rattle.std.specs.Prelude.{All, vec_len}
use Rattle.range_lanes.specs.State.{IsBlank}
use Rattle.range_lanes.proofs.stack.new_levels.Given as goal

abbrev pub invariant-loop-k : goal.invariant-loop-k
invariant-loop-k l = record {
  many : vec_len l.levels ≡ l._k;
  blank : All (IsBlank l.stops) l.levels.items;
}
