use Rattle.std.proofs.Common.{◌≡◌, ℕ, length}
use Rattle.std.specs.Prelude.{All}
use Rattle.std.specs.List.{AllWithin}
use Rattle.range_lanes.specs.Levels.{Fits}
use Rattle.range_lanes.specs.State.{IsBlank}
use Rattle.range_lanes.proofs.stack.clear_levels.Given as goal

abbrev pub invariant-loop-k : goal.invariant-loop-k
invariant-loop-k l = record {
  many : length l.levels ≡ length l.fn.levels;
  fits : (stops : ℕ) → All (Fits stops) l.fn.levels → All (Fits stops) l.levels;
  blank : (stops : ℕ) → All (Fits stops) l.fn.levels → AllWithin (IsBlank stops) l.levels 0 l.k;
}
