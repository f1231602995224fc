use Rattle.std.proofs.Common.{◌≡◌, ℕ, ◌<◌, ◌≤◌, length, slice_index}
use Rattle.lane_rows.specs.Rows.{entry_or_never}
use Rattle.lane_rows.proofs.ride8.Given as goal

abbrev pub invariant-loop-lane : goal.invariant-loop-lane
invariant-loop-lane l = record {
  eight : length l.entries ≡ 8;
  done : (k : ℕ) → k < l.lane → slice_index l.entries k ≡ entry_or_never l.row (slice_index l.held k);
  rest : (k : ℕ) → l.lane ≤ k → k < 8 → slice_index l.entries k ≡ 4294967295;
}
