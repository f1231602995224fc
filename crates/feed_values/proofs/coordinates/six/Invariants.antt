use Rattle.std.proofs.Common.{◌≡◌, ◌++◌, ◌-◌, ◌≤◌, take, drop, replicate, length}
use Rattle.feed_values.proofs.coordinates.six.Given as goal

abbrev pub invariant-loop-i : goal.invariant-loop-i
invariant-loop-i l = record {
  within : l.i ≤ 6;
  long : l.i ≤ length l.decimals;
  so_far : l.six ≡ take l.i l.decimals ++ replicate (6 - l.i) 48;
}

abbrev pub decreases-loop-i : goal.decreases-loop-i
decreases-loop-i l = 6 - l.i
