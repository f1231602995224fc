use Rattle.std.proofs.Common.{◌≡◌, length}
use Rattle.route_split.specs.Jumps.{IsUnder}
use Rattle.route_split.proofs.chains.least.Given as goal

abbrev pub invariant-loop-k : goal.invariant-loop-k
invariant-loop-k l = record {
  as_many : length l.low.items ≡ l.k;
  a : IsUnder l.low.items l.a l.k;
  b : IsUnder l.low.items l.b l.k;
  c : IsUnder l.low.items l.c l.k;
}
