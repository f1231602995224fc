use Rattle.std.proofs.Common.{◌≡◌, ◌<◌, ◌≤◌, length}
use Rattle.route_split.specs.Split.{IsSplit, AreLasts}
use Rattle.route_split.specs.Chains.{AreChained}
use Rattle.route_split.specs.Jumps.{AreJumped}
use Rattle.route_split.proofs.partition.split.Given as goal

abbrev pub invariant-loop-u : goal.invariant-loop-u
invariant-loop-u l = record {
  split : IsSplit l.trips l.routes.items l.u (length l.chains.lasts.items);
  lasts : AreLasts l.routes.items l.chains.lasts.items l.u;
  few : length l.chains.lasts.items ≤ l.u;
  some : 0 < length l.chains.tops.items;
  chained : AreChained l.trips l.chains.lasts.items l.chains.tops.items l.chains.nexts.items;
  jumped : AreJumped l.trips (length l.chains.tops.items) l.chains.lasts.items l.chains.nexts.items l.chains.jumps.items l.chains.lows.items;
  trees : length l.chains.trees.items ≡ length l.chains.lasts.items;
}
