use Rattle.std.proofs.Common.{◌≡◌, length}
use Rattle.route_split.specs.Jumps.{AreJumped}
use Rattle.route_split.proofs.chains.Chains.raise.Given as goal

abbrev pub invariant-loop-level : goal.invariant-loop-level
invariant-loop-level l = record {
  lasts : l.self.lasts.items ≡ l.initial.self.lasts.items;
  tops : l.self.tops.items ≡ l.initial.self.tops.items;
  nexts : l.self.nexts.items ≡ l.initial.self.nexts.items;
  jumped : AreJumped l.trips (length l.initial.self.tops.items) l.initial.self.lasts.items l.initial.self.nexts.items l.self.jumps.items l.self.lows.items;
  trees : length l.self.trees.items ≡ length l.initial.self.trees.items;
}
