use Rattle.std.proofs.Common.{◌≡◌, length}
use Rattle.range_profile.specs.Seeds.{AreWithin}
use Rattle.range_profile.proofs.seeds.new_seeds.Given as goal

abbrev pub invariant-loop-k : goal.invariant-loop-k
invariant-loop-k l = record {
  many : length l.seeds.items ≡ l._k;
  none : AreWithin 0 l.seeds.items;
}
