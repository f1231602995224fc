use Rattle.std.proofs.Common.{ℕ, ◌+◌, ◌<◌, length}
use Rattle.range_lanes.specs.Hits.{IsCaughtOf}
use Rattle.range_profile.specs.Seeds.{HasSeed, Grow, AreWithin}
use Rattle.range_profile.proofs.seeds.seed_trip.Given as goal

abbrev pub invariant-loop-i : goal.invariant-loop-i
invariant-loop-i l = record {
  grow : Grow l.fn.seeds l.seeds;
  within : AreWithin (length l.row) l.fn.seeds → AreWithin (length l.row) l.seeds;
  seeded : (k : ℕ) → k < length l.fn.seeds → (c : IsCaughtOf l.row l.buffer l.calls l.i (l.first + k)) → HasSeed l.seeds k c.call.stop;
}
