use Rattle.std.proofs.Common.{ℕ, ◌+◌, ◌<◌, length}
use Rattle.range_lanes.specs.Hits.{IsCaughtAmong}
use Rattle.range_profile.specs.Seeds.{HasSeed, Grow, AreWithin}
use Rattle.range_profile.proofs.seeds.seed_trips.Given as goal

abbrev pub invariant-loop-trip : goal.invariant-loop-trip
invariant-loop-trip l = record {
  grow : Grow l.fn.seeds l.seeds;
  within : AreWithin (length l.row) l.fn.seeds → AreWithin (length l.row) l.seeds;
  seeded : (k : ℕ) → k < length l.fn.seeds → (c : IsCaughtAmong l.row l.buffer l.trips l.trip-index (l.first + k)) → HasSeed l.seeds k c.caught.call.stop;
}
