use Rattle.std.proofs.Common.{◌≡◌, ◌-◌, ◌<◌, ◌≤◌, ℕ, length, slice_index}
use Rattle.route_split.specs.Split.{CannotStand}
use Rattle.route_split.specs.Chains.{bucket_of}
use Rattle.route_split.proofs.chains.Chains.route_for.Given as goal

abbrev pub invariant-loop-link : goal.invariant-loop-link
invariant-loop-link l = record {
  low : l.link ≤ length l.self.lasts.items;
  on : 0 < l.link → bucket_of l.trips (length l.self.tops.items) (slice_index l.self.lasts.items (l.link - 1)) ≡ l.chain;
  tried : (g : ℕ) → g < length l.self.lasts.items → l.link ≤ g
      → bucket_of l.trips (length l.self.tops.items) (slice_index l.self.lasts.items g) ≡ l.chain → CannotStand l.trips (slice_index l.self.lasts.items g) l.u;
}

abbrev pub decreases-loop-link : goal.decreases-loop-link
decreases-loop-link l = l.link
