use Rattle.std.proofs.Common.{◌≡◌, [], length, All}
use Rattle.gtfs_feed.proofs.calls.no_calls.Given as goal

abbrev pub invariant-loop-trip : goal.invariant-loop-trip
invariant-loop-trip l = record {
  long : length l.kept.items ≡ l._trip;
  none : All (λ calls. calls.items ≡ []) l.kept.items;
}
