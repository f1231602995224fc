use Rattle.std.proofs.Common.{◌≡◌, ◌<◌, ℕ, [], length, map, slice_index_or}
use Rattle.stop_rows.specs.Places.{AreStopsAt}
use Rattle.stop_rows.proofs.places.all_stops.Given as goal

abbrev pub invariant-loop-place : goal.invariant-loop-place
invariant-loop-place l = record {
  many : length l.rows.items ≡ l.place;
  each : (p : ℕ) → p < l.place → AreStopsAt l.places p (slice_index_or (map (λ row. row.items) l.rows.items) p []);
}
