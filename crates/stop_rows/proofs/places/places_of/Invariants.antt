use Rattle.std.proofs.Common.{◌≡◌, ◌<◌, ◌≤◌, ℕ, Some, length, slice_get, slice_index, vec_capacity}
use Rattle.move_model.specs.declared.network.Stop.{Stop}
use Rattle.stop_rows.proofs.places.places_of.Given as goal

abbrev pub invariant-loop-stop : goal.invariant-loop-stop
invariant-loop-stop l = record {
  many : length l.places.items ≡ l.stop-index;
  each : (x : ℕ) (stop : Stop) → x < l.stop-index → slice_get l.stops x ≡ Some stop → slice_index l.places.items x ≡ slice_index l.at stop.node.0;
  room : length l.stops ≤ vec_capacity l.places;
}
