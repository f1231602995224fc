use Rattle.std.proofs.Common.{◌≡◌, ℕ, ◌<◌, ◌≤◌, length, slice_index}
use Rattle.std.specs.Prelude.{slice_get, Some}
use Rattle.route_split.specs.Table.{CallsAt}
use Rattle.raptor_rounds.proofs.starts.first_calls.Given as goal

abbrev pub invariant-loop-stop : goal.invariant-loop-stop
invariant-loop-stop l = record {
  known : (i x r k : ℕ) → i < l.stop-index → slice_get l.stops i ≡ Some x → CallsAt l.table.routes x r k → slice_index l.starts r ≤ k;
  as_long : length l.starts ≡ length l.fn.starts;
}
