use Rattle.std.proofs.Common.{◌≡◌, ℕ, ◌<◌, ◌≤◌, length, slice_index}
use Rattle.std.specs.Prelude.{slice_get, Some}
use Rattle.raptor_rounds.proofs.starts.lower_starts.Given as goal

abbrev pub invariant-loop-c : goal.invariant-loop-c
invariant-loop-c l = record {
  each : (i r k : ℕ) → i < l.c-index → slice_get l.calls i ≡ Some (record { route = r; call = k }) → slice_index l.starts r ≤ k;
  falls : (r : ℕ) → slice_index l.starts r ≤ slice_index l.fn.starts r;
  as_long : length l.starts ≡ length l.fn.starts;
}
