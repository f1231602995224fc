use Rattle.std.proofs.Common.{◌≡◌, ℕ, ◌+◌, ◌<◌}
use Rattle.std.specs.Prelude.{slice_get, Some}
use Rattle.raptor_rounds.proofs.go_on.keep_steps.Given as goal

abbrev pub invariant-loop-y : goal.invariant-loop-y
invariant-loop-y l = record {
  below : (i : ℕ) → i < l.base → slice_get l.slots i ≡ slice_get l.fn.slots i;
  kept : (i y : ℕ) → i < l.y-index → slice_get l.stops i ≡ Some y → slice_get l.slots (l.base + y) ≡ slice_get l.found.steps.items y;
}
