use Rattle.std.proofs.Common.{◌≡◌, ℕ, ◌+◌, ◌<◌, ◌≤◌, false}
use Rattle.std.specs.Prelude.{slice_index}
use Rattle.two_trip_labels.proofs.walks.is_of_use.Given as goal

abbrev pub invariant-loop-place : goal.invariant-loop-place
invariant-loop-place l = l.useful ≡ false → (p : ℕ) → l.from ≤ p → p < l.place → slice_index l.cuts p < l.a1 + slice_index l.row p
