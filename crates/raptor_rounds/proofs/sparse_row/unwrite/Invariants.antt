use Rattle.std.proofs.Common.{◌≡◌, ℕ, ◌-◌, ◌^◌, ◌<◌, length, slice_index}
use Rattle.std.specs.Prelude.{slice_get, Some}
use Rattle.raptor_rounds.proofs.sparse_row.unwrite.Given as goal

abbrev pub invariant-loop-place : goal.invariant-loop-place
invariant-loop-place l = record {
  as_long : length l.values.items ≡ length l.fn.values.items;
  there : (i x : ℕ) → i < l.place-index → slice_get l.places i ≡ Some x → slice_index l.values.items x ≡ 2 ^ 32 - 1;
  elsewhere : (x : ℕ) → slice_index l.fn.values.items x ≡ 2 ^ 32 - 1 → x < length l.fn.values.items → slice_index l.values.items x ≡ 2 ^ 32 - 1;
}
