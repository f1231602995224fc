use Rattle.std.proofs.Common.{◌≡◌, ◌<◌, ℕ, length}
use Rattle.std.specs.Prelude.{slice_index}
use Rattle.witness_prune.proofs.scratch.put_foot.Given as goal

abbrev pub invariant-loop-stop : goal.invariant-loop-stop
invariant-loop-stop l = record {
  many : length l.foot ≡ length l.fn.foot;
  each : (x : ℕ) → x < l.stop → slice_index l.foot x ≡ slice_index l.row (slice_index l.places x);
}
