use Rattle.std.proofs.Common.{◌≡◌, ℕ, ◌<◌, None, length, get_or}
use Rattle.bucket_walks.proofs.scan.clear.Given as goal

abbrev pub invariant-loop-stop : goal.invariant-loop-stop
invariant-loop-stop l = record {
  many : length l.walks ≡ length l.initial.walks;
  none : (p : ℕ) → p < l.stop → get_or l.walks p None ≡ None;
}
