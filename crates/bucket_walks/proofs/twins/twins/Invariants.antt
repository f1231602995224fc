use Rattle.std.proofs.Common.{◌≡◌, ℕ, ◌<◌, length, get_or}
use Rattle.bucket_walks.specs.Twins.{IsTwin}
use Rattle.bucket_walks.proofs.twins.twins.Given as goal

abbrev pub invariant-loop-stop : goal.invariant-loop-stop
invariant-loop-stop l = record {
  many : length l.twins.items ≡ l.stop;
  each : (q : ℕ) → q < l.stop → IsTwin l.by_stop.entries.items q (get_or l.twins.items q 0);
}
