use Rattle.std.proofs.Common.{ℕ, ◌<◌, ◌-◌, ◌^◌, length}
use Rattle.std.specs.Prelude.{slice_index_or}
use Rattle.move_model.specs.declared.network.Trip.{Trip}
use Rattle.ride_checks.proofs.samples.have_few_calls.Given as goal

abbrev pub invariant-loop-i : goal.invariant-loop-i
invariant-loop-i l = (k : ℕ) (d : Trip) → k < l.i → length (slice_index_or l.trips k d).calls < 2 ^ 32 - 1
