use Rattle.trip_calls.proofs.FillLemmas.{Progress}
use Rattle.trip_calls.proofs.ExactLemmas.{Exact}
use Rattle.trip_calls.proofs.fill.fill_times.Given as goal

abbrev pub invariant-loop-place : goal.invariant-loop-place
invariant-loop-place l = record {
  progress : Progress l.calls l.filled l.place l.departs;
  exact : Exact l.calls l.filled l.place l.departs;
}
