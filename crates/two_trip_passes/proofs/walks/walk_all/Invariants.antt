use Rattle.std.proofs.Common.{ℕ, ◌<◌, ◌≤◌}
use Rattle.std.specs.Prelude.{slice_index}
use Rattle.two_trip_labels.specs.Walks.{AreCuts}
use Rattle.two_trip_passes.specs.Walks.{last_walked, WalkGoes}
use Rattle.two_trip_passes.proofs.walks.walk_all.Given as goal

abbrev pub invariant-loop-stop : goal.invariant-loop-stop
invariant-loop-stop l = record {
  goes : WalkGoes l.rows l.foot l.second l.first l.fn.walked l.walked l.fn.ready l.ready;
  cuts : AreCuts l.foot l.second l.ready l.cuts;
  low : (x : ℕ) → x < l.stop → last_walked l.walked x ≤ slice_index l.first x;
}
