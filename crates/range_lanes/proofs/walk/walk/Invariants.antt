use Rattle.std.proofs.Common.{◌≡◌, ℕ, ◌+◌, ◌-◌, ◌^◌, ◌<◌, true, false, slice_index}
use Rattle.std.specs.Prelude.{slice_get, slice_index_or, Some}
use Rattle.move_model.specs.declared.network.StopNo.{StopNo}
use Rattle.move_model.specs.Listed.{HasTransfer}
use Rattle.raptor_rounds.specs.Ways.{Query}
use Rattle.range_lanes.specs.Levels.{Reached, ReadyFalls, IsSound}
use Rattle.range_lanes.proofs.walk.walk.Given as goal

abbrev pub invariant-loop-y : goal.invariant-loop-y
invariant-loop-y l = record {
  known : (i : ℕ) (y x : StopNo) (m : ℕ) → i < l.y-index → slice_get l.stops i ≡ Some y.0 → HasTransfer l.list y x m
      → Reached l.below l.level x.0 (slice_index l.level.left.items y.0 + m);
  falls : ReadyFalls l.fn.level l.level l.fn.better l.better;
  sound : (q : Query) → q.list ≡ l.list
      → ((y : ℕ) → slice_index_or l.fresh y false ≡ true → slice_index l.fn.level.left.items y < 2 ^ 32 - 1)
      → IsSound q l.below l.fn.level → IsSound q l.below l.level;
}
