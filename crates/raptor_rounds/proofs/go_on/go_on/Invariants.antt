use Rattle.std.proofs.Common.{◌≡◌, ℕ, ◌+◌, ◌-◌, ◌^◌, ◌<◌, ◌≤◌, min, true, false, slice_index}
use Rattle.std.specs.Prelude.{slice_index_or, slice_get, Some}
use Rattle.move_model.specs.declared.network.StopNo.{StopNo}
use Rattle.move_model.specs.Listed.{HasTransfer}
use Rattle.raptor_rounds.specs.Labels.{Scope, ReadyBy, AllReady, ReadyFalls}
use Rattle.raptor_rounds.proofs.go_on.go_on.Given as goal

abbrev pub invariant-loop-y : goal.invariant-loop-y
invariant-loop-y l = record {
  known : (i : ℕ) (y x : StopNo) (m : ℕ) → i < l.y-index → slice_get l.stops i ≡ Some y.0 → HasTransfer l.list y x m
      → min (slice_index l.ready.seconds x.0) l.found.best ≤ slice_index l.found.left y.0 + m;
  falls : ReadyFalls l.fn.ready l.ready;
  sound : (s : Scope) → ((y x : StopNo) (m : ℕ) → slice_index_or l.found.fresh y.0 false ≡ true → HasTransfer l.list y x m
      → slice_index l.found.left y.0 + m < 2 ^ 32 - 1 → ReadyBy s x (slice_index l.found.left y.0 + m) (l.base + y.0 + 1))
      → AllReady s l.fn.ready.seconds l.fn.ready.by.items → AllReady s l.ready.seconds l.ready.by.items;
}
