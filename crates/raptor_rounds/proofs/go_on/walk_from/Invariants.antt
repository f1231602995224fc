use Rattle.std.proofs.Common.{◌≡◌, ℕ, ◌+◌, ◌-◌, ◌^◌, ◌<◌, ◌≤◌, min, slice_index}
use Rattle.std.specs.Prelude.{slice_get, Contains, Some}
use Rattle.move_model.specs.declared.journey.Shortcut.{Shortcut}
use Rattle.raptor_rounds.specs.Labels.{Scope, ReadyBy, AllReady, ReadyFalls}
use Rattle.raptor_rounds.proofs.go_on.walk_from.Given as goal

abbrev pub invariant-loop-e : goal.invariant-loop-e
invariant-loop-e l = record {
  known : (i : ℕ) (e : Shortcut) → i < l.e-index → slice_get l.entries i ≡ Some e → e.from ≡ l.from → min (slice_index l.ready.seconds e.to.0) l.best ≤ l.second + e.seconds;
  falls : ReadyFalls l.fn.ready l.ready;
  sound : (s : Scope) → ((e : Shortcut) → Contains l.entries e → e.from ≡ l.from → l.second + e.seconds < 2 ^ 32 - 1 → ReadyBy s e.to (l.second + e.seconds) l.by)
      → AllReady s l.fn.ready.seconds l.fn.ready.by.items → AllReady s l.ready.seconds l.ready.by.items;
}
