use Rattle.std.proofs.Common.{◌+◌, ◌<◌, ◌≤◌, ℕ, get_or}
use Rattle.move_model.specs.declared.network.Call.{Call}
use Rattle.feed_checks.proofs.days.goes.Given as goal

abbrev pub invariant-loop-i : goal.invariant-loop-i
invariant-loop-i l =
    ((k : ℕ) (d : Call) → k < l.i → ((get_or l.calls k d).stop.0 < 2) × ((get_or l.calls k d).arr ≤ (get_or l.calls k d).dep) × ((get_or l.calls k d).dep ≤ 3599999))
    × ((k : ℕ) (d : Call) → k + 1 < l.i → (get_or l.calls k d).dep ≤ (get_or l.calls (k + 1) d).arr)
