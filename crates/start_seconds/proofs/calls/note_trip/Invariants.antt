use Rattle.std.proofs.Common.{◌-◌, ℕ}
use Rattle.start_seconds.specs.Noted.{HasCalls, IsNoting}
use Rattle.start_seconds.proofs.calls.note_trip.Given as goal

abbrev pub invariant-loop-k : goal.invariant-loop-k
invariant-loop-k l = (t : ℕ) → HasCalls l.network t l.calls → IsNoting l.network l.rows t 0 l.fn.starts.items → IsNoting l.network l.rows t (l.k - 1) l.starts.items
