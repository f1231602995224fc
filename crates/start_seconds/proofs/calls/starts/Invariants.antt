use Rattle.start_seconds.specs.Noted.{IsNoting}
use Rattle.start_seconds.proofs.calls.starts.Given as goal

abbrev pub invariant-loop-trip : goal.invariant-loop-trip
invariant-loop-trip l = IsNoting l.network l.rows l.trip-index 0 l.list.items
