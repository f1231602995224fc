use Rattle.std.proofs.Common.{◌≡◌, ◌++◌, ◌+◌, ◌-◌, take, drop}
use Rattle.trip_calls.specs.Filled.{passed}
use Rattle.trip_calls.proofs.fill.fill_gap.Given as goal

abbrev pub invariant-loop-at : goal.invariant-loop-at
invariant-loop-at l =
    l.filled ≡ l.initial.filled ++ passed l.departs l.arrives 1 (l.place + 1 - l.begun) (take (l.at - l.begun) (drop l.begun l.calls))
