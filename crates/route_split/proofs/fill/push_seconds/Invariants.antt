use Rattle.std.proofs.Common.{◌≡◌, ◌++◌}
use Rattle.route_split.specs.Fill.{block}
use Rattle.route_split.proofs.fill.push_seconds.Given as goal

abbrev pub invariant-loop-k : goal.invariant-loop-k
invariant-loop-k l = l.seconds.items ≡ l.initial.seconds.items ++ block l.trips l.group l.k
