use Rattle.std.proofs.Common.{◌≡◌, take, map}
use Rattle.network_rules.specs.Rules.{Differ}
use Rattle.network_rules.proofs.names.differ.Given as goal

abbrev pub invariant-loop-i : goal.invariant-loop-i
invariant-loop-i l = record {
  names : l.names ≡ map (λ stop. stop.name) (take l.i l.stops);
  differ : Differ (take l.i l.stops);
}
