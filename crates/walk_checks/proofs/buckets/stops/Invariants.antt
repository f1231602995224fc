use Rattle.std.proofs.Common.{◌≡◌, ◌+◌, length}
use Rattle.std.specs.Prelude.{All}
use Rattle.move_model.specs.declared.network.Stop.{Stop}
use Rattle.walk_hierarchy.specs.Hierarchy.{IsNode}
use Rattle.walk_checks.specs.Samples.{pairs}
use Rattle.walk_checks.proofs.buckets.stops.Given as goal

abbrev pub invariant-loop-node : goal.invariant-loop-node
invariant-loop-node l = record {
  many : length l.stops + 1 ≡ l.node;
  stand : All (λ (stop : Stop). IsNode pairs stop.node) l.stops;
}
