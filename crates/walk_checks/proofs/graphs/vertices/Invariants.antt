use Rattle.std.specs.Prelude.{All}
use Rattle.move_model.specs.Streets.{IsVertex}
use Rattle.walk_checks.proofs.graphs.vertices.Given as goal

abbrev pub invariant-loop-number : goal.invariant-loop-number
invariant-loop-number l = All (λ v. IsVertex l.graph v) l.list.items
