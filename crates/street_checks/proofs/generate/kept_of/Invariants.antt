use Rattle.std.specs.Prelude.{All}
use Rattle.move_model.specs.Streets.{IsVertex}
use Rattle.street_checks.proofs.generate.kept_of.Given as goal

abbrev pub invariant-loop-place : goal.invariant-loop-place
invariant-loop-place l = All (λ v. IsVertex l.graph v) l.kept.items
