use Rattle.std.proofs.Common.{◌≡◌, length}
use Rattle.std.specs.Prelude.{All}
use Rattle.move_model.specs.Network.{streets}
use Rattle.move_model.specs.Streets.{IsVertex}
use Rattle.shortcut_checks.proofs.sample.vertices.Given as goal

abbrev pub invariant-loop-stop : goal.invariant-loop-stop
invariant-loop-stop l = All (λ v. IsVertex (streets l.network) v) l.list.items
