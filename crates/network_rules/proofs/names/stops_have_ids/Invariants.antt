use Rattle.std.proofs.Common.{take}
use Rattle.std.specs.Prelude.{All}
use Rattle.network_rules.specs.Rules.{IsId}
use Rattle.network_rules.proofs.names.stops_have_ids.Given as goal

abbrev pub invariant-loop-i : goal.invariant-loop-i
invariant-loop-i l = All (λ stop. IsId stop.name) (take l.i l.stops)
