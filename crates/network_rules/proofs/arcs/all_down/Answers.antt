use Rattle.std.proofs.Common.{[], refl, arith}
use Rattle.std.specs.Prelude.{All}
use Rattle.std.proofs.lemmas.List.Elements.{All-more}
use Rattle.walk_hierarchy.specs.Hierarchy.{IsArcDown}
use Rattle.network_rules.proofs.RuleLemmas.{whole}
use Rattle.network_rules.proofs.arcs.all_down.Goals as goal

pub loop-i-preserved : goal.loop-i-preserved
loop-i-preserved c =
    All-more (IsArcDown (record { ranks = c.args.ranks.now; up = []; down = [] })) c.args.arcs.now c.loop-i.i _ c.loop-i-test.true c.loop-i.invariant (c.is_down.ensures.0 c.if-not-is_down.false)

pub returns : goal.returns
returns c = (λ _. whole (IsArcDown (record { ranks = c.args.ranks.now; up = []; down = [] })) c.args.arcs.now c.loop-i.i (omega arith) c.loop-i.invariant, λ _. refl)
