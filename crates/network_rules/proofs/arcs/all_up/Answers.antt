use Rattle.std.proofs.Common.{[], refl, arith}
use Rattle.std.specs.Prelude.{All}
use Rattle.std.proofs.lemmas.List.Elements.{All-more}
use Rattle.walk_hierarchy.specs.Hierarchy.{IsArcUp}
use Rattle.network_rules.proofs.RuleLemmas.{whole}
use Rattle.network_rules.proofs.arcs.all_up.Goals as goal

pub loop-i-preserved : goal.loop-i-preserved
loop-i-preserved c =
    All-more (IsArcUp (record { ranks = c.args.ranks.now; up = []; down = [] })) c.args.arcs.now c.loop-i.i _ c.loop-i-test.true c.loop-i.invariant (c.is_up.ensures.0 c.if-not-is_up.false)

pub returns : goal.returns
returns c = (λ _. whole (IsArcUp (record { ranks = c.args.ranks.now; up = []; down = [] })) c.args.arcs.now c.loop-i.i (omega arith) c.loop-i.invariant, λ _. refl)
