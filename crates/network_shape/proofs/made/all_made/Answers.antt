use Rattle.std.proofs.Common.{refl, arith}
use Rattle.std.proofs.lemmas.List.Elements.{All-more}
use Rattle.walk_hierarchy.specs.Hierarchy.{IsMade}
use Rattle.network_rules.proofs.RuleLemmas.{whole}
use Rattle.network_shape.proofs.OrderLemmas.{no_arc}
use Rattle.network_shape.proofs.made.all_made.Goals as goal

pub loop-i-preserved : goal.loop-i-preserved
loop-i-preserved c =
    All-more (IsMade (record { ranks = c.args.ranks.now; up = c.args.up.now; down = c.args.down.now })) c.args.arcs.now c.loop-i.i no_arc c.loop-i-test.true c.loop-i.invariant (c.is_made.ensures.0 c.if-not-is_made.false)

pub returns : goal.returns
returns c = (λ _. whole (IsMade (record { ranks = c.args.ranks.now; up = c.args.up.now; down = c.args.down.now })) c.args.arcs.now c.loop-i.i (omega arith) c.loop-i.invariant, λ _. refl)
