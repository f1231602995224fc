use Rattle.std.proofs.Common.{refl, arith}
use Rattle.std.proofs.lemmas.List.Elements.{All-more}
use Rattle.network_file.specs.Compiled.{IsTransfer}
use Rattle.network_rules.proofs.RuleLemmas.{whole}
use Rattle.network_shape.proofs.transfers.each_is_transfer.Goals as goal

pub loop-i-preserved : goal.loop-i-preserved
loop-i-preserved c =
    All-more (IsTransfer c.args.stops) c.args.list.now c.loop-i.i _ c.loop-i-test.true c.loop-i.invariant (c.is_transfer.ensures.0 c.if-not-is_transfer.false)

pub returns : goal.returns
returns c = (λ _. whole (IsTransfer c.args.stops) c.args.list.now c.loop-i.i (omega arith) c.loop-i.invariant, λ _. refl)
