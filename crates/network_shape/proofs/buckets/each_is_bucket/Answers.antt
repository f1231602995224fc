use Rattle.std.proofs.Common.{refl, arith}
use Rattle.std.proofs.lemmas.List.Elements.{All-more}
use Rattle.bucket_walks.specs.Buckets.{IsBucket}
use Rattle.network_rules.proofs.RuleLemmas.{whole}
use Rattle.network_shape.proofs.buckets.each_is_bucket.Goals as goal

pub loop-i-preserved : goal.loop-i-preserved
loop-i-preserved c =
    All-more (IsBucket c.args.nodes c.args.stops) c.args.entries.now c.loop-i.i _ c.loop-i-test.true c.loop-i.invariant (c.is_bucket.ensures.0 c.if-not-is_bucket.false)

pub returns : goal.returns
returns c = (λ _. whole (IsBucket c.args.nodes c.args.stops) c.args.entries.now c.loop-i.i (omega arith) c.loop-i.invariant, λ _. refl)
