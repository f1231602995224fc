use Rattle.std.proofs.Common.{subst, arith}
use Rattle.plain_search.specs.Row.{IsWayTo}
use Rattle.plain_search.proofs.Riding.{catches_is}
use Rattle.plain_search.proofs.rides.catches.Goals as goal

pub returns-in-Some : goal.returns-in-Some
returns-in-Some c =
    catches_is c.args.network.now c.args.before.now c.args.call c.in-Some.way.now _ _
    (subst (λ v. IsWayTo c.args.before.now v c.in-Some.way.now) c.node_of.ensures c.in-Some.ensures.some)
    (omega (arith, c.saturating_add.ensures, c.from.ensures)) c.from-in-Some.ensures (omega (arith, c.from-in-Some.ensures))
