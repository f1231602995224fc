use Rattle.std.proofs.Common.{arith}
use Rattle.network_shape.proofs.OrderLemmas.{no_arc, none_at, found_at}
use Rattle.network_shape.proofs.find.place_between.Goals as goal

pub returns-then-at-arcs-clause-none : goal.returns-then-at-arcs-clause-none
returns-then-at-arcs-clause-none c =
    none_at c.args.arcs.now c.args.from c.args.to c.place-at.result no_arc c.requires c.place-at.ensures (λ lt. absurd (omega arith))

pub returns-then-not-has_ends-clause-none : goal.returns-then-not-has_ends-clause-none
returns-then-not-has_ends-clause-none c =
    none_at c.args.arcs.now c.args.from c.args.to c.place-at.result no_arc c.requires c.place-at.ensures
    (λ lt ends. let yes = c.has_ends.ensures.1 ends in let no = c.if-not-has_ends.true in absurd cc)

pub returns-clause-found : goal.returns-clause-found
returns-clause-found c =
    found_at c.args.arcs.now c.args.from c.args.to c.place-at.result no_arc (omega arith) (c.has_ends.ensures.0 c.if-not-has_ends.false)
