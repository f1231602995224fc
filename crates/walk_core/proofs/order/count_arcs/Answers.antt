use Rattle.std.proofs.Common.{ℕ, subst, sym}
use Rattle.walk_core.specs.Search.{Fits}
use Rattle.walk_core.proofs.order.count_arcs.Goals as goal

pub look-requires-clause-fits : goal.look-requires-clause-fits
look-requires-clause-fits c = subst (λ (n : ℕ). Fits c.args.out.now n) (sym c.loop-x.invariant) c.requires.built.out_fits
