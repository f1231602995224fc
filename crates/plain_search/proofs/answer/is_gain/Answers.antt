use Rattle.std.proofs.Common.{arith}
use Rattle.plain_search.proofs.Pareto.{gain_asked}
use Rattle.plain_search.proofs.answer.is_gain.Goals as goal

pub returns-else-k-eq0 : goal.returns-else-k-eq0
returns-else-k-eq0 c =
    gain_asked c.args.rows.now c.args.k c.args.to c.args.second _ _ _ _ (omega (arith, c.if-k-eq0.false)) c.requires c.index-rows-k.is c.as_slice.ensures
    (omega arith) c.is_better.ensures.better c.is_better.ensures.held
