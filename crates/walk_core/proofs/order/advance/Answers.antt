use Rattle.std.proofs.Common.{rules, length}
use Rattle.walk_core.specs.Bridge.{view_of}
use Rattle.walk_core.proofs.StateLemmas.{Advances-one}
use Rattle.walk_core.proofs.order.advance.Goals as goal

pub returns-clause-advances : goal.returns-clause-advances
returns-clause-advances c =
    Advances-one c.args.keep.now (view_of c.args.out.now c.args.into.now c.args.rank.now) (view_of c.contract_now.new.out c.contract_now.new.into c.contract_now.new.rank)
    c.in-Some.m (length c.args.contracted.now.items) (length c.args.contracted.now.items) (search rules) c.in_ok-contract_now.ensures.right c.in_ok-contract_now.ensures.rank
