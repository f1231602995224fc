use Rattle.std.proofs.Common.{rules, ℕ, subst}
use Rattle.walk_core.specs.Bridge.{view_of, IsCounted}
use Rattle.walk_core.proofs.StateLemmas.{counted_from_order, IsSound-pushed}
use Rattle.walk_core.proofs.state.put_next.Goals as goal

pub contract_vertex-requires-clause-counted : goal.contract_vertex-requires-clause-counted
contract_vertex-requires-clause-counted c =
    subst (λ (n : ℕ). IsCounted c.args.rank.now n) (search rules) (counted_from_order c.args.rank.now c.args.contracted.now.items c.requires.sound.ordered)

pub returns-clause-sound : goal.returns-clause-sound
returns-clause-sound c =
    IsSound-pushed (view_of c.args.out.now c.args.into.now c.args.rank.now) (view_of c.contract_vertex.new.out c.contract_vertex.new.into c.contract_vertex.new.rank)
    c.args.contracted.now.items c.push.new.self.items c.args.m c.len-count.result (search rules) c.requires.sound c.requires.left c.requires.one c.requires.m c.requires.room
    c.in_ok-contract_vertex.ensures.built (c.in_ok-contract_vertex.ensures.rises c.requires.sound.rises) c.in_ok-contract_vertex.ensures.rank c.in_ok-push.ensures.items

pub returns-clause-right : goal.returns-clause-right
returns-clause-right c = λ graph right. record {
  keeps = c.in_ok-contract_vertex.ensures.keeps graph right.keeps;
  ruled = c.in_ok-contract_vertex.ensures.ruled graph right.keeps right.ruled;
}
