use Rattle.std.proofs.Common.{◌≡◌, ◌⊎◌, List, subst, rules}
use Rattle.std.specs.Prelude.{◌↔◌, Contains}
use Rattle.witness_prune.specs.Needed.{Pair}
use Rattle.witness_prune.proofs.needed.Needed.insert_all.Goals as goal

pub returns-clause-ok : goal.returns-clause-ok
returns-clause-ok c q =
    let e : c.reserve.new.self.items ≡ c.args.self.now = search rules in
    subst (λ (xs : List Pair). Contains c.put_all.new.pairs.items q ↔ (Contains xs q ⊎ Contains c.args.pairs.now q)) e (c.put_all.ensures.pairs q)
