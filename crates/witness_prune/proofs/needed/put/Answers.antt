use Rattle.std.proofs.Common.{◌≡◌, ◌⊎◌, sym, subst, rules, List}
use Rattle.std.specs.Prelude.{◌↔◌, Contains, insert}
use Rattle.std.proofs.lemmas.Bool.{false≢true}
use Rattle.witness_prune.specs.Needed.{Pair, IsRising}
use Rattle.witness_prune.proofs.NeededLemmas.{rising_insert, contains_insert}
use Rattle.witness_prune.proofs.needed.put.Goals as goal

pub returns-clause-rising : goal.returns-clause-rising
returns-clause-rising c =
    let e : c.as_slice-items.result.now ≡ c.args.pairs.now.items = search rules in
    let was = subst (λ (xs : List Pair). IsRising xs) (sym e) c.requires.rising in
    subst (λ (xs : List Pair). IsRising xs) (sym c.put_at.ensures.items)
    (subst (λ (xs : List Pair). IsRising (insert xs c.place_of-place.result c.args.pair)) e
    (rising_insert c.as_slice-items.result.now c.place_of-place.result c.args.pair was c.place_of-place.ensures.within c.place_of-place.ensures.before c.place_of-place.ensures.behind
    (λ l e. false≢true (c.if-stands_at.ensures.1 (l, e)))))

pub returns-clause-pairs : goal.returns-clause-pairs
returns-clause-pairs c q =
    let e : c.as_slice-items.result.now ≡ c.args.pairs.now.items = search rules in
    subst (λ (xs : List Pair). Contains xs q ↔ (Contains c.args.pairs.now.items q ⊎ (q ≡ c.args.pair))) (sym c.put_at.ensures.items)
    (subst (λ (xs : List Pair). Contains (insert xs c.place_of-place.result c.args.pair) q ↔ (Contains xs q ⊎ (q ≡ c.args.pair))) e
    (contains_insert c.as_slice-items.result.now c.place_of-place.result c.args.pair q c.place_of-place.ensures.within))
