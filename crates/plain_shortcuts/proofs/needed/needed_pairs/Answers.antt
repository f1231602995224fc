use Rattle.std.proofs.Common.{slice_index_or, sym, List, subst, arith}
use Rattle.std.proofs.lemmas.Option.{slice_get-get_or}
use Rattle.std.proofs.lemmas.List.Elements.{Contains-get_or}
use Rattle.pareto_laws.proofs.Calls.{on_stands}
use Rattle.plain_shortcuts.specs.declared.rides.RideCalls.{RideCalls}
use Rattle.plain_shortcuts.specs.Rides.{AreRides}
use Rattle.plain_shortcuts.proofs.Lists.{comes_more, comes_all}
use Rattle.plain_shortcuts.proofs.RideLemmas.{no_ride}
use Rattle.plain_shortcuts.proofs.NeededLemmas.{pair_more, pair_all}
use Rattle.plain_shortcuts.proofs.needed.needed_pairs.Goals as goal

pub needed_from-requires-clause-rides : goal.needed_from-requires-clause-rides
needed_from-requires-clause-rides c = subst (λ (rs : List RideCalls). AreRides c.args.network.now rs) (sym c.as_slice-rides.ensures.value) c.in_ok-rides.ensures

pub needed_from-requires-clause-stop : goal.needed_from-requires-clause-stop
needed_from-requires-clause-stop c =
    let n = c.args.network.now in
    let rides = c.as_slice-rides.result.now in
    let are : AreRides n rides = subst (λ (rs : List RideCalls). AreRides n rs) (sym c.as_slice-rides.ensures.value) c.in_ok-rides.ensures in
    let r : RideCalls = slice_index_or rides c.loop-k.k no_ride in
    on_stands n c.requires.rules.network r.ride r.on r.off ((are r).0 (Contains-get_or rides c.loop-k.k no_ride c.loop-k-test.true))

pub loop-k-preserved : goal.loop-k-preserved
loop-k-preserved c = λ x y.
    let rides = c.as_slice-rides.result.now in
    let k = c.loop-k.k in
    let r : RideCalls = slice_index_or rides k no_ride in
    comes_more _ _ _ _ _ _ (c.loop-k.invariant x y) (c.in_ok-needed_from.ensures x y)
    (pair_more c.args.network.now rides k r x y (slice_get-get_or rides k no_ride c.loop-k-test.true))

pub returns : goal.returns
returns c = λ x y.
    let rides = c.as_slice-rides.result.now in
    let are : AreRides c.args.network.now rides = subst (λ (rs : List RideCalls). AreRides c.args.network.now rs) (sym c.as_slice-rides.ensures.value) c.in_ok-rides.ensures in
    comes_all (x, y) _ _ _ (c.loop-k.invariant x y) (pair_all c.args.network.now rides c.loop-k.k x y are c.loop-k-test.false)
