use Rattle.std.proofs.Common.{List, length, subst, sym, ◌∙◌, ap, refl, arith}
use Rattle.plain_search.specs.Row.{Ways}
use Rattle.plain_search.specs.Levels.{IsTable}
use Rattle.plain_search.proofs.Legs.{way_lent, none_lent}
use Rattle.plain_search.proofs.Found.{found_start, found_all, found_lent, found_pass, no_gain_way, no_gain_below}
use Rattle.plain_search.proofs.answer.point_findings.Goals as goal

pub loop-k-init : goal.loop-k-init
loop-k-init c = λ ok numbered.
    found_start c.args.network.now c.args.from c.args.depart c.args.to c.as_slice-rows.result.now _ c.new-found.result (omega arith) c.new-found.ensures

-- no way
pub loop-k-preserved-in_default : goal.loop-k-preserved-in_default
loop-k-preserved-in_default c = λ ok numbered.
    let rows : List Ways = c.as_slice-rows.result.now in
    found_pass c.args.network.now c.args.from c.args.depart c.args.to rows c.loop-k.k c.loop-k.found
    (no_gain_way c.args.to rows c.loop-k.k
    (none_lent rows c.loop-k.k _ _ c.args.to c.loop-k-test.true c.index-rows-k.is c.as_slice.ensures c.in_default.ensures.none))
    (c.loop-k.invariant ok numbered)

-- a way that is no gain
pub loop-k-preserved-then-not-is_gain : goal.loop-k-preserved-then-not-is_gain
loop-k-preserved-then-not-is_gain c = λ ok numbered.
    let rows : List Ways = c.as_slice-rows.result.now in
    let table : IsTable c.args.network.now c.args.from c.args.depart rows =
    subst (λ r. IsTable c.args.network.now c.args.from c.args.depart r) (sym c.as_slice-rows.ensures) (c.in_ok-rows.ensures.table ok numbered) in
    let held = c.if-not-is_gain.ensures in
    found_pass c.args.network.now c.args.from c.args.depart c.args.to rows c.loop-k.k c.loop-k.found
    (no_gain_below c.args.network.now c.args.from c.args.depart c.args.to rows table c.loop-k.k c.in-Some.way.now c.loop-k-test.true
    (way_lent rows c.loop-k.k _ _ c.args.to c.in-Some.way.now c.loop-k-test.true c.index-rows-k.is c.as_slice.ensures c.in-Some.ensures.some)
    held.0 held.1)
    (c.loop-k.invariant ok numbered)

pub loop-k-preserved : goal.loop-k-preserved
loop-k-preserved c = λ ok numbered.
    let rows : List Ways = c.as_slice-rows.result.now in
    let table : IsTable c.args.network.now c.args.from c.args.depart rows =
    subst (λ r. IsTable c.args.network.now c.args.from c.args.depart r) (sym c.as_slice-rows.ensures) (c.in_ok-rows.ensures.table ok numbered) in
    let at = way_lent rows c.loop-k.k _ _ c.args.to c.in-Some.way.now c.loop-k-test.true c.index-rows-k.is c.as_slice.ensures c.in-Some.ensures.some in
    found_lent c.args.network.now ok c.args.from c.args.depart c.args.to rows table c.loop-k.k c.loop-k.found c.push.new.self c.in-Some.way.now
    (record { pair = record { arrive = c.in-Some.way.now.second; trips = c.loop-k.k }; journey = c.in_ok-journey.journey })
    c.loop-k-test.true at c.if-not-is_gain.ensures (c.in_ok-journey.ensures ok c.args.from c.in-Some.way.now table at) refl c.in_ok-push.ensures.ok
    (c.loop-k.invariant ok numbered)

pub returns : goal.returns
returns c = λ ok numbered.
    let rows : List Ways = c.as_slice-rows.result.now in
    let table : IsTable c.args.network.now c.args.from c.args.depart rows =
    subst (λ r. IsTable c.args.network.now c.args.from c.args.depart r) (sym c.as_slice-rows.ensures) (c.in_ok-rows.ensures.table ok numbered) in
    found_all c.args.network.now ok c.args.from c.args.depart c.args.to rows table c.args.limit c.loop-k.k c.loop-k.found
    (ap (λ (r : List Ways). length r) c.as_slice-rows.ensures ∙ c.in_ok-rows.ensures.count) c.loop-k-test.false (c.loop-k.invariant ok numbered)
