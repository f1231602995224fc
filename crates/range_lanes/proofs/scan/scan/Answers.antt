use Rattle.std.proofs.Common.{◌≡◌, ◌<◌, ℕ, ◌+◌, length, refl, subst, sym, ap, ◌∙◌, arith, Some}
use Rattle.std.specs.Prelude.{slice_get, slice_index}
use Rattle.std.proofs.lemmas.List.{get_or_default}
use Rattle.std.proofs.lemmas.Option.{slice_get-get_or}
use Rattle.move_model.specs.declared.network.StopNo.{StopNo}
use Rattle.route_split.specs.Route.{Route}
use Rattle.route_split.specs.declared.place.Place.{Place}
use Rattle.raptor_rounds.proofs.WalksLemmas.{below_more}
use Rattle.range_lanes.specs.Levels.{Exploited, StartsFrom}
use Rattle.range_lanes.proofs.Falling.{left_falls_on}
use Rattle.range_lanes.proofs.Exploiting.{exploited_falls}
use Rattle.range_lanes.proofs.scan.scan.Goals as goal

pub returns-clause-exploited : goal.returns-clause-exploited
returns-clause-exploited g c r i route place is at marked =
    let set = c.as_slice-marked.result.now in
    let has = (c.as_slice-marked.ensures.numbers place.stop.0).1 marked in
    c.loop-x.invariant.exploited has.0 place.stop.0 r i route place (omega (arith, has.1, c.loop-x-test.false))
    (slice_get-get_or set has.0 place.stop.0 has.1 ∙ ap Some has.2) is at refl

pub loop-x-preserved : goal.loop-x-preserved
loop-x-preserved g c =
    let was = c.loop-x.invariant in
    let now = c.board_from.ensures in
    let below = c.args.below.now in
    let before = c.args.before.now in
    let new = c.board_from.new.level in
    let table = c.args.table.now in
    let marked = c.as_slice-marked.result.now in
    let n = c.loop-x.x-index in
    let at : ℕ = slice_index marked n in
    let within : at < length c.args.last.now = omega (arith, c.as_slice-marked.ensures.within n c.loop-x-test.true, c.requires.better) in
    let ready : ℕ = c.index-ready.result.now in
    let from : StopNo = c.index-from.result.now in
    let ready_is : ready ≡ slice_index before.ready.items at =
    c.index-ready.ensures ∙ get_or_default before.ready.items at ready 0 (omega (arith, within, c.requires.before.ready)) in
    let from_is : slice_get before.from.items at ≡ Some from =
    slice_get-get_or before.from.items at from (omega (arith, within, c.requires.before.from)) ∙ ap (λ (v : StopNo). Some v) (sym c.index-from.ensures) in
    let second_is : c.from-second.result ≡ slice_index before.ready.items at = omega (arith, c.from-second.ensures, ready_is) in
    record {
      falls = left_falls_on _ _ _ _ _ _ was.falls now.falls;
      exploited = λ i x r k route place lt has is at_place e. below_more 0 marked n
          (λ x. (r k : ℕ) (route : Route) (place : Place) → slice_get table.routes r ≡ Some route → slice_get route.places k ≡ Some place → place.stop.0 ≡ x
          → Exploited below new route table.buffer k (slice_index before.ready.items x))
          c.loop-x-test.true
          (λ i x less has r k route place is at_place e.
          exploited_falls below c.loop-x.level new route table.buffer k _ now.falls.falls (was.exploited i x r k route place less has is at_place e))
          (λ r k route place is at_place e.
          subst (λ s. Exploited below new route table.buffer k s) second_is (now.exploited r k route place is at_place e))
          i x lt has r k route place is at_place e;
      covers = λ h. now.covers (was.covers h);
      sound = λ q last_is buffer_is holds starts old. now.sound q last_is buffer_is holds
          (λ lt. subst (λ s. StartsFrom q below (record { 0 = at }) s from) (sym second_is) (starts (record { 0 = at }) from from_is (omega (arith, second_is, lt))))
          (was.sound q last_is buffer_is holds starts old);
      lent = now.held;
      counted = omega (arith, was.counted, now.counted);
    }
