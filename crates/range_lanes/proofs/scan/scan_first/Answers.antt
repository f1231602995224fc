use Rattle.std.proofs.Common.{◌≡◌, ℕ, ◌+◌, refl, subst, sym, ap, ◌∙◌, arith, Some}
use Rattle.std.specs.Prelude.{slice_get, slice_index}
use Rattle.std.proofs.lemmas.Option.{slice_get-get_or}
use Rattle.route_split.specs.Route.{Route}
use Rattle.route_split.specs.declared.place.Place.{Place}
use Rattle.raptor_rounds.proofs.WalksLemmas.{below_more}
use Rattle.range_lanes.specs.Levels.{Exploited}
use Rattle.range_lanes.proofs.Falling.{left_falls_on}
use Rattle.range_lanes.proofs.Exploiting.{exploited_falls}
use Rattle.range_lanes.proofs.scan.scan_first.Goals as goal

pub returns-clause-exploited : goal.returns-clause-exploited
returns-clause-exploited g c r i m route place is at marked walk =
    let set = c.as_slice-marked.result.now in
    let has = (c.as_slice-marked.ensures.numbers place.stop.0).1 marked in
    c.loop-x.invariant.exploited has.0 place.stop.0 r i m route place (omega (arith, has.1, c.loop-x-test.false))
    (slice_get-get_or set has.0 place.stop.0 has.1 ∙ ap Some has.2) is at refl walk

pub loop-x-preserved : goal.loop-x-preserved
loop-x-preserved g c =
    let was = c.loop-x.invariant in
    let now = c.board_first.ensures in
    let below = c.args.below.now in
    let first = c.args.first.now in
    let new = c.board_first.new.level in
    let table = c.args.table.now in
    let marked = c.as_slice-marked.result.now in
    let n = c.loop-x.x-index in
    record {
      falls = left_falls_on _ _ _ _ _ _ was.falls now.falls;
      exploited = λ i x r k m route place lt has is at_place e walk. below_more 0 marked n
          (λ x. (r k m : ℕ) (route : Route) (place : Place) → slice_get table.routes r ≡ Some route → slice_get route.places k ≡ Some place → place.stop.0 ≡ x
          → slice_get first x ≡ Some (Some m) → Exploited below new route table.buffer k (c.args.depart + m))
          c.loop-x-test.true
          (λ i x less has r k m route place is at_place e walk.
          exploited_falls below c.loop-x.level new route table.buffer k _ now.falls.falls (was.exploited i x r k m route place less has is at_place e walk))
          (λ r k m route place is at_place e walk. now.exploited r k m route place is at_place e walk)
          i x lt has r k m route place is at_place e walk;
      covers = λ h. now.covers (was.covers h);
      sound = λ q last_is first_is depart_is buffer_is holds old.
          now.sound q last_is first_is depart_is buffer_is holds (was.sound q last_is first_is depart_is buffer_is holds old);
      lent = now.held;
      counted = omega (arith, was.counted, now.counted);
    }
