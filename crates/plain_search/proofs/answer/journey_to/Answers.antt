use Rattle.std.proofs.Common.{◌≡◌, ◌-◌, ◌<◌, List, ◌∷◌, length, sym, ◌∙◌, ap, subst, refl, arith}
use Rattle.move_model.specs.declared.journey.Ride.{Ride}
use Rattle.plain_search.specs.Answer.{IsLed}
use Rattle.plain_search.proofs.Legs.{pending_start, pending_more, pending_end, none_pending, way_lent, none_lent, no_ride, walk_put, led_lent}
use Rattle.plain_search.proofs.answer.journey_to.Goals as goal
use Rattle.plain_search.proofs.answer.journey_to.Goals.{else-loop-level-test, then-loop-level-test+in_default, then-loop-level-test+in-Some+in_ok-from_slice+in_ok-insert+in_default-ride}

pub loop-level-init : goal.loop-level-init
loop-level-init c =
    record {
      few = omega (arith, ap (λ (rs : List Ride). length rs) c.new-rides.ensures.items);
      pending = λ from way ok table at.
          pending_start c.args.network.now ok from c.args.depart c.args.rows.now table c.args.to way.second c.args.k _ _ c.requires way at refl
          c.new-walks.ensures.items c.new-rides.ensures.items;
    }

pub loop-level-preserved : goal.loop-level-preserved
loop-level-preserved c =
    let within : c.loop-level.level - 1 < length c.args.rows.now = omega (arith, c.loop-level.invariant.few, c.loop-level-test.true, c.requires) in
    record {
      few = omega (arith, ap (λ (rs : List Ride). length rs) c.in_ok-insert-2.ensures.items, c.loop-level.invariant.few, c.loop-level-test.true);
      pending = λ from way ok table at.
          pending_more c.args.network.now ok from c.args.depart c.args.rows.now table c.args.to way.second c.loop-level.level c.loop-level.node c.boarded_at-node.result
          c.loop-level.walks.items c.insert.new.self.items c.loop-level.rides.items c.insert-in-loop-level.new.self.items c.in-Some.way.now c.in-Some-ride.ride
          c.loop-level-test.true (c.loop-level.invariant.pending from way ok table at)
          (way_lent c.args.rows.now (c.loop-level.level - 1) _ _ c.loop-level.node c.in-Some.way.now within c.index-rows-level.is c.as_slice.ensures c.in-Some.ensures.some)
          c.in-Some-ride.is
          (walk_put _ _ _ _ _ c.in_ok-insert.ensures.items c.in_ok-from_slice.ensures c.as_slice-in-loop-level.ensures)
          c.in_ok-insert-2.ensures.items c.boarded_at-node.ensures;
    }

pub returns : goal.returns
returns c = λ ok from way table at.
    let pending = c.loop-level.invariant.pending from way ok table at in
    elim c.loop-level-test.branch [
      | else-loop-level-test w ↦ absurd (pending_end pending w.loop-level-test.false)
      | then-loop-level-test+in_default w ↦
          let within : c.loop-level.level - 1 < length c.args.rows.now = omega (arith, c.loop-level.invariant.few, w.loop-level-test.true, c.requires) in
          absurd (none_pending c.args.network.now ok from c.args.depart c.args.rows.now table c.args.to way.second c.loop-level.level c.loop-level.node
          c.loop-level.walks.items c.loop-level.rides.items w.loop-level-test.true pending
          (none_lent c.args.rows.now (c.loop-level.level - 1) _ _ c.loop-level.node within w.index-rows-level.is w.as_slice.ensures w.in_default.ensures.none))
      | then-loop-level-test+in-Some+in_ok-from_slice+in_ok-insert+in_default-ride w ↦
          let within : c.loop-level.level - 1 < length c.args.rows.now = omega (arith, c.loop-level.invariant.few, w.loop-level-test.true, c.requires) in
          let walks_are : c.from_vec.result ≡ w.in-Some.way.now.walk ∷ c.loop-level.walks.items =
          c.from_vec.ensures ∙ ap (λ v. v.items) w.walks-is ∙ walk_put _ _ _ _ _ w.in_ok-insert.ensures.items w.in_ok-from_slice.ensures w.as_slice-in-loop-level.ensures in
          subst (λ rs. IsLed c.args.network.now from c.args.depart c.args.to c.args.k way.second (record { depart = c.args.depart; walks = c.from_vec.result; rides = rs }))
          (sym c.from_vec-2.ensures)
          (led_lent c.args.network.now ok from c.args.depart c.args.rows.now table c.args.to way.second c.loop-level.level c.loop-level.node
          c.loop-level.walks.items c.from_vec.result c.loop-level.rides.items w.in-Some.way.now c.args.k w.loop-level-test.true pending
          (way_lent c.args.rows.now (c.loop-level.level - 1) _ _ c.loop-level.node w.in-Some.way.now within w.index-rows-level.is w.as_slice.ensures w.in-Some.ensures.some)
          (no_ride w.in-Some.way.now.ride w.in_default-ride.not-Some) walks_are (omega (arith, c.loop-level.invariant.few, w.loop-level-test.true)))
    ]
