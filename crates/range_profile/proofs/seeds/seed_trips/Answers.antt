use Rattle.std.proofs.Common.{◌+◌, List, length, ap, subst, arith}
use Rattle.move_model.specs.declared.network.Call.{Call}
use Rattle.range_lanes.specs.Hits.{IsCaughtOf}
use Rattle.range_profile.specs.Seeds.{HasSeed}
use Rattle.range_profile.proofs.SeedLemmas.{grow_same, grow_on, item_at, trips_more, trips_all}
use Rattle.range_profile.proofs.seeds.seed_trips.Goals as goal

pub loop-trip-init : goal.loop-trip-init
loop-trip-init c = record { grow = grow_same c.args.seeds.now; within = λ h. h; seeded = λ k lt caught. absurd (omega (arith, caught.early)) }

pub loop-trip-preserved : goal.loop-trip-preserved
loop-trip-preserved c =
    let was = c.loop-trip.invariant in
    let trip = c.trip-item.result in
    record {
      grow = grow_on c.args.seeds.now c.loop-trip.seeds c.seed_trip.new.seeds was.grow c.seed_trip.ensures.grow;
      within = λ all. c.seed_trip.ensures.within (was.within all);
      seeded = λ k lt caught.
          trips_more c.args.row.now c.args.buffer c.loop-trip.trip-index (c.args.first + k) k c.args.trips.now trip c.loop-trip.seeds c.seed_trip.new.seeds
          (item_at c.args.trips.now c.as_slice-trip-items.result.now c.loop-trip.trip-index trip c.as_slice-trip-items.ensures c.loop-trip-test.true c.trip-item.is)
          c.seed_trip.ensures.grow (was.seeded k lt)
          (subst (λ (calls : List Call). (o : IsCaughtOf c.args.row.now c.args.buffer calls (length calls) (c.args.first + k)) → HasSeed c.seed_trip.new.seeds k o.call.stop) c.as_slice.ensures
          (c.in_ok-seed_trip.ensures.seeded k (omega (arith, lt, was.grow.many)))) caught;
    }

pub returns-in_err-seed_trip-clause-grow : goal.returns-in_err-seed_trip-clause-grow
returns-in_err-seed_trip-clause-grow c = grow_on c.args.seeds.now c.loop-trip.seeds c.seed_trip.new.seeds c.loop-trip.invariant.grow c.seed_trip.ensures.grow

pub returns-in_err-seed_trip-clause-within : goal.returns-in_err-seed_trip-clause-within
returns-in_err-seed_trip-clause-within c all = c.seed_trip.ensures.within (c.loop-trip.invariant.within all)

pub returns-clause-seeded : goal.returns-clause-seeded
returns-clause-seeded c k lt caught =
    trips_all c.args.row.now c.args.buffer (length c.args.trips.now) c.loop-trip.trip-index (c.args.first + k) k c.args.trips.now c.loop-trip.seeds
    (omega (arith, c.loop-trip-test.false, ap length c.as_slice-trip-items.ensures)) (c.loop-trip.invariant.seeded k lt) caught
