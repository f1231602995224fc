use Rattle.std.proofs.Common.{◌+◌, ◌-◌, length, arith}
use Rattle.std.proofs.lemmas.Option.{slice_get-get_or}
use Rattle.range_profile.proofs.SeedLemmas.{grow_same, grow_on, trip_more, trip_all}
use Rattle.range_profile.proofs.seeds.seed_trip.Goals as goal

pub loop-i-init : goal.loop-i-init
loop-i-init c = record { grow = grow_same c.args.seeds.now; within = λ h. h; seeded = λ k lt caught. absurd (omega (arith, caught.early)) }

pub loop-i-preserved : goal.loop-i-preserved
loop-i-preserved c =
    let was = c.loop-i.invariant in
    record {
      grow = grow_on c.args.seeds.now c.loop-i.seeds c.seed_call.new.seeds was.grow c.seed_call.ensures.grow;
      within = λ h. c.seed_call.ensures.within (was.within h);
      seeded = λ k lt caught.
          trip_more c.args.row.now c.args.buffer c.loop-i.i (c.args.first + k) k c.args.calls.now _ c.loop-i.seeds c.seed_call.new.seeds c.loop-i.auto.i
          (slice_get-get_or c.args.calls.now (c.loop-i.i - 1) _ (omega (arith, c.loop-i-test.true, c.loop-i.auto.i)))
          c.seed_call.ensures.grow (was.seeded k lt) (c.in_ok-seed_call.ensures.seeded k (omega (arith, lt, was.grow.many))) caught;
    }

pub returns-in_err-seed_call-clause-grow : goal.returns-in_err-seed_call-clause-grow
returns-in_err-seed_call-clause-grow c = grow_on c.args.seeds.now c.loop-i.seeds c.seed_call.new.seeds c.loop-i.invariant.grow c.seed_call.ensures.grow

pub returns-in_err-seed_call-clause-within : goal.returns-in_err-seed_call-clause-within
returns-in_err-seed_call-clause-within c all = c.seed_call.ensures.within (c.loop-i.invariant.within all)

pub returns-clause-seeded : goal.returns-clause-seeded
returns-clause-seeded c k lt caught =
    trip_all c.args.row.now c.args.buffer (length c.args.calls.now) c.loop-i.i (c.args.first + k) k c.args.calls.now c.loop-i.seeds c.loop-i-test.false
    (c.loop-i.invariant.seeded k lt) caught
