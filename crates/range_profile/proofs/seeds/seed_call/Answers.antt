use Rattle.std.proofs.Common.{◌≡◌, length, arith}
use Rattle.range_profile.proofs.SeedLemmas.{walk_same, seed_moved}
use Rattle.range_profile.proofs.seeds.seed_call.Goals as goal

pub returns-in_err-push_seed-clause-within : goal.returns-in_err-push_seed-clause-within
returns-in_err-push_seed-clause-within c all = c.push_seed.ensures.within (length c.args.row.now) c.requires.stop all

pub returns-in_ok-push_seed-clause-within : goal.returns-in_ok-push_seed-clause-within
returns-in_ok-push_seed-clause-within c all = c.push_seed.ensures.within (length c.args.row.now) c.requires.stop all

pub returns-in_ok-push_seed-clause-seeded : goal.returns-in_ok-push_seed-clause-seeded
returns-in_ok-push_seed-clause-seeded c k lt caught =
    let walk : c.in-Some.walk ≡ caught.seconds = walk_same _ c.in-Some.walk caught.seconds c.in-Some.ensures caught.walk in
    seed_moved c.push_seed.new.seeds _ k c.args.call.stop c.in_ok-push_seed.ensures.has
    (omega (arith, c.from-dep.ensures, c.from.ensures, c.from-in-Some.ensures, walk, caught.departs))
