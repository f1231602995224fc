use Rattle.std.proofs.Common.{List, length, ap, sym, subst, arith}
use Rattle.std.specs.declared.alloc.Global.{Global}
use Rattle.std.specs.declared.vec.Vec.{Vec}
use Rattle.move_model.specs.declared.network.StopNo.{StopNo}
use Rattle.raptor_rounds.proofs.ToldLemmas.{put_back}
use Rattle.range_profile.specs.Seeds.{HasSeed, AreWithin}
use Rattle.range_profile.proofs.SeedLemmas.{within_more}
use Rattle.range_profile.proofs.seeds.window_seeds.Goals as goal

pub returns-clause-within : goal.returns-clause-within
returns-clause-within c =
    let stops = length c.args.row.now in
    let now = c.seed_trips.new.seeds in
    let back = put_back c.in_ok-seeds.seeds.len now c.in_ok-seeds.seeds.items (omega (arith, c.seed_trips.ensures.grow.many, c.as_mut_slice.ensures.len)) in
    subst (λ (v : List (Vec StopNo Global)). AreWithin stops v) (sym back)
    (c.seed_trips.ensures.within (subst (λ (v : List (Vec StopNo Global)). AreWithin stops v) (sym c.as_mut_slice.ensures.value) (within_more stops c.in_ok-seeds.seeds.items c.in_ok-seeds.ensures.none)))

pub returns-clause-seeded : goal.returns-clause-seeded
returns-clause-seeded c k lt caught =
    let now = c.seed_trips.new.seeds in
    let back = put_back c.in_ok-seeds.seeds.len now c.in_ok-seeds.seeds.items (omega (arith, c.seed_trips.ensures.grow.many, c.as_mut_slice.ensures.len)) in
    subst (λ (v : List (Vec StopNo Global)). HasSeed v k caught.caught.call.stop) (sym back)
    (c.in_ok-seed_trips.ensures.seeded k (omega (arith, lt, ap length c.as_mut_slice.ensures.value, c.in_ok-seeds.ensures.many)) caught)
