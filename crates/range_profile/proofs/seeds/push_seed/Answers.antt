use Rattle.std.proofs.Common.{get_or, refl}
use Rattle.std.proofs.lemmas.Option.{slice_get-get_or}
use Rattle.range_profile.proofs.SeedLemmas.{push_grow, push_within, push_has, stay_grow, stay_within}
use Rattle.range_profile.proofs.seeds.push_seed.Goals as goal

pub returns-in_err-push-clause-grow : goal.returns-in_err-push-clause-grow
returns-in_err-push-clause-grow c =
    let seeds = c.args.seeds.now in
    let was = get_or seeds c.args.k c.index-seeds-k.result in
    stay_grow seeds c.args.k was c.push.new.self c.requires (slice_get-get_or seeds c.args.k c.index-seeds-k.result c.requires) c.in_err-push.ensures.items

pub returns-in_err-push-clause-within : goal.returns-in_err-push-clause-within
returns-in_err-push-clause-within c stops lt all =
    let seeds = c.args.seeds.now in
    let was = get_or seeds c.args.k c.index-seeds-k.result in
    stay_within seeds c.args.k was c.push.new.self c.requires (slice_get-get_or seeds c.args.k c.index-seeds-k.result c.requires) c.in_err-push.ensures.items stops all

pub returns-clause-grow : goal.returns-clause-grow
returns-clause-grow c =
    let seeds = c.args.seeds.now in
    let was = get_or seeds c.args.k c.index-seeds-k.result in
    push_grow seeds c.args.k was c.push.new.self c.args.stop c.requires (slice_get-get_or seeds c.args.k c.index-seeds-k.result c.requires) c.in_ok-push.ensures.items

pub returns-clause-within : goal.returns-clause-within
returns-clause-within c stops lt all =
    let seeds = c.args.seeds.now in
    let was = get_or seeds c.args.k c.index-seeds-k.result in
    push_within seeds c.args.k was c.push.new.self c.args.stop c.requires (slice_get-get_or seeds c.args.k c.index-seeds-k.result c.requires) c.in_ok-push.ensures.items stops lt all

pub returns-clause-has : goal.returns-clause-has
returns-clause-has c =
    let seeds = c.args.seeds.now in
    let was = get_or seeds c.args.k c.index-seeds-k.result in
    push_has seeds c.args.k was c.push.new.self c.args.stop c.requires (slice_get-get_or seeds c.args.k c.index-seeds-k.result c.requires) c.in_ok-push.ensures.items c.args.k refl
