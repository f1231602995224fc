use Rattle.std.proofs.Common.{◌≡◌, length, get_or, subst, sym, ap, ◌∙◌, arith}
use Rattle.std.specs.Prelude.{slice_index}
use Rattle.std.proofs.lemmas.List.{get_or_read}
use Rattle.move_model.specs.declared.network.Trip.{Trip}
use Rattle.route_split.specs.Fill.{no_trip, trip_at}
use Rattle.route_split.specs.Chains.{bucket_of}
use Rattle.route_split.specs.Jumps.{IsBound}
use Rattle.route_split.proofs.JumpLemmas.{jump_two}
use Rattle.route_split.proofs.chains.Chains.leap_of.Goals as goal

pub returns : goal.returns
returns c =
    let trips = c.args.trips.now in
    let lasts = c.args.self.now.lasts.items in
    let tops = c.args.self.now.tops.items in
    let p = c.args.p in
    let n = c.index.result.now in
    let low = c.in_ok-low.low in
    let last_is : n ≡ slice_index lasts p = get_or_read lasts p n c.requires.p c.index.ensures 0 in
    let at : c.index-trips-index.result ≡ get_or trips n no_trip =
    get_or_read trips n c.index-trips-index.result (omega (arith, last_is, c.requires.lasts p c.requires.p)) c.index-trips-index.is no_trip in
    let calls_is : c.as_slice-calls.result.now ≡ (trip_at trips (slice_index lasts p)).calls =
    c.as_slice-calls.ensures ∙ ap (λ (t : Trip). t.calls) (sym c.index-trips-index.is ∙ at) ∙ ap (λ m. (trip_at trips m).calls) last_is in
    jump_two trips (λ h. bucket_of trips (length tops) (slice_index lasts h)) lasts tops c.args.self.now.nexts.items c.args.self.now.jumps.items c.args.self.now.lows.items
    low c.bound-left.result.now c.bound-right.result.now p c.args.a c.args.b c.requires.chained c.requires.jumped c.requires.p c.requires.first c.requires.second
    c.bound-left.ensures c.bound-right.ensures (subst (IsBound low) calls_is c.in_ok-low.ensures.a) c.in_ok-low.ensures.b c.in_ok-low.ensures.c
