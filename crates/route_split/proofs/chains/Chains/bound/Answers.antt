use Rattle.std.proofs.Common.{◌≡◌, [], length, get_or, subst, sym, ap, ◌∙◌, arith}
use Rattle.std.specs.Prelude.{slice_index}
use Rattle.std.proofs.lemmas.List.{get_or_read}
use Rattle.move_model.specs.declared.network.Trip.{Trip}
use Rattle.route_split.specs.Fill.{no_trip, trip_at}
use Rattle.route_split.specs.Chains.{bucket_of}
use Rattle.route_split.specs.Jumps.{IsBound}
use Rattle.route_split.proofs.JumpLemmas.{bounds_leaf}
use Rattle.route_split.proofs.chains.Chains.bound.Goals as goal

pub returns-then-index : goal.returns-then-index
returns-then-index c = λ h upto from e.
    let trips = c.args.trips.now in
    let lasts = c.args.self.now.lasts.items in
    let tops = c.args.self.now.tops.items in
    let nexts = c.args.self.now.nexts.items in
    let jumps = c.args.self.now.jumps.items in
    let g = c.args.g in
    let n = c.index-then-index.result.now in
    let jump_is : c.index.result.now ≡ slice_index jumps g = get_or_read jumps g c.index.result.now (omega (arith, c.requires.g, c.requires.jumped.one_each)) c.index.ensures 0 in
    let next_is : c.index-2.result.now ≡ slice_index nexts g = get_or_read nexts g c.index-2.result.now (omega (arith, c.requires.g, c.requires.chained.one_each)) c.index-2.ensures 0 in
    let last_is : n ≡ slice_index lasts g = get_or_read lasts g n c.requires.g c.index-then-index.ensures 0 in
    let at : c.index-trips-index.result ≡ get_or trips n no_trip =
    get_or_read trips n c.index-trips-index.result (omega (arith, last_is, c.requires.lasts g c.requires.g)) c.index-trips-index.is no_trip in
    let calls_is : c.as_slice.result.now ≡ (trip_at trips (slice_index lasts g)).calls =
    c.as_slice.ensures ∙ ap (λ (t : Trip). t.calls) (sym c.index-trips-index.is ∙ at) ∙ ap (λ m. (trip_at trips m).calls) last_is in
    subst (λ l. IsBound l (trip_at trips (slice_index lasts h)).calls) (sym calls_is)
    (bounds_leaf trips (λ k. bucket_of trips (length tops) (slice_index lasts k)) lasts tops nexts g c.requires.chained c.requires.g h upto
    (omega (arith, from, jump_is, next_is, c.if-index.true)) e)

pub returns-else-index : goal.returns-else-index
returns-else-index c = λ h upto from e.
    let trips = c.args.trips.now in
    let lasts = c.args.self.now.lasts.items in
    let nexts = c.args.self.now.nexts.items in
    let jumps = c.args.self.now.jumps.items in
    let lows = c.args.self.now.lows.items in
    let g = c.args.g in
    let jump_is : c.index.result.now ≡ slice_index jumps g = get_or_read jumps g c.index.result.now (omega (arith, c.requires.g, c.requires.jumped.one_each)) c.index.ensures 0 in
    let next_is : c.index-2.result.now ≡ slice_index nexts g = get_or_read nexts g c.index-2.result.now (omega (arith, c.requires.g, c.requires.chained.one_each)) c.index-2.ensures 0 in
    let low_is : c.as_slice-else-index.result.now ≡ get_or lows g [] =
    c.as_slice-else-index.ensures ∙ get_or_read lows g c.index-else-index.result.now (omega (arith, c.requires.g, c.requires.jumped.low_each)) c.index-else-index.ensures [] in
    subst (λ l. IsBound l (trip_at trips (slice_index lasts h)).calls) (sym low_is)
    ((c.requires.jumped.jump g c.requires.g).bounds (λ same. omega (arith, same, jump_is, next_is, c.if-index.false)) h upto from e)
