use Rattle.std.proofs.Common.{◌≡◌, [], length, get_or, subst, sym, ap, ◌∙◌, arith}
use Rattle.std.specs.Prelude.{slice_index}
use Rattle.std.proofs.lemmas.Bool.{false≢true}
use Rattle.std.proofs.lemmas.List.{get_or_read}
use Rattle.move_model.specs.declared.network.Trip.{Trip}
use Rattle.route_split.specs.Routes.{IsNoLater}
use Rattle.route_split.specs.Fill.{no_trip, trip_at}
use Rattle.route_split.specs.Chains.{bucket_of}
use Rattle.route_split.proofs.JumpLemmas.{next_behind, jump_behind}
use Rattle.route_split.proofs.chains.Chains.behind.Goals as goal

pub returns-then-jump-next : goal.returns-then-jump-next
returns-then-jump-next c =
    let trips = c.args.trips.now in
    let lasts = c.args.self.now.lasts.items in
    let tops = c.args.self.now.tops.items in
    let nexts = c.args.self.now.nexts.items in
    let g = c.args.g in
    let next_is : c.index-next.result.now ≡ slice_index nexts g = get_or_read nexts g c.index-next.result.now (omega (arith, c.requires.g, c.requires.chained.one_each)) c.index-next.ensures 0 in
    next_behind trips (λ h. bucket_of trips (length tops) (slice_index lasts h)) lasts tops nexts c.args.u g c.index-next.result.now c.requires.chained c.requires.g next_is

pub returns-then-is_no_later : goal.returns-then-is_no_later
returns-then-is_no_later c =
    let trips = c.args.trips.now in
    let lasts = c.args.self.now.lasts.items in
    let tops = c.args.self.now.tops.items in
    let nexts = c.args.self.now.nexts.items in
    let g = c.args.g in
    let next_is : c.index-next.result.now ≡ slice_index nexts g = get_or_read nexts g c.index-next.result.now (omega (arith, c.requires.g, c.requires.chained.one_each)) c.index-next.ensures 0 in
    next_behind trips (λ h. bucket_of trips (length tops) (slice_index lasts h)) lasts tops nexts c.args.u g c.index-next.result.now c.requires.chained c.requires.g next_is

pub returns : goal.returns
returns c =
    let trips = c.args.trips.now in
    let lasts = c.args.self.now.lasts.items in
    let tops = c.args.self.now.tops.items in
    let nexts = c.args.self.now.nexts.items in
    let jumps = c.args.self.now.jumps.items in
    let lows = c.args.self.now.lows.items in
    let g = c.args.g in
    let u = c.args.u in
    let low = c.as_slice-low.result.now in
    let next_is : c.index-next.result.now ≡ slice_index nexts g = get_or_read nexts g c.index-next.result.now (omega (arith, c.requires.g, c.requires.chained.one_each)) c.index-next.ensures 0 in
    let jump_is : c.index-jump.result.now ≡ slice_index jumps g = get_or_read jumps g c.index-jump.result.now (omega (arith, c.requires.g, c.requires.jumped.one_each)) c.index-jump.ensures 0 in
    let low_is : low ≡ get_or lows g [] = c.as_slice-low.ensures ∙ get_or_read lows g c.index.result.now (omega (arith, c.requires.g, c.requires.jumped.low_each)) c.index.ensures [] in
    let at : c.index-trips-u.result ≡ get_or trips u no_trip = get_or_read trips u c.index-trips-u.result c.requires.u c.index-trips-u.is no_trip in
    let calls_is : c.as_slice.result.now ≡ (trip_at trips u).calls = c.as_slice.ensures ∙ ap (λ (t : Trip). t.calls) (sym c.index-trips-u.is ∙ at) in
    let late : IsNoLater low (trip_at trips u).calls → ⊥ = λ no_later.
    false≢true (sym c.if-is_no_later.false ∙ c.is_no_later.ensures (subst (IsNoLater low) (sym calls_is) no_later)) in
    jump_behind trips (λ h. bucket_of trips (length tops) (slice_index lasts h)) lasts tops nexts jumps lows low u g c.index-jump.result.now c.index-next.result.now
    c.requires.chained c.requires.jumped c.requires.g jump_is next_is low_is (λ e. omega (arith, e, c.if-jump-next.false)) late
