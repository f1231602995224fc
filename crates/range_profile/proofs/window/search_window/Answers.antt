use Rattle.std.proofs.Common.{◌≡◌, ◌+◌, ◌-◌, ◌<◌, [], length, reverse, refl, sym, ap, ◌∙◌, subst, arith, Some}
use Rattle.std.specs.Prelude.{slice_get, All}
use Rattle.std.proofs.lemmas.Option.{slice_get-get_or, slice_get_within}
use Rattle.std.specs.declared.alloc.Global.{Global}
use Rattle.std.specs.declared.vec.Vec.{Vec}
use Rattle.move_model.specs.declared.network.Network.{Network}
use Rattle.move_model.specs.declared.network.StopNo.{StopNo}
use Rattle.route_split.specs.Calls.{IsTableOf}
use Rattle.range_spans.specs.Open.{Stands, BeginLater}
use Rattle.range_search.specs.Leads.{Right, query_at}
use Rattle.range_search.specs.Search.{CatchesListed}
use Rattle.range_profile.specs.Window.{SeedsWindow, asked}
use Rattle.range_profile.proofs.SeedLemmas.{within_at}
use Rattle.range_profile.proofs.WindowLemmas.{IsNext, next_starts, next_done, opened_more, opened_all, lent_low, window_listed, none_stands, none_later, right_earlier}
use Rattle.range_profile.proofs.window.search_window.Goals as goal

pub loop-i-init : goal.loop-i-init
loop-i-init g c =
    let table = c.args.table.now in
    let first_row = c.args.first_row.now in
    let last_row = c.args.last_row.now in
    let list = c.args.list.now in
    let limit = length c.args.levels.now in
    let last = c.args.last in
    let whole : last ≡ last - 0 = omega arith in
    let empty : reverse c.args.closed.now.items ≡ [] = ap reverse c.requires.none_closed in
    let later : BeginLater (last + 1) (reverse c.args.closed.now.items) = none_later (last + 1) (reverse c.args.closed.now.items) empty in
    let right : (n : Network) → IsTableOf n table → Right (asked n first_row last_row list c.args.foot limit) table last c.search_last.new.levels =
    λ n is_table. record {
      is_table = is_table;
      whole = c.routes-routes.ensures.whole;
      stops_are = c.requires.stops;
      entries = c.requires.list;
      last_seconds = c.requires.last_seconds;
      foot_seconds = c.requires.foot;
      many = c.search_last.ensures.many;
      fits = c.search_last.ensures.fits;
      closed = c.search_last.ensures.closed;
      sound = c.search_last.ensures.sound (query_at (asked n first_row last_row list c.args.foot limit) last) refl refl refl refl (sym is_table.buffer_is) is_table.holds;
    } in
    record {
      next = subst (λ d. IsNext c.args.departures.now d 1) whole (next_starts c.args.departures.now last c.requires.falling c.requires.starts);
      right = λ n is_table window. subst (λ d. Right (asked n first_row last_row list c.args.foot limit) table d c.search_last.new.levels) whole (right n is_table);
      stands = λ n is_table window.
          let q = asked n first_row last_row list c.args.foot limit in
          subst (λ d. Stands q d last c.turn_spans.new.pending (reverse c.turn_spans.new.closed.items)) whole
          (c.in_ok-turn_spans.ensures.stands q table last refl (right n is_table) (omega arith)
          (subst (λ v. Stands q (last + 1) last c.args.pending.now v) (sym empty) (none_stands q last c.args.pending.now c.requires.none_open)) later);
      later = subst (λ d. BeginLater d (reverse c.turn_spans.new.closed.items)) whole (c.in_ok-turn_spans.ensures.later later);
      fits = c.search_last.ensures.fits;
      many = c.search_last.ensures.many;
      held = c.search_last.ensures.held;
      better = c.search_last.ensures.better;
      fresh = c.search_last.ensures.fresh;
      leads = omega (arith, c.turn_spans.ensures.leads, c.search_last.ensures.many);
      pending = omega (arith, c.turn_spans.ensures.pending, c.search_last.ensures.many);
      counted = omega (arith, c.search_last.ensures.counted);
    }

pub loop-i-preserved : goal.loop-i-preserved
loop-i-preserved g c =
    let was = c.loop-i.invariant in
    let table = c.args.table.now in
    let first_row = c.args.first_row.now in
    let last_row = c.args.last_row.now in
    let list = c.args.list.now in
    let seeds = c.args.seeds.now in
    let ds = c.args.departures.now in
    let limit = length c.args.levels.now in
    let last = c.args.last in
    let d = last - 1 - c.loop-i.i in
    let k = d - c.args.first in
    let back : last - c.loop-i.i ≡ d + 1 = omega (arith, c.loop-i-test.true) in
    let now : d ≡ last - (c.loop-i.i + 1) = omega (arith, c.loop-i-test.true) in
    let next : IsNext ds (d + 1) c.loop-i.next = subst (λ v. IsNext ds v c.loop-i.next) back was.next in
    let later : BeginLater (d + 1) (reverse c.loop-i.closed.items) = subst (λ v. BeginLater v (reverse c.loop-i.closed.items)) back was.later in
    let at : slice_get seeds k ≡ Some c.index-seeds-at.result = slice_get-get_or seeds k c.index-seeds-at.result (omega (arith, c.loop-i-test.true, c.requires.seeds)) ∙ ap (λ (v : Vec StopNo Global). Some v) (sym c.index-seeds-at.is) in
    let listed : SeedsWindow table first_row c.args.first last seeds ds → CatchesListed table first_row d c.as_slice-stops.result.now ds c.loop-i.next =
    λ window. subst (λ v. CatchesListed table first_row d v ds c.loop-i.next) (sym c.as_slice-stops.ensures.value)
    (window_listed table first_row c.args.first last d k c.loop-i.next seeds ds c.index-seeds-at.result window c.requires.falling next
    (omega (arith, c.loop-i-test.true, c.requires.window)) (omega (arith, c.loop-i-test.true)) at) in
    let right : (n : Network) → IsTableOf n table → SeedsWindow table first_row c.args.first last seeds ds → Right (asked n first_row last_row list c.args.foot limit) table d c.search_second-next.new.levels =
    λ n is_table window.
    right_earlier n table first_row last_row list c.args.foot limit d c.loop-i.levels c.search_second-next.new.levels c.search_second-next.ensures.fits c.search_second-next.ensures.many
    (subst (λ v. Right (asked n first_row last_row list c.args.foot limit) table v c.loop-i.levels) back (was.right n is_table window))
    (λ h. c.search_second-next.ensures.closed (listed window) h)
    (λ h. c.search_second-next.ensures.sound (query_at (asked n first_row last_row list c.args.foot limit) d) refl refl refl refl (sym is_table.buffer_is) is_table.holds h) in
    record {
      next = subst (λ v. IsNext ds v c.search_second-next.result) now (next_done ds d c.loop-i.next c.search_second-next.result c.requires.falling next c.search_second-next.ensures.done);
      right = λ n is_table window. subst (λ v. Right (asked n first_row last_row list c.args.foot limit) table v c.search_second-next.new.levels) now (right n is_table window);
      stands = λ n is_table window.
          let q = asked n first_row last_row list c.args.foot limit in
          subst (λ v. Stands q v last c.turn_spans-in-loop-i.new.pending (reverse c.turn_spans-in-loop-i.new.closed.items)) now
          (c.in_ok-turn_spans-2.ensures.stands q table last refl (right n is_table window) (omega arith)
          (subst (λ v. Stands q v last c.loop-i.pending (reverse c.loop-i.closed.items)) back (was.stands n is_table window)) later);
      later = subst (λ v. BeginLater v (reverse c.turn_spans-in-loop-i.new.closed.items)) now (c.in_ok-turn_spans-2.ensures.later later);
      fits = c.search_second-next.ensures.fits;
      many = c.search_second-next.ensures.many ∙ was.many;
      held = c.search_second-next.ensures.held;
      better = c.search_second-next.ensures.better;
      fresh = c.search_second-next.ensures.fresh;
      leads = omega (arith, c.turn_spans-in-loop-i.ensures.leads, c.search_second-next.ensures.many, was.many);
      pending = omega (arith, c.turn_spans-in-loop-i.ensures.pending, c.search_second-next.ensures.many, was.many);
      counted = opened_more (length table.routes) c.loop-i.next c.search_second-next.result _ _ c.args.opens.now c.loop-i.opens c.search_second-next.new.opens was.next.some (lent_low table c.loop-i.held was.held) c.search_second-next.ensures.counted was.counted;
    }

pub search_second-next-requires-clause-at_stops : goal.search_second-next-requires-clause-at_stops
search_second-next-requires-clause-at_stops g c =
    let k = c.args.last - 1 - c.loop-i.i - c.args.first in
    subst (λ v. All (λ stop. stop.0 < length c.args.last_row.now) v) (sym c.as_slice-stops.ensures.value)
    (within_at (length c.args.last_row.now) k c.args.seeds.now c.index-seeds-at.result c.requires.at_stops
    (slice_get-get_or c.args.seeds.now k c.index-seeds-at.result (omega (arith, c.loop-i-test.true, c.requires.seeds)) ∙ ap (λ (v : Vec StopNo Global). Some v) (sym c.index-seeds-at.is)))

pub returns-clause-stands : goal.returns-clause-stands
returns-clause-stands g c n is_table window =
    let e : c.args.last - c.loop-i.i ≡ c.args.first = omega (arith, c.loop-i-test.false, c.loop-i.auto.i-end, c.requires.window) in
    subst (λ d. Stands (asked n c.args.first_row.now c.args.last_row.now c.args.list.now c.args.foot (length c.args.levels.now)) d c.args.last c.loop-i.pending (reverse c.loop-i.closed.items)) e
    (c.loop-i.invariant.stands n is_table window)

pub returns-clause-later : goal.returns-clause-later
returns-clause-later g c =
    let e : c.args.last - c.loop-i.i ≡ c.args.first = omega (arith, c.loop-i-test.false, c.loop-i.auto.i-end, c.requires.window) in
    subst (λ d. BeginLater d (reverse c.loop-i.closed.items)) e c.loop-i.invariant.later

pub returns-clause-counted : goal.returns-clause-counted
returns-clause-counted g c =
    let was = c.loop-i.invariant in
    opened_all (length c.args.table.now.routes) c.loop-i.next (length c.args.departures.now) _ c.args.opens.now c.loop-i.opens was.next.some was.next.few
    (lent_low c.args.table.now c.loop-i.held was.held) was.counted

pub returns-in_err-turn_spans-clause-counted : goal.returns-in_err-turn_spans-clause-counted
returns-in_err-turn_spans-clause-counted g c =
    opened_all (length c.args.table.now.routes) 1 (length c.args.departures.now) _ c.args.opens.now c.search_last.new.opens (omega arith)
    (slice_get_within c.args.departures.now 0 c.args.last c.requires.starts)
    (lent_low c.args.table.now c.search_last.new.held c.search_last.ensures.held) (omega (arith, c.search_last.ensures.counted))

pub returns-in_err-turn_spans-2-clause-counted : goal.returns-in_err-turn_spans-2-clause-counted
returns-in_err-turn_spans-2-clause-counted g c =
    let was = c.loop-i.invariant in
    let table = c.args.table.now in
    let now = c.search_second-next.ensures in
    let d = c.args.last - 1 - c.loop-i.i in
    let next : IsNext c.args.departures.now d c.search_second-next.result =
    next_done c.args.departures.now d c.loop-i.next c.search_second-next.result c.requires.falling
    (subst (λ v. IsNext c.args.departures.now v c.loop-i.next) (omega (arith, c.loop-i-test.true)) was.next) now.done in
    opened_all (length table.routes) c.search_second-next.result (length c.args.departures.now) _ c.args.opens.now c.search_second-next.new.opens next.some next.few
    (lent_low table c.search_second-next.new.held now.held)
    (opened_more (length table.routes) c.loop-i.next c.search_second-next.result _ _ c.args.opens.now c.loop-i.opens c.search_second-next.new.opens was.next.some
    (lent_low table c.loop-i.held was.held) now.counted was.counted)
