use Rattle.std.proofs.Common.{◌≡◌, ◌≢◌, ◌≤◌, ℕ, slice_index, sym, ap, ◌∙◌, arith, Some}
use Rattle.std.specs.Prelude.{slice_get}
use Rattle.std.proofs.lemmas.Option.{slice_get_within, slice_get-get_or, get_or_from_slice_get}
use Rattle.route_split.specs.Route.{Route}
use Rattle.raptor_rounds.specs.Labels.{Scanned}
use Rattle.raptor_rounds.proofs.RidesLemmas.{falls_on, scanned_falls}
use Rattle.raptor_rounds.proofs.WalksLemmas.{below_more}
use Rattle.raptor_rounds.proofs.scan.scan_all.Goals as goal

pub loop-route-preserved : goal.loop-route-preserved
loop-route-preserved g c =
    let was = c.loop-route.invariant in
    let now = c.scan_at.ensures in
    let routes = c.written-routes.result.now in
    let m = c.loop-route.route-index in
    record {
      falls = falls_on _ _ _ was.falls now.falls;
      scanned = λ n r i route lt at is from. below_more 0 routes m
          (λ r. (i : ℕ) (route : Route) → slice_get c.args.table.now.routes r ≡ Some route → slice_index c.args.starts.now r ≤ i
          → Scanned route c.args.table.now.buffer c.args.ready.now.seconds c.scan_at.new.found.left c.scan_at.new.found.best i)
          c.loop-route-test.true
          (λ n r less at i route is from. scanned_falls route _ _ i _ _ now.falls (was.scanned n r i route less at is from))
          (λ i route is from. now.scanned route i is (omega (arith, from, c.get-start.ensures))) n r lt at i route is from;
      covers = λ h. now.covers (was.covers h);
      sound = λ s last buffer rows all old. now.sound s last buffer rows all (was.sound s last buffer rows all old);
      marks = now.marks ∙ was.marks;
      unmarked = λ n r from at.
          let r_is : slice_index routes n ≡ r = get_or_from_slice_get routes n r 0 at in
          let other : r ≢ slice_index routes m =
          λ e. c.written-routes.ensures.once m n (omega (arith, from)) (slice_get_within routes n r at) (sym e ∙ sym r_is) in
          now.others r other ∙ was.unmarked n r (omega (arith, from)) at;
      counted = omega (arith, was.counted, now.counted);
    }

pub returns-clause-scanned : goal.returns-clause-scanned
returns-clause-scanned g c r i route is sure from =
    let has = c.written-routes.ensures.all r (omega (arith, slice_get_within c.args.table.now.routes r route is, c.requires.starts)) sure in
    c.loop-route.invariant.scanned has.0 r i route (omega (arith, has.1, c.loop-route-test.false)) (slice_get-get_or c.written-routes.result.now has.0 r has.1 ∙ ap Some has.2) is from
