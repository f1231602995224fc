use Rattle.std.proofs.Common.{◌≡◌, ◌<◌, ◌+◌, length, get_or, arith, ◌∙◌, ap, sym}
use Rattle.std.proofs.lemmas.List.{length_push}
use Rattle.std.proofs.lemmas.List.Elements.{All-push}
use Rattle.std.specs.List.Sorted.{IsNonDecreasingBy}
use Rattle.move_model.specs.declared.network.Call.{Call}
use Rattle.gtfs_feed.specs.declared.feed.FeedTrip.{FeedTrip}
use Rattle.gtfs_feed.specs.declared.feed.CopyRow.{CopyRow}
use Rattle.gtfs_feed.specs.Feed.{IsCopyRow}
use Rattle.feed_checks.specs.Kept.{EndsInTime}
use Rattle.feed_checks.proofs.KeptLemmas.{is_copy_row}
use Rattle.service_day.proofs.GatherLemmas.{rising}
use Rattle.feed_checks.proofs.days.copy_rows.Goals as goal

pub fits-requires-clause-rising : goal.fits-requires-clause-rising
fits-requires-clause-rising c =
    let none : CopyRow = record { trip = 0; start = 0; end = 0; headway = 0 } in
    let row = get_or c.args.rows.now c.loop-row.row-index none in
    let trip = c.index-trips-place-in-loop-row.result in
    let there : row.trip < length c.args.trips.now = omega arith in
    let all : IsNonDecreasingBy (λ (call : Call). call.dep) c.as_slice.result.now = rw c.as_slice.ensures (rising 2 1 (get_or c.args.trips.now row.trip trip) (c.requires.trips row.trip trip there)) in
    all

pub loop-row-preserved : goal.loop-row-preserved
loop-row-preserved c =
    let none : CopyRow = record { trip = 0; start = 0; end = 0; headway = 0 } in
    let row = get_or c.args.rows.now c.loop-row.row-index none in
    let trip = c.index-trips-place-in-loop-row.result in
    let there : row.trip < length c.args.trips.now = omega arith in
    let is : trip ≡ get_or c.args.trips.now row.trip trip = c.index-trips-place-in-loop-row.is in
    let same : c.as_slice.result.now ≡ trip.calls = c.as_slice.ensures ∙ ap (λ (trip : FeedTrip). trip.calls) (sym is) in
    let ends : EndsInTime trip.calls row = rw same at (c.fits.ensures c.if-not-fits.false) in
    let here : IsCopyRow c.args.trips.now row = is_copy_row c.args.trips.now row trip there is ends in
    let pushed = c.in_ok-push.ensures.ok in
    (rw pushed (All-push (IsCopyRow c.args.trips.now) c.loop-row.list row c.loop-row.invariant.0 here), rw pushed (length_push c.loop-row.list row ∙ ap (λ n. n + 1) c.loop-row.invariant.1))
