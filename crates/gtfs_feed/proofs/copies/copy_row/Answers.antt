use Rattle.std.proofs.Common.{◌<◌, length, arith, ◌∙◌, sym, ap, Some}
use Rattle.std.proofs.lemmas.Option.{slice_get-get_or}
use Rattle.gtfs_feed.specs.declared.feed.FeedTrip.{FeedTrip}
use Rattle.gtfs_feed.proofs.RisingLemmas.{copy-row}
use Rattle.gtfs_feed.proofs.copies.copy_row.Goals as goal

pub check_copy-requires-clause-rises : goal.check_copy-requires-clause-rises
check_copy-requires-clause-rises c =
    let inside : c.in_ok-copy.copy.trip < length c.args.table.now.trips.items = omega (arith, c.in_ok-copy.ensures.trip, c.requires.each) in
    let r = c.requires.rises c.in_ok-copy.copy.trip c.index.result.now inside in
    rw c.as_slice.ensures (rw (← c.index.ensures) at r)

pub returns-clause-kept : goal.returns-clause-kept
returns-clause-kept c =
    let inside : c.in_ok-copy.copy.trip < length c.args.table.now.trips.items = omega (arith, c.in_ok-copy.ensures.trip, c.requires.each) in
    let r = c.requires.rises c.in_ok-copy.copy.trip c.index.result.now inside in
    copy-row c.args.table.now.trips.items c.in_ok-copy.copy c.index.result.now (slice_get-get_or c.args.table.now.trips.items c.in_ok-copy.copy.trip c.index.result.now inside ∙ ap (λ (t : FeedTrip). Some t) (sym c.index.ensures)) (rw (← c.index.ensures) at r)
    c.in_ok-copy.ensures.times.0 c.in_ok-copy.ensures.times.1 c.in_ok-copy.ensures.steps (rw c.as_slice.ensures at c.in_ok-check_copy.ensures.in_time)
