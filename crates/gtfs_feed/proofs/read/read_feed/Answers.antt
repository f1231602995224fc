use Rattle.std.proofs.Common.{◌≡◌, ◌∙◌, ℕ, List, All, length, get_or, ap, subst, arith}
use Rattle.gtfs_feed.specs.Feed.{IsFeedTrip}
use Rattle.std.proofs.lemmas.Result.{err_from_is_err_and}
use Rattle.gtfs_feed.specs.Copies.{copies_in}
use Rattle.gtfs_feed.specs.Dates.{names_in}
use Rattle.gtfs_feed.specs.FeedFiles.{stop_rows, feed_services, ids_of, AreTrips, TripsStand}
use Rattle.gtfs_feed.specs.KeptCalls.{rows_in}
use Rattle.gtfs_feed.proofs.FeedLemmas.{rows-are, trips-are, calls-stand, all-stand, by-calls, by-copies}
use Rattle.gtfs_feed.proofs.StopsTable.{stops_are}
use Rattle.gtfs_feed.proofs.FinishLemmas.{rising}
use Rattle.gtfs_feed.proofs.read.read_feed.Goals as goal

pub read_frequencies-requires-clause-rises : goal.read_frequencies-requires-clause-rises
read_frequencies-requires-clause-rises c = λ k d lt. rising _ _ _ (c.in_ok-read_calls.ensures.finished _ c.in_ok-trips.ensures.kept k d lt)

pub returns-clause-kept : goal.returns-clause-kept
returns-clause-kept c =
    let stops = c.in_ok-stops.ensures.kept in
    let trips : All (IsFeedTrip (length c.in_ok-stops.stops.stops) (length c.in_ok-services.services.services.items)) c.read_calls.new.table.trips.items =
    λ k d lt. let P : ℕ → Type 0 = λ n. IsFeedTrip (length c.in_ok-stops.stops.stops) n (get_or c.read_calls.new.table.trips.items k d) in
    subst P c.in_ok-services.ensures.kept.each (c.in_ok-read_calls.ensures.finished (length c.in_ok-services.services.names) c.in_ok-trips.ensures.kept k d lt) in
    record {
      stops_stand = stops.stand;
      stops_differ = stops.differ;
      few_stops = c.in_ok-stops.ensures.few;
      services_named = rw c.from_vec.ensures c.in_ok-services.ensures.kept.named;
      few_services = rw c.from_vec.ensures c.in_ok-services.ensures.few;
      trips_go = rw (c.from_vec-2.ensures, c.from_vec.ensures) trips;
      few_trips = rw c.from_vec-2.ensures (omega (arith, c.in_ok-read_calls.ensures.same.1, c.in_ok-trips.ensures.few));
      copies_leave = rw c.from_vec-2.ensures c.in_ok-copies.ensures.kept;
      few_copies = c.in_ok-copies.ensures.few;
    }

pub returns-in_err-read_calls-clause-refused : goal.returns-in_err-read_calls-clause-refused
returns-in_err-read_calls-clause-refused c =
    let rows : rows_in c.in_ok-stops.stops ≡ stop_rows c.args.bytes.now = rows-are c.args.bytes.now c.in_ok-stops.stops c.in_ok-stops.ensures.table in
    let before : TripsStand c.args.bytes.now =
    record { stops = c.in_ok-stops.ensures.accepted; services = c.in_ok-services.ensures.accepted; trips = c.in_ok-trips.ensures.accepted } in
    let exit = err_from_is_err_and c.from_residual-in_err-read_calls.result c.from_residual-in_err-read_calls.ensures.1 in
    rw (exit.1, exit.2) (by-calls c.args.bytes.now (rows_in c.in_ok-stops.stops) c.in_ok-trips.trips.names _ rows c.in_ok-trips.ensures.names before c.in_err-read_calls.ensures.refused)

pub returns-in_err-copies-clause-refused : goal.returns-in_err-copies-clause-refused
returns-in_err-copies-clause-refused c =
    let rows : rows_in c.in_ok-stops.stops ≡ stop_rows c.args.bytes.now = rows-are c.args.bytes.now c.in_ok-stops.stops c.in_ok-stops.ensures.table in
    let before : TripsStand c.args.bytes.now =
    record { stops = c.in_ok-stops.ensures.accepted; services = c.in_ok-services.ensures.accepted; trips = c.in_ok-trips.ensures.accepted } in
    let named : c.read_calls.new.table.names ≡ ids_of c.args.bytes.now = c.in_ok-read_calls.ensures.same.0 ∙ c.in_ok-trips.ensures.names in
    let served : c.in_ok-services.services.names ≡ names_in (feed_services c.args.bytes.now) = c.in_ok-services.ensures.same ∙ ap names_in c.in_ok-services.ensures.services in
    let are : AreTrips c.args.bytes.now c.read_calls.new.table.trips.items =
    trips-are c.args.bytes.now (rows_in c.in_ok-stops.stops) c.in_ok-services.services.names c.in_ok-trips.trips.names c.in_ok-trips.trips.trips.items c.read_calls.new.table.trips.items
    rows served c.in_ok-trips.ensures.names c.in_ok-trips.ensures.trips c.in_ok-read_calls.ensures.same.1 c.in_ok-read_calls.ensures.trips in
    let stand = calls-stand c.args.bytes.now (rows_in c.in_ok-stops.stops) c.in_ok-trips.trips.names rows c.in_ok-trips.ensures.names before c.in_ok-read_calls.ensures.accepted in
    let exit = err_from_is_err_and c.from_residual-in_err-copies.result c.from_residual-in_err-copies.ensures.1 in
    rw (exit.1, exit.2) (by-copies c.args.bytes.now c.read_calls.new.table.names c.read_calls.new.table.trips.items _ named stand are c.in_err-copies.ensures.refused)

pub returns-clause-accepted : goal.returns-clause-accepted
returns-clause-accepted c =
    let rows : rows_in c.in_ok-stops.stops ≡ stop_rows c.args.bytes.now = rows-are c.args.bytes.now c.in_ok-stops.stops c.in_ok-stops.ensures.table in
    let before : TripsStand c.args.bytes.now =
    record { stops = c.in_ok-stops.ensures.accepted; services = c.in_ok-services.ensures.accepted; trips = c.in_ok-trips.ensures.accepted } in
    let named : c.read_calls.new.table.names ≡ ids_of c.args.bytes.now = c.in_ok-read_calls.ensures.same.0 ∙ c.in_ok-trips.ensures.names in
    let served : c.in_ok-services.services.names ≡ names_in (feed_services c.args.bytes.now) = c.in_ok-services.ensures.same ∙ ap names_in c.in_ok-services.ensures.services in
    let are : AreTrips c.args.bytes.now c.read_calls.new.table.trips.items =
    trips-are c.args.bytes.now (rows_in c.in_ok-stops.stops) c.in_ok-services.services.names c.in_ok-trips.trips.names c.in_ok-trips.trips.trips.items c.read_calls.new.table.trips.items
    rows served c.in_ok-trips.ensures.names c.in_ok-trips.ensures.trips c.in_ok-read_calls.ensures.same.1 c.in_ok-read_calls.ensures.trips in
    let stand = calls-stand c.args.bytes.now (rows_in c.in_ok-stops.stops) c.in_ok-trips.trips.names rows c.in_ok-trips.ensures.names before c.in_ok-read_calls.ensures.accepted in
    all-stand c.args.bytes.now c.read_calls.new.table.names c.read_calls.new.table.trips.items named stand are c.in_ok-copies.ensures.accepted

pub returns-clause-feed : goal.returns-clause-feed
returns-clause-feed c =
    let rows : rows_in c.in_ok-stops.stops ≡ stop_rows c.args.bytes.now = rows-are c.args.bytes.now c.in_ok-stops.stops c.in_ok-stops.ensures.table in
    let named : c.read_calls.new.table.names ≡ ids_of c.args.bytes.now = c.in_ok-read_calls.ensures.same.0 ∙ c.in_ok-trips.ensures.names in
    let served : c.in_ok-services.services.names ≡ names_in (feed_services c.args.bytes.now) = c.in_ok-services.ensures.same ∙ ap names_in c.in_ok-services.ensures.services in
    let are : AreTrips c.args.bytes.now c.read_calls.new.table.trips.items =
    trips-are c.args.bytes.now (rows_in c.in_ok-stops.stops) c.in_ok-services.services.names c.in_ok-trips.trips.names c.in_ok-trips.trips.trips.items c.read_calls.new.table.trips.items
    rows served c.in_ok-trips.ensures.names c.in_ok-trips.ensures.trips c.in_ok-read_calls.ensures.same.1 c.in_ok-read_calls.ensures.trips in
    record {
      stops = stops_are c.args.bytes.now.stops.now c.in_ok-stops.stops c.in_ok-stops.ensures.table;
      services = c.from_vec.ensures ∙ c.in_ok-services.ensures.services;
      trips = rw c.from_vec-2.ensures are;
      copies = c.in_ok-copies.ensures.copies ∙ ap (λ (ids : List (List ℕ)). copies_in ids c.args.bytes.now.frequencies) named;
    }
