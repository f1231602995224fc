-- What the readers of the files say of the feed.
use Rattle.std.proofs.Common.{◌≡◌, ◌∙◌, ℕ, ◌<◌, List, length, get_or, refl, ap, inl, inr, arith}
use Rattle.move_model.specs.declared.refusal.FileKind.TheVariants as file_kind
use Rattle.move_model.specs.declared.refusal.Stopped.{Stopped}
use Rattle.tables.specs.Table.{header_of, rows_of}
use Rattle.gtfs_feed.specs.declared.feed.FeedBytes.{FeedBytes}
use Rattle.gtfs_feed.specs.declared.feed.FeedTrip.{FeedTrip}
use Rattle.gtfs_feed.specs.declared.stops.StopTable.{StopTable}
use Rattle.gtfs_feed.specs.Calls.{StopRows, trip_calls}
use Rattle.gtfs_feed.specs.Copies.{CopiesAccepted, IsCopiesRefusal}
use Rattle.gtfs_feed.specs.Dates.{names_in}
use Rattle.gtfs_feed.specs.FeedFiles.{stop_rows, feed_services, ids_of, AreTrips, TripsStand, CallsStand, FeedAccepted, IsFeedRefusal}
use Rattle.gtfs_feed.specs.KeptCalls.{rows_in}
use Rattle.gtfs_feed.specs.Services.{OptionAccepted, OptionRefused}
use Rattle.gtfs_feed.specs.Stops.{stop_columns, stop_ids, stop_numbers}
use Rattle.gtfs_feed.specs.StopTables.{IsStopTableOf}
use Rattle.gtfs_feed.specs.Table.{Refuses}
use Rattle.gtfs_feed.specs.TripRules.{IsFinished, StopTimesAccepted, IsStopTimesRefusal}
use Rattle.gtfs_feed.specs.Trips.{bare_trips}
use Rattle.gtfs_feed.proofs.RefuseLemmas.{weaker}

-- the rows of a table of stops
pub rows-are : (files : FeedBytes) (table : StopTable) → IsStopTableOf (stop_columns (header_of files.stops.now)) (rows_of files.stops.now) table → rows_in table ≡ stop_rows files
unfolding stop_ids stop_numbers
rows-are files table t = rw (t.names, t.numbers) refl

pub trips-are : (files : FeedBytes) (stops : StopRows) (services ids : List (List ℕ)) (old new : List FeedTrip) → stops ≡ stop_rows files → services ≡ names_in (feed_services files)
    → ids ≡ ids_of files → old ≡ bare_trips services files.trips.now → length new ≡ length old
    → ((k : ℕ) (d : FeedTrip) → k < length old → IsFinished (trip_calls stops ids files.stop_times.now k) (get_or old k d) (get_or new k d)) → AreTrips files new
trips-are files stops services ids old new rows served named bare long each =
    let were : old ≡ bare_trips (names_in (feed_services files)) files.trips.now = bare ∙ ap (λ (names : List (List ℕ)). bare_trips names files.trips.now) served in
    record {
      long = long ∙ ap length were;
      each = λ k d lt. rw (rows, named, were) at (each k d (omega (arith, long)));
    }

pub calls-stand : (files : FeedBytes) (stops : StopRows) (ids : List (List ℕ)) → stops ≡ stop_rows files → ids ≡ ids_of files → TripsStand files
    → StopTimesAccepted stops ids files.stop_times.now → CallsStand files
calls-stand files stops ids rows named before calls = record { before = before; calls = rw (rows, named) at calls }

pub all-stand : (files : FeedBytes) (ids : List (List ℕ)) (trips : List FeedTrip) → ids ≡ ids_of files → CallsStand files → AreTrips files trips
    → OptionAccepted files.frequencies (CopiesAccepted ids trips) → FeedAccepted files
all-stand files ids trips named before are copies = record { before = before; trips = trips; are = are; copies = rw named at copies }

pub by-calls : (files : FeedBytes) (stops : StopRows) (ids : List (List ℕ)) (stop : Stopped) → stops ≡ stop_rows files → ids ≡ ids_of files → TripsStand files
    → Refuses stop (λ file row because. (file ≡ file_kind.StopTimes) × IsStopTimesRefusal stops ids files.stop_times.now row because) → Refuses stop (IsFeedRefusal files)
by-calls files stops ids stop rows named before h =
    weaker stop (λ file row because. (file ≡ file_kind.StopTimes) × IsStopTimesRefusal stops ids files.stop_times.now row because) (IsFeedRefusal files) h
    (λ file row because p. inr (inr (inr (inl (before, p.0, (rw (rows, named) at p.1))))))

pub by-copies : (files : FeedBytes) (ids : List (List ℕ)) (trips : List FeedTrip) (stop : Stopped) → ids ≡ ids_of files → CallsStand files → AreTrips files trips
    → Refuses stop (λ file row because. (file ≡ file_kind.Frequencies) × OptionRefused files.frequencies (λ bytes. IsCopiesRefusal ids trips bytes row because))
    → Refuses stop (IsFeedRefusal files)
by-copies files ids trips stop named before are h =
    weaker stop (λ file row because. (file ≡ file_kind.Frequencies) × OptionRefused files.frequencies (λ bytes. IsCopiesRefusal ids trips bytes row because)) (IsFeedRefusal files) h
    (λ file row because p. inr (inr (inr (inr (before, p.0, record { trips = trips; are = are; refused = rw named at p.1 })))))
