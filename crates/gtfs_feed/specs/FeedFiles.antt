-- The files of a feed.
--     FeedAccepted files                    no rule of any file is broken
--     IsFeedOf files feed                   the feed that accepted files hold
--     IsFeedRefusal files file row cause    the first rule that is broken, in the order stops.txt, calendar.txt, calendar_dates.txt, trips.txt,
--                                           stop_times.txt by row and then by trip, frequencies.txt
use Rattle.std.specs.Prelude.{◌≡◌, ℕ, ◌<◌, ◌⊎◌, List, length, slice_index_or}
use Rattle.move_model.specs.declared.refusal.Cause.{Cause}
use Rattle.move_model.specs.declared.refusal.FileKind.{FileKind}
use Rattle.move_model.specs.declared.refusal.FileKind.TheVariants as file_kind
use Rattle.gtfs_feed.specs.declared.feed.Feed.{Feed}
use Rattle.gtfs_feed.specs.declared.feed.FeedBytes.{FeedBytes}
use Rattle.gtfs_feed.specs.declared.feed.FeedTrip.{FeedTrip}
use Rattle.gtfs_feed.specs.declared.feed.Service.{Service}
use Rattle.gtfs_feed.specs.Calls.{StopRows, trip_calls}
use Rattle.gtfs_feed.specs.Copies.{copies_in, CopiesAccepted, IsCopiesRefusal}
use Rattle.gtfs_feed.specs.Dates.{names_in}
use Rattle.gtfs_feed.specs.Services.{services_of, OptionAccepted, OptionRefused, ServicesAccepted, IsServicesRefusal}
use Rattle.gtfs_feed.specs.Stops.{stop_ids, stop_numbers, feed_stops, StopsAccepted, IsStopsRefusal}
use Rattle.gtfs_feed.specs.TripRules.{IsFinished, StopTimesAccepted, IsStopTimesRefusal}
use Rattle.gtfs_feed.specs.Trips.{trip_ids, bare_trips, TripsAccepted, IsTripsRefusal}

abbrev pub stop_rows : FeedBytes → StopRows
stop_rows files = record { ids = stop_ids files.stops.now; numbers = stop_numbers files.stops.now }

abbrev pub feed_services : FeedBytes → List Service
feed_services files = services_of files.calendar files.dates

abbrev pub ids_of : FeedBytes → List (List ℕ)
ids_of files = trip_ids files.trips.now

-- the trips in the order of trips.txt, with their calls
pub record AreTrips (files : FeedBytes) (trips : List FeedTrip) : Type 0 where
  pub long : length trips ≡ length (bare_trips (names_in (feed_services files)) files.trips.now)
  pub each : (k : ℕ) (d : FeedTrip) → k < length trips
      → IsFinished (trip_calls (stop_rows files) (ids_of files) files.stop_times.now k)
      (slice_index_or (bare_trips (names_in (feed_services files)) files.trips.now) k d) (slice_index_or trips k d)

pub record IsFeedOf (files : FeedBytes) (feed : Feed) : Type 0 where
  pub stops : feed.stops ≡ feed_stops files.stops.now
  pub services : feed.services ≡ feed_services files
  pub trips : AreTrips files feed.trips
  pub copies : feed.copies ≡ copies_in (ids_of files) files.frequencies

-- the files before frequencies.txt, one after the other
pub record TripsStand (files : FeedBytes) : Type 0 where
  pub stops : StopsAccepted files.stops.now
  pub services : ServicesAccepted files.calendar files.dates
  pub trips : TripsAccepted files.trips.now

pub record CallsStand (files : FeedBytes) : Type 0 where
  pub before : TripsStand files
  pub calls : StopTimesAccepted (stop_rows files) (ids_of files) files.stop_times.now

pub record FeedAccepted (files : FeedBytes) : Type 0 where
  pub before : CallsStand files
  pub trips : List FeedTrip
  pub are : AreTrips files trips
  pub copies : OptionAccepted files.frequencies (CopiesAccepted (ids_of files) trips)

-- frequencies.txt is refused for the trips
pub record IsFrequencyRefusal (files : FeedBytes) (row : ℕ) (because : Cause) : Type 0 where
  pub trips : List FeedTrip
  pub are : AreTrips files trips
  pub refused : OptionRefused files.frequencies (λ bytes. IsCopiesRefusal (ids_of files) trips bytes row because)

abbrev pub IsFeedRefusal : FeedBytes → FileKind → ℕ → Cause → Type 0
IsFeedRefusal files file row because =
    ((file ≡ file_kind.Stops) × IsStopsRefusal files.stops.now row because)
    ⊎ (StopsAccepted files.stops.now × IsServicesRefusal files.calendar files.dates file row because)
    ⊎ (StopsAccepted files.stops.now × ServicesAccepted files.calendar files.dates × (file ≡ file_kind.Trips) × IsTripsRefusal files.trips.now row because)
    ⊎ (TripsStand files × (file ≡ file_kind.StopTimes) × IsStopTimesRefusal (stop_rows files) (ids_of files) files.stop_times.now row because)
    ⊎ (CallsStand files × (file ≡ file_kind.Frequencies) × IsFrequencyRefusal files row because)
