-- The trips of a day.
--     starts row                      the second of each copy of a row: start, start + headway and so on, before end
--     copy_at trip second             the trip, moved to leave its first stop at the second
--     gives rows trip                 what a trip gives where it runs: its copies, or itself where no row names it
--     trips_of_date feed set          the trips of a date on which the services of the set run
--     night_trip trip                 the calls of a trip from 24:00 on, as calls of the day after
--     night_trips trips               the night trips that trips of the day before give
--     day_trips feed today before     the trips of the date, and then the night trips
--     refusal_of trips                why so many trips are refused, or None
--     IsRefusal trips stop            the stop is want of memory or this refusal
--     IsDayTrip stops trip            two calls or more at these stops, whose seconds never fall nor pass 999:59:59
use Rattle.std.specs.Prelude.{◌≡◌, ℕ, zero, suc, ◌+◌, ◌-◌, ◌<◌, ◌≤◌, ◌==◌, ◌&&◌, Bool, false, nat_lt, nat_le, if◌then◌else◌, List, [], ◌∷◌, ◌++◌, length, filter, map, sum_by, slice_get, unwrap_or, All, Option, Some, None}
use Rattle.std.specs.List.{AllAdjacentBelow, flat_map, enumerate_from}
use Rattle.move_model.specs.declared.network.Call.{Call}
use Rattle.move_model.specs.declared.network.Trip.{Trip}
use Rattle.move_model.specs.declared.refusal.FileKind.{FileKind}
use Rattle.move_model.specs.declared.refusal.FileKind.TheVariants.{Trips, StopTimes}
use Rattle.move_model.specs.declared.refusal.Cause.TheVariants.{Limit}
use Rattle.move_model.specs.declared.refusal.Refusal.{Refusal}
use Rattle.move_model.specs.declared.refusal.Stopped.{Stopped}
use Rattle.move_model.specs.declared.refusal.Stopped.TheVariants.{Refused, NoMemory}
use Rattle.gtfs_feed.specs.declared.feed.Feed.{Feed}
use Rattle.gtfs_feed.specs.declared.feed.FeedTrip.{FeedTrip}
use Rattle.gtfs_feed.specs.declared.feed.CopyRow.{CopyRow}
use Rattle.gtfs_feed.specs.Feed.{first_departure, last_second}

-- so many seconds, one headway apart
unfoldable pub seconds_from : ℕ → ℕ → ℕ → List ℕ
seconds_from headway second zero = []
seconds_from headway second (suc turns) = second ∷ seconds_from headway (second + headway) turns

-- those before the end: a headway is 1 or more, so there are no more of them than the end has seconds
unfoldable pub starts_from : ℕ → ℕ → ℕ → List ℕ
starts_from headway second end = filter (λ start. nat_lt start end) (seconds_from headway second end)

abbrev pub starts : CopyRow → List ℕ
starts row = starts_from row.headway row.start row.end

-- the seconds of a call, counted from the trip's first departure on; `-` stops at 0, so a copy arrives where it starts
abbrev pub moved : ℕ → ℕ → Call → Call
moved first second call = record call { arr = second + (call.arr - first); dep = second + (call.dep - first) }

abbrev pub copy_at : FeedTrip → ℕ → Trip
copy_at trip second = record { name = trip.name; calls = map (moved (first_departure trip.calls) second) trip.calls }

abbrev pub copies : FeedTrip → CopyRow → List Trip
copies trip row = map (copy_at trip) (starts row)

abbrev pub itself : FeedTrip → Trip
itself trip = record { name = trip.name; calls = trip.calls }

-- a trip that no row names gives itself
abbrev pub gives : List CopyRow → FeedTrip → List Trip
gives [] trip = itself trip ∷ []
gives (row ∷ rows) trip = flat_map (copies trip) (row ∷ rows)

abbrev pub rows_of : ℕ → List CopyRow → List CopyRow
rows_of place rows = filter (λ row. row.trip == place) rows

abbrev pub is_served : List Bool → Option ℕ → Bool
is_served set None = false
is_served set (Some service) = unwrap_or (slice_get set service) false

-- the trip's service runs, and it has calls
abbrev pub runs : List Bool → FeedTrip → Bool
runs set trip = is_served set trip.service && nat_le 2 (length trip.calls)

abbrev pub trips_at : List CopyRow → List Bool → ℕ × FeedTrip → List Trip
trips_at rows set (place, trip) = if runs set trip then gives (rows_of place rows) trip else []

-- in the order of trips.txt, then of frequencies.txt, then of the starts
abbrev pub trips_of_date : Feed → List Bool → List Trip
trips_of_date feed set = flat_map (trips_at feed.copies set) (enumerate_from 0 feed.trips)

abbrev pub midnight : ℕ
midnight = 86400

-- an arrival before midnight is cut to it
abbrev pub after_midnight : Call → Call
after_midnight call = record call { arr = call.arr - midnight; dep = call.dep - midnight }

abbrev pub night_trip : Trip → Trip
night_trip trip = record { name = trip.name; calls = map after_midnight (filter (λ call. nat_le midnight call.dep) trip.calls) }

-- those with two calls or more
abbrev pub night_trips : List Trip → List Trip
night_trips trips = filter (λ trip. nat_le 2 (length trip.calls)) (map night_trip trips)

abbrev pub day_trips : Feed → List Bool → List Bool → List Trip
day_trips feed today before = trips_of_date feed today ++ night_trips (trips_of_date feed before)

abbrev pub call_count : List Trip → ℕ
call_count trips = sum_by (λ trip. length trip.calls) trips

abbrev pub above : FileKind → ℕ → Refusal
above file count = record { file = file; row = 0; cause = Limit count }

abbrev pub most_trips : ℕ
most_trips = 2000000

abbrev pub most_calls : ℕ
most_calls = 20000000

-- more trips than the most, or else more calls than the most
abbrev pub refusal_of : List Trip → Option Refusal
refusal_of trips =
    if nat_lt most_trips (length trips) then Some (above Trips (length trips))
    else (if nat_lt most_calls (call_count trips) then Some (above StopTimes (call_count trips)) else None)

-- want of memory, or the refusal of the trips
abbrev pub IsRefusal : List Trip → Stopped → Type 0
IsRefusal trips (Refused refusal) = refusal_of trips ≡ Some refusal
IsRefusal trips NoMemory = Unit {0}

-- no departure before the arrival, nor after the last second of a time
pub record IsTimed (call : Call) : Type 0 where
  pub stays : call.arr ≤ call.dep
  pub in_time : call.dep ≤ last_second

pub record IsDayTrip (stops : ℕ) (trip : Trip) : Type 0 where
  pub two_calls : 2 ≤ length trip.calls
  pub at_stops : All (λ call. call.stop.0 < stops) trip.calls
  pub timed : All IsTimed trip.calls
  pub goes_on : AllAdjacentBelow (λ call next. call.dep ≤ next.arr) trip.calls (length trip.calls)
