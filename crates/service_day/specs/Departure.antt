-- Departures: trips of a day whose calls still stand in the feed.
--     trip_of departure     the trip that it stands for
--     taken night trips     the trips themselves, or the night trips that they give
--     IsEarliest night trip second     a copy of the trip gives a trip exactly where it leaves at the second or later
use Rattle.std.specs.Prelude.{◌≡◌, ℕ, ◌<◌, ◌≤◌, Bool, true, false, List, [], ◌∷◌, length, map}
use Rattle.move_model.specs.declared.network.Trip.{Trip}
use Rattle.gtfs_feed.specs.declared.feed.FeedTrip.{FeedTrip}
use Rattle.service_day.specs.DayTrips.{copy_at, night_trips}
use Rattle.service_day.specs.Shift.{shifted_call}
use Rattle.service_day.specs.declared.departure.Departure.{Departure}

abbrev pub trip_of : Departure → Trip
trip_of departure = record { name = departure.name.now; calls = map (shifted_call departure.shift) departure.calls.now }

abbrev pub taken : Bool → List Trip → List Trip
taken false trips = trips
taken true trips = night_trips trips

pub record IsEarliest (night : Bool) (trip : FeedTrip) (earliest : ℕ) : Type 0 where
  pub kept : (second : ℕ) → earliest ≤ second → length (taken night (copy_at trip second ∷ [])) ≡ 1
  pub dropped : (second : ℕ) → second < earliest → taken night (copy_at trip second ∷ []) ≡ []
