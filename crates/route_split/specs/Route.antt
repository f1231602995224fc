-- One route, as contracts see it.
--     Route                      the places of its calls, its trips, and its seconds, call by call, trips side by side
--     arrivals_of route k        the arrivals of its trips at the k-th call
--     departures_of route k      the departures of its trips at the k-th call
--     NeverFalls row             no entry is less than one before it
--     IsRoute stops route        the route is whole: its stops exist, and no second falls from a trip to the next
use Rattle.std.specs.Prelude.{◌≡◌, ℕ, ◌+◌, ◌-◌, ◌*◌, ◌<◌, ◌≤◌, ◌^◌, List, length, slice_range, slice_index, All}
use Rattle.move_model.specs.declared.network.TripNo.{TripNo}
use Rattle.route_split.specs.declared.place.Place.{Place}

pub record Route : Type 0 where
  pub places : List Place
  pub trips : List TripNo
  pub seconds : List ℕ

unfoldable pub arrivals_of : Route → ℕ → List ℕ
arrivals_of route k = slice_range route.seconds (2 * k * length route.trips) (2 * k * length route.trips + length route.trips)

unfoldable pub departures_of : Route → ℕ → List ℕ
departures_of route k = slice_range route.seconds ((2 * k + 1) * length route.trips) ((2 * k + 1) * length route.trips + length route.trips)

abbrev pub NeverFalls : List ℕ → Type 0
NeverFalls row = (p q : ℕ) → p ≤ q → q < length row → slice_index row p ≤ slice_index row q

pub record IsRoute (stops : ℕ) (route : Route) : Type 0 where
  pub full : length route.seconds ≡ 2 * length route.places * length route.trips
  pub in_time : All (λ second. second < 2 ^ 32 - 1) route.seconds
  pub few_calls : length route.places < 2 ^ 32
  pub few_trips : length route.trips < 2 ^ 32
  pub at_stops : All (λ place. place.stop.0 < stops) route.places
  pub arrive_in_order : (k : ℕ) → k < length route.places → NeverFalls (arrivals_of route k)
  pub depart_in_order : (k : ℕ) → k < length route.places → NeverFalls (departures_of route k)
