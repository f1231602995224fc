-- Routes in chains, by a number of their places.
--     next_key key place         the number of a list of places, from that of all but the last
--     bucket_of trips size t     the chain in which a route of the trip t stands
--     AreChains key ..           of the routes with one number each leads to the latest before it, and `tops` to the latest
--     AreChained trips ..        the same, by the last trip of each route
--     IsSoFar trips .. n         the routes of the first n trips, their last trips, and their chains
use Rattle.std.specs.Prelude.{◌≡◌, ℕ, ◌+◌, ◌-◌, ◌*◌, ◌/◌, ◌%◌, ◌^◌, ◌<◌, ◌≤◌, List, length, slice_index, bit_xor}
use Rattle.std.specs.List.{fold}
use Rattle.move_model.specs.declared.network.Trip.{Trip}
use Rattle.move_model.specs.declared.network.Call.{Call}
use Rattle.route_split.specs.declared.place.Place.{Place}
use Rattle.route_split.specs.Routes.{place_of}
use Rattle.route_split.specs.Split.{IsSplit, AreLasts}
use Rattle.route_split.specs.Fill.{trip_at}

unfoldable pub next_key : ℕ → Place → ℕ
next_key key place = ((bit_xor key (key / 2 ^ 29) * 11400714819323198485) % 2 ^ 64 + place.stop.0) % 2 ^ 64

abbrev pub key_of : List Call → ℕ
key_of calls = fold (λ key call. next_key key (place_of call)) 0 calls

abbrev pub bucket_of : List Trip → ℕ → ℕ → ℕ
bucket_of trips size t = key_of (trip_at trips t).calls % size

-- links count from 1, and 0 leads nowhere
pub record AreChains (key : ℕ → ℕ) (count : ℕ) (tops nexts : List ℕ) : Type 0 where
  pub one_each : length nexts ≡ count
  pub top_low : (b : ℕ) → b < length tops → slice_index tops b ≤ count
  pub top_in : (b : ℕ) → b < length tops → 0 < slice_index tops b → key (slice_index tops b - 1) ≡ b
  pub next_low : (h : ℕ) → h < count → slice_index nexts h ≤ h
  pub next_in : (h : ℕ) → h < count → 0 < slice_index nexts h → key (slice_index nexts h - 1) ≡ key h
  pub newest : (g : ℕ) → g < count → g < slice_index tops (key g)
  pub next : (g h : ℕ) → g < h → h < count → key g ≡ key h → g < slice_index nexts h

-- a route's number is that of its last trip
abbrev pub AreChained : List Trip → List ℕ → List ℕ → List ℕ → Type 0
AreChained trips lasts tops nexts = AreChains (λ g. bucket_of trips (length tops) (slice_index lasts g)) (length lasts) tops nexts

-- the routes of the first n trips, their last trips, and their chains
pub record IsSoFar (trips : List Trip) (routes lasts tops nexts : List ℕ) (n : ℕ) : Type 0 where
  pub split : IsSplit trips routes n (length lasts)
  pub ends : AreLasts routes lasts n
  pub few : length lasts ≤ n
  pub some : 0 < length tops
  pub chained : AreChained trips lasts tops nexts
