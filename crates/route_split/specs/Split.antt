-- A number for each trip, the number of its route.
--     CanFollow cs ds               the lists have the same places, and no second of the first is after that of the second
--     CanStand trips t u            the trip u can stand behind the trip t in a route
--     HasObstacle trips routes ..   a trip of the one route, and a later one of the other that can't stand behind it
--     IsSplit trips routes n count  the first n trips have numbers below count, which are those of routes
--     AreLasts routes lasts n       the last trip of each route
use Rattle.std.specs.Prelude.{◌≡◌, ℕ, ◌<◌, ◌≤◌, List, length, slice_get, slice_index, Some}
use Rattle.move_model.specs.declared.network.Trip.{Trip}
use Rattle.move_model.specs.declared.network.Call.{Call}
use Rattle.route_split.specs.Routes.{place_of, IsNoLater}

pub record CanFollow (cs ds : List Call) : Type 0 where
  pub as_many : length cs ≡ length ds
  pub same : (k : ℕ) (c d : Call) → slice_get cs k ≡ Some c → slice_get ds k ≡ Some d → place_of c ≡ place_of d
  pub no_later : IsNoLater cs ds

abbrev pub CanStand : List Trip → ℕ → ℕ → Type 0
CanStand trips t u = (a b : Trip) → slice_get trips t ≡ Some a → slice_get trips u ≡ Some b → CanFollow a.calls b.calls

abbrev pub CannotStand : List Trip → ℕ → ℕ → Type 0
CannotStand trips t u = (a b : Trip) → slice_get trips t ≡ Some a → slice_get trips u ≡ Some b → CanFollow a.calls b.calls → ⊥

pub record HasObstacle (trips : List Trip) (routes : List ℕ) (n g h : ℕ) : Type 0 where
  pub t : ℕ
  pub u : ℕ
  pub before : t < u
  pub within : u < n
  pub t_in : slice_index routes t ≡ g
  pub u_in : slice_index routes u ≡ h
  pub cannot : CannotStand trips t u

pub record IsSplit (trips : List Trip) (routes : List ℕ) (n count : ℕ) : Type 0 where
  pub one_each : length routes ≡ n
  pub below : (t : ℕ) → t < n → slice_index routes t < count
  pub alike : (t u : ℕ) → t < u → u < n → slice_index routes t ≡ slice_index routes u → CanStand trips t u
  pub apart : (g h : ℕ) → g < h → h < count → HasObstacle trips routes n g h

pub record AreLasts (routes lasts : List ℕ) (n : ℕ) : Type 0 where
  pub within : (g : ℕ) → g < length lasts → slice_index lasts g < n
  pub in_route : (g : ℕ) → g < length lasts → slice_index routes (slice_index lasts g) ≡ g
  pub latest : (t : ℕ) → t < n → t ≤ slice_index lasts (slice_index routes t)
