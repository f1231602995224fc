-- The seconds of a route.
use Rattle.std.proofs.Common.{◌≡◌, ℕ, ◌+◌, ◌-◌, ◌*◌, ◌^◌, ◌<◌, ◌≤◌, inl, inr, List, length, get_or, drop, subst, sym, arith, Some}
use Rattle.std.specs.Prelude.{All, slice_index, slice_get}
use Rattle.std.proofs.lemmas.List.{get_or_past, length-take-le}
use Rattle.std.proofs.Common.{length-drop}
use Rattle.std.proofs.Math.Nat.{mul-le-mul_left}
use Rattle.std.proofs.lemmas.List.Elements.{All-get_or, All-take, All-drop}
use Rattle.std.proofs.lemmas.Bool.{cases_lt}
use Rattle.std.proofs.lemmas.Option.{slice_get_within, get_or_from_slice_get}
use Rattle.route_split.specs.declared.place.Place.{Place}
use Rattle.route_split.specs.Route.{Route, IsRoute, arrivals_of, departures_of}

below : (xs : List ℕ) (p b : ℕ) → 0 < b → All (λ x. x < b) xs → get_or xs p 0 < b
below xs p b pos all = elim (cases_lt p (length xs)) [
  | inl lt ↦ All-get_or (λ x. x < b) xs p 0 lt all
  | inr ge ↦ subst (λ x. x < b) (sym (get_or_past xs p 0 ge)) pos
]

pub departs_before : (stops : ℕ) (route : Route) (k p : ℕ) → IsRoute stops route → slice_index (departures_of route k) p < 2 ^ 32 - 1
unfolding departures_of
departs_before stops route k p is = below _ p (2 ^ 32 - 1) (omega arith) (All-take (λ x. x < 2 ^ 32 - 1) _ _ (All-drop (λ x. x < 2 ^ 32 - 1) _ _ is.in_time))

pub arrives_before : (stops : ℕ) (route : Route) (k p : ℕ) → IsRoute stops route → slice_index (arrivals_of route k) p < 2 ^ 32 - 1
unfolding arrivals_of
arrives_before stops route k p is = below _ p (2 ^ 32 - 1) (omega arith) (All-take (λ x. x < 2 ^ 32 - 1) _ _ (All-drop (λ x. x < 2 ^ 32 - 1) _ _ is.in_time))

-- a place's stop exists
pub stop_within : (stops : ℕ) (route : Route) (k : ℕ) (place : Place) → IsRoute stops route → slice_get route.places k ≡ Some place → place.stop.0 < stops
stop_within stops route k place is at =
    subst (λ (v : Place). v.stop.0 < stops) (get_or_from_slice_get route.places k place place at)
    (All-get_or (λ (v : Place). v.stop.0 < stops) route.places k place (slice_get_within route.places k place at) is.at_stops)

-- as many arrivals at a call as trips
pub arrivals_length : (stops : ℕ) (route : Route) → IsRoute stops route → (k : ℕ) → k < length route.places → length (arrivals_of route k) ≡ length route.trips
unfolding arrivals_of
arrivals_length stops route is k within =
    let t : ℕ = length route.trips in
    let at : ℕ = 2 * k * t in
    let room : at + t ≤ length route.seconds = omega (arith, mul-le-mul_left t (within_of k (length route.places) within), is.full) in
    omega (arith, length-take-le (at + t - at) (drop at route.seconds) (simp length-drop (omega arith)))
  where
    within_of : (k n : ℕ) → k < n → 2 * k + 1 ≤ 2 * n
    within_of k n h = omega arith
