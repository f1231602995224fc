-- The entries of a value that keeps the rules have a form.
use Rattle.std.proofs.Common.{◌≡◌, ℕ, ◌+◌, ◌-◌, ◌^◌, ◌<◌, ◌≤◌, List, [], ◌∷◌, length, All, arith}
use Rattle.std.specs.Prelude.{sum_by}
use Rattle.std.specs.List.{AllByRecursion}
use Rattle.std.proofs.lemmas.List.Elements.{All-from_recursion}
use Rattle.std.proofs.lemmas.List.Sums.{sum_by-cons}
use Rattle.move_model.specs.declared.network.Network.{Network}
use Rattle.move_model.specs.declared.network.Stop.{Stop}
use Rattle.move_model.specs.declared.network.Trip.{Trip}
use Rattle.network_codec.specs.Rules.{AreStops, AreTrips}

pub stops_fit : (n : Network) → AreStops n → All (λ stop. length stop.name < 256) n.stops
stops_fit n are = λ k d lt. omega (arith, (are.named k d lt).few)

abbrev calls_of : Trip → ℕ
calls_of trip = length trip.calls

few_each : (trips : List Trip) (limit : ℕ) → sum_by (λ trip. length trip.calls) trips ≤ limit → AllByRecursion (λ trip. length trip.calls ≤ limit) trips
few_each [] limit few = tt
few_each (trip ∷ trips) limit few =
    let parts = sum_by-cons calls_of trip trips in
    (omega (arith, parts), few_each trips limit (omega (arith, parts)))

pub few_each_at : (trips : List Trip) (limit : ℕ) → sum_by (λ trip. length trip.calls) trips ≤ limit → All (λ trip. length trip.calls ≤ limit) trips
few_each_at trips limit few = All-from_recursion (λ (trip : Trip). length trip.calls ≤ limit) trips (few_each trips limit few)

pub trips_fit : (n : Network) → AreTrips n → All (λ trip. (length trip.name < 256) × (length trip.calls < 2 ^ 32)) n.trips
trips_fit n are = λ k d lt.
    let calls = All-from_recursion (λ (trip : Trip). length trip.calls ≤ 20000000) n.trips (few_each n.trips 20000000 are.few_calls) in
    (omega (arith, (are.named k d lt).few), omega (arith, calls k d lt))
