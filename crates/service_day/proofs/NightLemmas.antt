-- What is left of a trip of the day before.
use Rattle.std.proofs.Common.{◌≡◌, ℕ, ◌+◌, ◌-◌, ◌<◌, ◌≤◌, Bool, true, false, cond, not, nat_lt, List, [], ◌∷◌, length, get_or, drop, ap, ◌∙◌, arith}
use Rattle.std.specs.Prelude.{map, filter, nat_le}
use Rattle.std.specs.List.Sorted.{IsPartitionPoint, IsPartitionedBy, IsNonDecreasingBy}
use Rattle.std.proofs.lemmas.Bool.Decides.{nat_tests}
use Rattle.std.proofs.lemmas.Simd.{map-map}
use Rattle.move_model.specs.declared.network.Call.{Call}
use Rattle.move_model.specs.declared.network.Trip.{Trip}
use Rattle.service_day.specs.DayTrips.{after_midnight, night_trip, night_trips, midnight}
use Rattle.service_day.specs.declared.shift.Shift.{Shift}
use Rattle.service_day.specs.Shift.{shifted, shifted_call}
use Rattle.service_day.specs.declared.departure.Departure.{Departure}
use Rattle.service_day.specs.Departure.{trip_of}
use Rattle.service_day.proofs.ListLemmas.{map-same, map-agree, filter-map, filter_from}

-- the trip of a departure from its parts
pub trip_of-parts : (departure : Departure) (name : List ℕ) (shift : Shift) (calls : List Call) → departure.name.now ≡ name → departure.shift ≡ shift → departure.calls.now ≡ calls
    → trip_of departure ≡ record { name = name; calls = map (shifted_call shift) calls }
trip_of-parts departure name shift calls named moved called = λ i. record { name = named i; calls = map (shifted_call (moved i)) (called i) }

-- with nothing moved, the calls are those of the feed
pub unmoved : (calls : List Call) → map (λ (call : Call). record call { arr = 0 + (call.arr - 0) - 0; dep = 0 + (call.dep - 0) - 0 }) calls ≡ calls
unmoved calls = map-same _ (λ call. λ i. record call { arr = same call.arr i; dep = same call.dep i }) calls
  where
    same : (x : ℕ) → 0 + (x - 0) - 0 ≡ x
    same x = omega arith

-- a call is kept where its departure is not before midnight
late : (second : ℕ) (b : Bool) → nat_lt second midnight ≡ b → nat_le midnight second ≡ not b
late second true h = grind (arith, nat_tests)
late second false h = grind (arith, nat_tests)

-- whether a call departs before midnight
abbrev pub is_early : Shift → Call → Bool
is_early shift call = nat_lt (shifted shift call.dep) midnight

pub night_calls : (shift : Shift) (calls : List Call) (i : ℕ) → shift.cut ≡ 0
    → IsPartitionPoint (λ call. is_early shift call ≡ true) (λ call. is_early shift call ≡ false) calls i
    → map after_midnight (filter (λ call. nat_le midnight call.dep) (map (shifted_call shift) calls)) ≡ map (shifted_call (record shift { cut = midnight })) (drop i calls)
night_calls shift calls i uncut h =
    let kept = filter_from (λ (call : Call). nat_le midnight (shifted shift call.dep)) calls i
    (λ k x low high. late _ true (h.0 k x low high)) (λ k x low high. late _ false (h.1 k x low high)) in
    ap (map after_midnight) (filter-map (λ call. nat_le midnight call.dep) (shifted_call shift) calls ∙ ap (map (shifted_call shift)) kept)
    ∙ map-map after_midnight (shifted_call shift) (drop i calls)
    ∙ map-agree {X = Call} {Y = Call} (λ call. after_midnight (shifted_call shift call)) (shifted_call (record shift { cut = midnight })) (λ call. λ i. record call { arr = cut call.arr i; dep = cut call.dep i }) (drop i calls)
  where
    cut : (x : ℕ) → shifted shift x - midnight ≡ shifted (record shift { cut = midnight }) x
    cut x = rw uncut (omega arith)

-- calls by rising departures are early up to a place, and late from there on
pub parted : (shift : Shift) (calls : List Call) → IsNonDecreasingBy (λ (call : Call). call.dep) calls → IsPartitionedBy (is_early shift) calls
parted shift calls rising i j x low high early =
    let order : (get_or calls i x).dep ≤ (get_or calls j x).dep = rising i j x low high in
    earlier (get_or calls i x).dep (get_or calls j x).dep order early
  where
    earlier : (a b : ℕ) → a ≤ b → nat_lt (shifted shift b) midnight ≡ true → nat_lt (shifted shift a) midnight ≡ true
    earlier a b h e = grind (arith, nat_tests)

pub night-none : (trip : Trip) → length (night_trip trip).calls < 2 → night_trips (trip ∷ []) ≡ []
night-none trip h = by (length (night_trip trip).calls) h
  where
    by : (n : ℕ) → n < 2 → cond (nat_le 2 n) (night_trip trip ∷ []) [] ≡ []
    by n h = grind (arith, nat_tests)

pub night-one : (trip : Trip) → 2 ≤ length (night_trip trip).calls → night_trips (trip ∷ []) ≡ night_trip trip ∷ []
night-one trip h = by (length (night_trip trip).calls) h
  where
    by : (n : ℕ) → 2 ≤ n → cond (nat_le 2 n) (night_trip trip ∷ []) [] ≡ night_trip trip ∷ []
    by n h = grind (arith, nat_tests)
