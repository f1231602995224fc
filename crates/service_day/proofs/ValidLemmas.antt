-- The trips of a day are trips over the feed's stops.
use Rattle.std.proofs.Common.{◌≡◌, ℕ, zero, suc, ◌+◌, ◌-◌, ◌*◌, ◌^◌, ◌<◌, ◌≤◌, ◌==◌, ◌&&◌, Bool, true, false, cond, nat_lt, List, [], ◌∷◌, length, get_or, refl, sym, ap, subst, ◌∙◌, arith}
use Rattle.std.specs.Prelude.{map, filter, nat_le, All, AllPairs, slice_get, Some}
use Rattle.std.specs.List.{flat_map, enumerate_from, AllAdjacentBelow}
use Rattle.std.proofs.lemmas.Bool.Decides.{nat_tests}
use Rattle.std.proofs.lemmas.Bool.{leb-true, ltb-true}
use Rattle.std.proofs.lemmas.List.{length-map, get_or-map}
use Rattle.std.proofs.lemmas.List.Elements.{All-head, All-tail, All-cons, All-nil, All-append, All-map, All-filter, All-weaker, filter_passes}
use Rattle.std.proofs.lemmas.List.Kept.{AllPairs-filter}
use Rattle.std.proofs.lemmas.List.FromFn.{length-enumerate_from, get_or-enumerate_from}
use Rattle.std.proofs.lemmas.List.Sorted.{All-permutation}
use Rattle.std.proofs.lemmas.Option.{slice_get-get_or}
use Rattle.move_model.specs.declared.network.Call.{Call}
use Rattle.move_model.specs.declared.network.Trip.{Trip}
use Rattle.gtfs_feed.specs.declared.feed.Feed.{Feed}
use Rattle.gtfs_feed.specs.declared.feed.FeedTrip.{FeedTrip}
use Rattle.gtfs_feed.specs.declared.feed.CopyRow.{CopyRow}
use Rattle.gtfs_feed.specs.Feed.{IsFeed, IsFeedTrip, IsCopyRow, IsCopyStart, first_departure, last_second}
use Rattle.service_day.specs.DayTrips.{seconds_from, starts_from, starts, moved, copies, copy_at, itself, gives, rows_of, runs, is_served, trips_at, trips_of_date, night_trip, night_trips, day_trips, after_midnight, midnight, IsTimed, IsDayTrip}
use Rattle.service_day.specs.Order.{IsNumbered}
use Rattle.service_day.specs.declared.departure.Departure.{Departure}
use Rattle.service_day.specs.Shift.{shifted_call}
use Rattle.service_day.specs.Departure.{trip_of}
use Rattle.service_day.proofs.ListLemmas.{length-filter-le}

-- a trip of the day with fewer calls than numbers of 32 bits
pub record IsGood (stops : ℕ) (trip : Trip) : Type 0 where
  pub trip_of_day : IsDayTrip stops trip
  pub few : length trip.calls < 2 ^ 32

adjacent-map : {X : Type 0} (f : X → X) (R : X → X → Type 0) (xs : List X) → AllAdjacentBelow (λ x y. R (f x) (f y)) xs (length xs) → AllAdjacentBelow R (map f xs) (length (map f xs))
adjacent-map f R xs h k d low =
    let there : k + 1 < length xs = omega (arith, low, length-map xs f) in
    rw (get_or-map f xs k d d (omega arith), get_or-map f xs (k + 1) d d there) (h k d there)

All-flat_map : {X Y : Type 0} (P : Y → Type 0) (f : X → List Y) (xs : List X) → All (λ x. All P (f x)) xs → All P (flat_map f xs)
All-flat_map P f [] h = All-nil P
All-flat_map {X} P f (x ∷ xs) h =
    let Q : X → Type 0 = λ (x : X). All P (f x) in
    All-append P (f x) (flat_map f xs) (All-head Q x xs h) (All-flat_map P f xs (All-tail Q x xs h))

good-itself : (stops services : ℕ) (trip : FeedTrip) → IsFeedTrip stops services trip → 2 ≤ length trip.calls → length trip.calls < 2 ^ 32 → IsGood stops (itself trip)
good-itself stops services trip h two few = record {
  trip_of_day = record {
    two_calls = two;
    at_stops = h.at_stops;
    timed = λ k d low. record { stays = h.stays k d low; in_time = h.in_time k d low };
    goes_on = h.goes_on;
  };
  few = few;
}

good-copy : (stops services : ℕ) (trip : FeedTrip) (second : ℕ) → IsFeedTrip stops services trip → 2 ≤ length trip.calls → length trip.calls < 2 ^ 32
    → All (λ (call : Call). second + (call.dep - first_departure trip.calls) ≤ last_second) trip.calls → IsGood stops (copy_at trip second)
good-copy stops services trip second h two few late =
    let first = first_departure trip.calls in
    let long = length-map trip.calls (moved first second) in
    record {
      trip_of_day = record {
        two_calls = omega (arith, long, two);
        at_stops = All-map (λ (call : Call). call.stop.0 < stops) (moved first second) trip.calls h.at_stops;
        timed = All-map IsTimed (moved first second) trip.calls (λ k d low. record { stays = omega (arith, h.stays k d low); in_time = late k d low });
        goes_on = adjacent-map (moved first second) (λ (call next : Call). call.dep ≤ next.arr) trip.calls (λ k d low. omega (arith, h.goes_on k d low));
      };
      few = omega (arith, long, few);
    }

-- each departure is at or before every later arrival
pairs : (calls : List Call) → All IsTimed calls → AllAdjacentBelow (λ (call next : Call). call.dep ≤ next.arr) calls (length calls)
    → (n i : ℕ) (d : Call) → i + 1 + n < length calls → (get_or calls i d).dep ≤ (get_or calls (i + 1 + n) d).arr
pairs calls timed on zero i d low = rw (sum i) (on i d (omega arith))
  where
    sum : (i : ℕ) → i + 1 + 0 ≡ i + 1
    sum i = omega arith
pairs calls timed on (suc n) i d low =
    let before = pairs calls timed on n i d (omega arith) in
    let stays = (timed (i + 1 + n) d (omega arith)).stays in
    let next = on (i + 1 + n) d (omega arith) in
    rw (sum i n) (omega (arith, before, stays, next))
  where
    sum : (i n : ℕ) → i + 1 + suc n ≡ i + 1 + n + 1
    sum i n = omega arith

all-pairs : (calls : List Call) → All IsTimed calls → AllAdjacentBelow (λ (call next : Call). call.dep ≤ next.arr) calls (length calls)
    → AllPairs (λ (call next : Call). call.dep ≤ next.arr) calls
all-pairs calls timed on i j d lt low = by (j - (i + 1)) (omega arith)
  where
    by : (n : ℕ) → i + 1 + n ≡ j → (get_or calls i d).dep ≤ (get_or calls j d).arr
    by n e = rw (← e) (pairs calls timed on n i d (omega arith))

good-night : (stops : ℕ) (trip : Trip) → IsGood stops trip → 2 ≤ length (night_trip trip).calls → IsGood stops (night_trip trip)
good-night stops trip h two =
    let kept = filter (λ (call : Call). nat_le midnight call.dep) trip.calls in
    let day = h.trip_of_day in
    let apart = AllPairs-filter (λ (call next : Call). call.dep ≤ next.arr) (λ (call : Call). nat_le midnight call.dep) trip.calls (all-pairs trip.calls day.timed day.goes_on) in
    let timed = All-filter (λ (call : Call). nat_le midnight call.dep) IsTimed trip.calls day.timed in
    record {
      trip_of_day = record {
        two_calls = two;
        at_stops = All-map (λ (call : Call). call.stop.0 < stops) after_midnight kept (All-filter (λ (call : Call). nat_le midnight call.dep) (λ (call : Call). call.stop.0 < stops) trip.calls day.at_stops);
        timed = All-map IsTimed after_midnight kept (λ k d low. record { stays = omega (arith, (timed k d low).stays); in_time = omega (arith, (timed k d low).in_time) });
        goes_on = adjacent-map after_midnight (λ (call next : Call). call.dep ≤ next.arr) kept (λ k d low. omega (arith, apart k (k + 1) d (omega arith) low));
      };
      few = omega (arith, h.few, length-map kept after_midnight, length-filter-le (λ (call : Call). nat_le midnight call.dep) trip.calls);
    }

-- the starts of a row are what its copies leave at
copy_starts : (row : CopyRow) (turns turn : ℕ) → All (λ second. second < row.end → IsCopyStart row second) (seconds_from row.headway (row.start + turn * row.headway) turns)
unfolding seconds_from
copy_starts row zero turn = All-nil (λ second. second < row.end → IsCopyStart row second)
copy_starts row (suc turns) turn =
    let next : row.start + turn * row.headway + row.headway ≡ row.start + (turn + 1) * row.headway = omega arith in
    All-cons (λ second. second < row.end → IsCopyStart row second) _ _ (λ low. record { turn = turn; leaves = refl; before_end = low }) (rw next (copy_starts row turns (turn + 1)))

all_starts : (row : CopyRow) → All (IsCopyStart row) (starts row)
unfolding starts_from
all_starts row k d low =
    let first : row.start + 0 * row.headway ≡ row.start = omega arith in
    let from = rw first at (copy_starts row row.end 0) in
    let start = All-filter (λ second. nat_lt second row.end) (λ second. second < row.end → IsCopyStart row second) (seconds_from row.headway row.start row.end) from in
    let passes = filter_passes (λ second. nat_lt second row.end) (seconds_from row.headway row.start row.end) in
    start k d low (ltb-true _ _ (passes k d low))

good-copies : (stops services : ℕ) (trips : List FeedTrip) (trip : FeedTrip) (row : CopyRow) → IsFeedTrip stops services trip → 2 ≤ length trip.calls → length trip.calls < 2 ^ 32
    → IsCopyRow trips row → slice_get trips row.trip ≡ Some trip → All (IsGood stops) (copies trip row)
good-copies stops services trips trip row h two few copy named =
    All-map (IsGood stops) (copy_at trip) (starts row)
    (λ k d low. good-copy stops services trip (get_or (starts row) k d) h two few (copy.in_time trip (get_or (starts row) k d) named (all_starts row k d low)))

names : (a b : ℕ) → (a == b) ≡ true → a ≡ b
names a b h = grind (arith, nat_tests)

good-gives : (stops services : ℕ) (trips : List FeedTrip) (trip : FeedTrip) (place : ℕ) (rows : List CopyRow) → IsFeedTrip stops services trip → 2 ≤ length trip.calls → length trip.calls < 2 ^ 32
    → slice_get trips place ≡ Some trip → All (IsCopyRow trips) rows → All (λ (row : CopyRow). (row.trip == place) ≡ true) rows → All (IsGood stops) (gives rows trip)
good-gives stops services trips trip place [] h two few there copy named =
    All-cons (IsGood stops) (itself trip) [] (good-itself stops services trip h two few) (All-nil (IsGood stops))
good-gives stops services trips trip place (row ∷ rows) h two few there copy named =
    All-flat_map (IsGood stops) (copies trip) (row ∷ rows)
    (λ k d low. good-copies stops services trips trip (get_or (row ∷ rows) k d) h two few (copy k d low)
    (ap (slice_get trips) (names (get_or (row ∷ rows) k d).trip place (named k d low)) ∙ there))

two_calls : (served : Bool) (n : ℕ) → served && nat_le 2 n ≡ true → 2 ≤ n
two_calls true n h = leb-true 2 n h
two_calls false n h = cc

good-at : (stops services : ℕ) (trips : List FeedTrip) (rows : List CopyRow) (set : List Bool) (place : ℕ) (trip : FeedTrip) → IsFeedTrip stops services trip → length trip.calls < 2 ^ 32
    → slice_get trips place ≡ Some trip → All (IsCopyRow trips) rows → All (IsGood stops) (trips_at rows set (place, trip))
good-at stops services trips rows set place trip h few there copy = by (runs set trip) (two_calls (is_served set trip.service) (length trip.calls))
  where
    by : (b : Bool) → (b ≡ true → 2 ≤ length trip.calls) → All (IsGood stops) (cond b (gives (rows_of place rows) trip) [])
    by true two =
        good-gives stops services trips trip place (rows_of place rows) h (two refl) few there
        (All-filter (λ (row : CopyRow). row.trip == place) (IsCopyRow trips) rows copy) (filter_passes (λ (row : CopyRow). row.trip == place) rows)
    by false two = All-nil (IsGood stops)

good-date : (feed : Feed) (set : List Bool) → IsFeed feed → All (λ (trip : FeedTrip). length trip.calls < 2 ^ 32 - 1) feed.trips → All (IsGood (length feed.stops)) (trips_of_date feed set)
good-date feed set h few =
    All-flat_map (IsGood (length feed.stops)) (trips_at feed.copies set) (enumerate_from 0 feed.trips) at
  where
    at : All (λ (trip : ℕ × FeedTrip). All (IsGood (length feed.stops)) (trips_at feed.copies set trip)) (enumerate_from 0 feed.trips)
    at k d low =
        let there : k < length feed.trips = omega (arith, low, length-enumerate_from 0 feed.trips) in
        let trip = get_or feed.trips k d.1 in
        let good = good-at (length feed.stops) (length feed.services) feed.trips feed.copies set (0 + k) trip
        (h.trips_go k d.1 there) (omega (arith, few k d.1 there)) (ap (slice_get feed.trips) (none k) ∙ slice_get-get_or feed.trips k d.1 there) h.copies_leave in
        subst (λ (trip : ℕ × FeedTrip). All (IsGood (length feed.stops)) (trips_at feed.copies set trip)) (sym (get_or-enumerate_from 0 feed.trips k d there)) good
      where
        none : (k : ℕ) → 0 + k ≡ k
        none k = omega arith

good-nights : (stops : ℕ) (trips : List Trip) → All (IsGood stops) trips → All (IsGood stops) (night_trips trips)
good-nights stops [] h = All-nil (IsGood stops)
good-nights stops (trip ∷ trips) h =
    by (nat_le 2 (length (night_trip trip).calls)) (λ two. good-night stops trip (All-head (IsGood stops) trip trips h) (leb-true 2 (length (night_trip trip).calls) two))
    (good-nights stops trips (All-tail (IsGood stops) trip trips h))
  where
    by : (b : Bool) → (b ≡ true → IsGood stops (night_trip trip)) → All (IsGood stops) (night_trips trips) → All (IsGood stops) (cond b (night_trip trip ∷ night_trips trips) (night_trips trips))
    by true here rest = All-cons (IsGood stops) (night_trip trip) (night_trips trips) (here refl) rest
    by false here rest = rest

-- the trips of a day are good
pub good-day : (feed : Feed) (today before : List Bool) → IsFeed feed → All (λ (trip : FeedTrip). length trip.calls < 2 ^ 32 - 1) feed.trips
    → All (IsGood (length feed.stops)) (day_trips feed today before)
good-day feed today before h few =
    All-append (IsGood (length feed.stops)) (trips_of_date feed today) (night_trips (trips_of_date feed before))
    (good-date feed today h few) (good-nights (length feed.stops) (trips_of_date feed before) (good-date feed before h few))

-- what holds of each trip of a list of departures holds of each departure
All-unmap : {X Y : Type 0} (P : Y → Type 0) (f : X → Y) (xs : List X) → All P (map f xs) → All (λ x. P (f x)) xs
All-unmap P f xs h k d low = rw (← get_or-map f xs k d (f d) low) (h k (f d) (omega (arith, low, length-map xs f)))

pub few_calls : (stops : ℕ) (departures : List Departure) (trips : List Trip) → map trip_of departures ≡ trips → All (IsGood stops) trips
    → All (λ (departure : Departure). length departure.calls.now < 2 ^ 32) departures
few_calls stops departures trips e h =
    let good = All-unmap (IsGood stops) trip_of departures (rw e h) in
    λ k d low. omega (arith, (good k d low).few, length-map (get_or departures k d).calls.now (shifted_call (get_or departures k d).shift))

pub timed : (stops : ℕ) (departures : List Departure) (trips : List Trip) → map trip_of departures ≡ trips → All (IsGood stops) trips
    → All (λ (departure : Departure). All (λ (call : Call). IsTimed (shifted_call departure.shift call)) departure.calls.now) departures
timed stops departures trips e h =
    let good = All-unmap (IsGood stops) trip_of departures (rw e h) in
    λ k d low. All-unmap IsTimed (shifted_call (get_or departures k d).shift) (get_or departures k d).calls.now (good k d low).trip_of_day.timed

pub valid : (stops : ℕ) (trips numbered : List Trip) → IsNumbered trips numbered → All (IsGood stops) trips → All (IsDayTrip stops) numbered
valid stops trips numbered order h =
    All-permutation (IsDayTrip stops) trips numbered order.same_trips (All-weaker (IsGood stops) (IsDayTrip stops) (λ trip good. good.trip_of_day) trips h)
