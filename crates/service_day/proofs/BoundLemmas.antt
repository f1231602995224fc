-- How many trips a date gives at most.
use Rattle.std.proofs.Common.{◌≡◌, ℕ, zero, suc, ◌+◌, ◌*◌, ◌^◌, ◌<◌, ◌≤◌, ◌==◌, Bool, true, false, cond, nat_lt, List, [], ◌∷◌, length, refl, ap, arith, length-append}
use Rattle.std.specs.Prelude.{map, nat_le, All}
use Rattle.std.specs.List.{flat_map, enumerate_from}
use Rattle.std.proofs.lemmas.Bool.Decides.{nat_tests}
use Rattle.std.proofs.lemmas.List.{length-map}
use Rattle.std.proofs.lemmas.List.Elements.{All-head, All-tail, All-filter}
use Rattle.move_model.specs.declared.network.Trip.{Trip}
use Rattle.gtfs_feed.specs.declared.feed.Feed.{Feed}
use Rattle.gtfs_feed.specs.declared.feed.FeedTrip.{FeedTrip}
use Rattle.gtfs_feed.specs.declared.feed.CopyRow.{CopyRow}
use Rattle.gtfs_feed.specs.Feed.{IsFeed, IsCopyRow, last_second}
use Rattle.service_day.specs.DayTrips.{seconds_from, starts_from, copies, copy_at, gives, rows_of, runs, trips_at, trips_of_date, night_trip}
use Rattle.service_day.specs.Departure.{taken}
use Rattle.service_day.proofs.ListLemmas.{length-filter-le}

length-seconds : (headway second turns : ℕ) → length (seconds_from headway second turns) ≡ turns
unfolding seconds_from
length-seconds headway second zero = refl
length-seconds headway second (suc turns) = ap suc (length-seconds headway (second + headway) turns)

length-starts : (headway second end : ℕ) → length (starts_from headway second end) ≤ end
unfolding starts_from
length-starts headway second end = omega (arith, length-filter-le (λ start. nat_lt start end) (seconds_from headway second end), length-seconds headway second end)

length-copies : (trip : FeedTrip) (rows : List CopyRow) → All (λ (row : CopyRow). row.end ≤ last_second) rows → length (flat_map (copies trip) rows) ≤ length rows * 3600000
length-copies trip [] h = omega arith
length-copies trip (row ∷ rows) h =
    let here : row.end ≤ last_second = All-head (λ (row : CopyRow). row.end ≤ last_second) row rows h in
    let rest = length-copies trip rows (All-tail (λ (row : CopyRow). row.end ≤ last_second) row rows h) in
    omega (arith, rest, here, length-append (copies trip row) (flat_map (copies trip) rows), length-map (starts_from row.headway row.start row.end) (copy_at trip), length-starts row.headway row.start row.end)

length-gives : (trip : FeedTrip) (rows : List CopyRow) → All (λ (row : CopyRow). row.end ≤ last_second) rows → length (gives rows trip) ≤ 1 + length rows * 3600000
length-gives trip [] h = omega arith
length-gives trip (row ∷ rows) h = omega (arith, length-copies trip (row ∷ rows) h)

-- the rows that name any of the trips
rows_total : ℕ → List FeedTrip → List CopyRow → ℕ
rows_total place [] rows = 0
rows_total place (trip ∷ trips) rows = length (rows_of place rows) + rows_total (place + 1) trips rows

total_none : (place : ℕ) (trips : List FeedTrip) → rows_total place trips [] ≡ 0
unfolding rows_total
total_none place [] = refl
total_none place (trip ∷ trips) = omega (arith, total_none (place + 1) trips)

other : (a b : ℕ) → a < b → (a == b) ≡ false
other a b h = grind (arith, nat_tests)

total_passed : (place : ℕ) (trips : List FeedTrip) (row : CopyRow) (rows : List CopyRow) → row.trip < place → rows_total place trips (row ∷ rows) ≡ rows_total place trips rows
unfolding rows_total
total_passed place [] row rows h = refl
total_passed place (trip ∷ trips) row rows h =
    rw (other row.trip place h) (ap (λ n. length (rows_of place rows) + n) (total_passed (place + 1) trips row rows (omega arith)))

total_more : (place : ℕ) (trips : List FeedTrip) (row : CopyRow) (rows : List CopyRow) → rows_total place trips (row ∷ rows) ≤ suc (rows_total place trips rows)
unfolding rows_total
total_more place [] row rows = omega arith
total_more place (trip ∷ trips) row rows = by (row.trip == place) (λ e. omega (arith, same row.trip place e)) (total_more (place + 1) trips row rows)
  where
    same : (a b : ℕ) → (a == b) ≡ true → a ≡ b
    same a b h = grind (arith, nat_tests)

    by : (b : Bool) → (b ≡ true → row.trip ≡ place) → rows_total (place + 1) trips (row ∷ rows) ≤ suc (rows_total (place + 1) trips rows)
        → length (cond b (row ∷ rows_of place rows) (rows_of place rows)) + rows_total (place + 1) trips (row ∷ rows) ≤ suc (length (rows_of place rows) + rows_total (place + 1) trips rows)
    by true e more = omega (arith, e refl, total_passed (place + 1) trips row rows (omega (arith, e refl)))
    by false e more = omega (arith, more)

-- no row names two trips
total_few : (place : ℕ) (trips : List FeedTrip) (rows : List CopyRow) → rows_total place trips rows ≤ length rows
total_few place trips [] = omega (arith, total_none place trips)
total_few place trips (row ∷ rows) = omega (arith, total_more place trips row rows, total_few place trips rows)

length-at : (rows : List CopyRow) (set : List Bool) (place : ℕ) (trip : FeedTrip) → All (λ (row : CopyRow). row.end ≤ last_second) rows
    → length (trips_at rows set (place, trip)) ≤ 1 + length (rows_of place rows) * 3600000
length-at rows set place trip h = by (runs set trip)
  where
    by : (b : Bool) → length (cond b (gives (rows_of place rows) trip) []) ≤ 1 + length (rows_of place rows) * 3600000
    by true = length-gives trip (rows_of place rows) (All-filter (λ row. row.trip == place) (λ (row : CopyRow). row.end ≤ last_second) rows h)
    by false = omega arith

length-all : (rows : List CopyRow) (set : List Bool) (place : ℕ) (trips : List FeedTrip) → All (λ (row : CopyRow). row.end ≤ last_second) rows
    → length (flat_map (trips_at rows set) (enumerate_from place trips)) ≤ length trips + rows_total place trips rows * 3600000
unfolding rows_total
length-all rows set place [] h = omega arith
length-all rows set place (trip ∷ trips) h =
    omega (arith, length-append (trips_at rows set (place, trip)) (flat_map (trips_at rows set) (enumerate_from (place + 1) trips)), length-at rows set place trip h, length-all rows set (place + 1) trips h)

length-taken-le : (night : Bool) (trips : List Trip) → length (taken night trips) ≤ length trips
length-taken-le false trips = omega arith
length-taken-le true trips = omega (arith, length-filter-le (λ trip. nat_le 2 (length trip.calls)) (map night_trip trips), length-map trips night_trip)

ends : (trips : List FeedTrip) (rows : List CopyRow) → All (IsCopyRow trips) rows → All (λ (row : CopyRow). row.end ≤ last_second) rows
ends trips rows h = λ k d low. (h k d low).times.1

pub few_trips : (night : Bool) (feed : Feed) (set : List Bool) → IsFeed feed → length (taken night (trips_of_date feed set)) < 2 ^ 62
few_trips night feed set h =
    omega (arith, length-taken-le night (trips_of_date feed set), length-all feed.copies set 0 feed.trips (ends feed.trips feed.copies h.copies_leave), total_few 0 feed.trips feed.copies, h.few_trips, h.few_copies)

pub few_given : (night : Bool) (feed : Feed) (place : ℕ) (trip : FeedTrip) → IsFeed feed → length (taken night (gives (rows_of place feed.copies) trip)) < 2 ^ 62
few_given night feed place trip h =
    omega (
      arith,
      length-taken-le night (gives (rows_of place feed.copies) trip),
      length-gives trip (rows_of place feed.copies) (All-filter (λ row. row.trip == place) (λ (row : CopyRow). row.end ≤ last_second) feed.copies (ends feed.trips feed.copies h.copies_leave)),
      length-filter-le (λ row. row.trip == place) feed.copies,
      h.few_copies,
    )
