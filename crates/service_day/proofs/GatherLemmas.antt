-- What trips and copies give, put one behind the other.
use Rattle.std.proofs.Common.{◌≡◌, ◌≢◌, ℕ, zero, suc, ◌+◌, ◌-◌, ◌*◌, ◌<◌, ◌≤◌, ◌==◌, ◌⊎◌, inl, inr, Bool, true, false, List, [], ◌∷◌, ◌++◌, length, get_or, drop, refl, sym, ap, ◌∙◌, arith, append_assoc, append-nil, length-append}
use Rattle.std.specs.Prelude.{map, filter, nat_le, All}
use Rattle.std.specs.List.{flat_map}
use Rattle.std.specs.Int.{div_ceil}
use Rattle.std.proofs.lemmas.Grind.{div_ceil_times}
use Rattle.std.specs.List.Sorted.{IsNonDecreasingBy}
use Rattle.std.proofs.lemmas.Bool.Decides.{nat_tests}
use Rattle.std.proofs.lemmas.Bool.{cases_order}
use Rattle.std.proofs.lemmas.List.{map-append, length-map, get_or_default, drop_all}
use Rattle.std.proofs.lemmas.List.Elements.{filter-append, All-filter}
use Rattle.std.proofs.lemmas.List.Sorted.{IsNonDecreasingBy-from_all_adjacent}
use Rattle.move_model.specs.declared.network.Call.{Call}
use Rattle.move_model.specs.declared.network.Trip.{Trip}
use Rattle.gtfs_feed.specs.declared.feed.FeedTrip.{FeedTrip}
use Rattle.gtfs_feed.specs.declared.feed.CopyRow.{CopyRow}
use Rattle.gtfs_feed.specs.Feed.{IsFeedTrip, IsCopyRow, first_departure}
use Rattle.service_day.specs.DayTrips.{starts_from, copies, copy_at, gives, rows_of, moved, night_trip, after_midnight, midnight}
use Rattle.service_day.specs.Departure.{taken, IsEarliest}
use Rattle.service_day.proofs.ListLemmas.{filter-map, two_pass, one_pass}
use Rattle.service_day.proofs.NightLemmas.{night-none, night-one}
use Rattle.service_day.proofs.StartLemmas.{starts_more, starts_none, ceil_none}

pub taken-append : (night : Bool) (trips others : List Trip) → taken night (trips ++ others) ≡ taken night trips ++ taken night others
taken-append false trips others = refl
taken-append true trips others =
    ap (filter (λ trip. nat_le 2 (length trip.calls))) (map-append night_trip trips others) ∙ filter-append _ (map night_trip trips) (map night_trip others)

pub taken-cons : (night : Bool) (trip : Trip) (others : List Trip) → taken night (trip ∷ others) ≡ taken night (trip ∷ []) ++ taken night others
taken-cons night trip others = taken-append night (trip ∷ []) others

pub gives-rows : (trip : FeedTrip) (rows : List CopyRow) → rows ≢ [] → gives rows trip ≡ flat_map (copies trip) rows
gives-rows trip [] h = absurd (h refl)
gives-rows trip (row ∷ rows) h = refl

-- departures never fall along a trip
pub rising : (stops services : ℕ) (trip : FeedTrip) → IsFeedTrip stops services trip → IsNonDecreasingBy (λ (call : Call). call.dep) trip.calls
rising stops services trip h =
    IsNonDecreasingBy-from_all_adjacent (λ (call : Call). call.dep) trip.calls
    (λ k d low. omega (arith, h.goes_on k d low, h.stays (k + 1) d (omega arith)))

-- what the starts before the earliest give is not taken
pub skip : (night : Bool) (trip : FeedTrip) (earliest headway end turns start : ℕ) → IsEarliest night trip earliest → 1 ≤ headway
    → (0 < turns → start + turns * headway < earliest + headway)
    → taken night (map (copy_at trip) (starts_from headway (start + turns * headway) end)) ≡ taken night (map (copy_at trip) (starts_from headway start end))
skip night trip earliest headway end zero start least step early = ap (λ s. taken night (map (copy_at trip) (starts_from headway s end))) (omega arith)
skip night trip earliest headway end (suc turns) start least step early =
    let here : start < earliest = omega (arith, early (omega arith)) in
    let next : start + suc turns * headway ≡ start + headway + turns * headway = omega arith in
    let later = skip night trip earliest headway end turns (start + headway) least step (λ some. omega (arith, early (omega arith))) in
    elim (cases_order start end) [
      | inr (inl lt) ↦
          ap (λ s. taken night (map (copy_at trip) (starts_from headway s end))) next ∙ later
          ∙ ap (λ (trips : List Trip). trips ++ taken night (map (copy_at trip) (starts_from headway (start + headway) end))) (sym (least.dropped start here))
          ∙ sym (taken-cons night (copy_at trip start) (map (copy_at trip) (starts_from headway (start + headway) end)))
          ∙ ap (λ (starts : List ℕ). taken night (map (copy_at trip) starts)) (sym (starts_more headway start end step lt))
      | inl same ↦ rw (starts_none headway start end (omega arith), starts_none headway (start + suc turns * headway) end (omega arith)) refl
      | inr (inr gt) ↦ rw (starts_none headway start end (omega arith), starts_none headway (start + suc turns * headway) end (omega arith)) refl
    ]

-- by day every copy is taken
pub earliest-date : (trip : FeedTrip) → IsEarliest false trip 0
earliest-date trip = record { kept = λ second h. refl; dropped = λ second h. absurd (omega arith) }

-- how many calls of a copy are not before midnight
night_length : (trip : FeedTrip) (second : ℕ)
    → length (night_trip (copy_at trip second)).calls ≡ length (filter (λ (call : Call). nat_le midnight (second + (call.dep - first_departure trip.calls))) trip.calls)
night_length trip second =
    let kept = filter (λ (call : Call). nat_le midnight (second + (call.dep - first_departure trip.calls))) trip.calls in
    ap (λ (calls : List Call). length (map after_midnight calls)) (filter-map (λ (call : Call). nat_le midnight call.dep) (moved (first_departure trip.calls) second) trip.calls)
    ∙ length-map (map (moved (first_departure trip.calls) second) kept) after_midnight
    ∙ length-map kept (moved (first_departure trip.calls) second)

late : (second first a b : ℕ) → a ≤ b → midnight - (a - first) ≤ second → nat_le midnight (second + (b - first)) ≡ true
late second first a b h k = grind (arith, nat_tests)

early : (second first a b : ℕ) → a ≤ b → second < midnight - (b - first) → nat_le midnight (second + (a - first)) ≡ false
early second first a b h k = grind (arith, nat_tests)

-- by night those whose last call but one is not before midnight
pub earliest-night : (trip : FeedTrip) (n : ℕ) (d : Call) → length trip.calls ≡ n + 2 → IsNonDecreasingBy (λ (call : Call). call.dep) trip.calls
    → IsEarliest true trip (midnight - ((get_or trip.calls n d).dep - first_departure trip.calls))
earliest-night trip n d long rise = record { kept = kept; dropped = dropped }
  where
    same : (x : Call) → (get_or trip.calls n d).dep ≡ (get_or trip.calls n x).dep
    same x = ap (λ (call : Call). call.dep) (get_or_default trip.calls n d x (omega arith))

    kept : (second : ℕ) → midnight - ((get_or trip.calls n d).dep - first_departure trip.calls) ≤ second → length (taken true (copy_at trip second ∷ [])) ≡ 1
    kept second h =
        let two = two_pass (λ (call : Call). nat_le midnight (second + (call.dep - first_departure trip.calls))) trip.calls n long
        (λ k x low high. late second (first_departure trip.calls) (get_or trip.calls n x).dep (get_or trip.calls k x).dep (rise n k x low high) (rw (← same x) h)) in
        ap length (night-one (copy_at trip second) (omega (arith, two, night_length trip second)))

    dropped : (second : ℕ) → second < midnight - ((get_or trip.calls n d).dep - first_departure trip.calls) → taken true (copy_at trip second ∷ []) ≡ []
    dropped second h =
        let one = one_pass (λ (call : Call). nat_le midnight (second + (call.dep - first_departure trip.calls))) trip.calls (n + 1) (omega arith)
        (λ k x low high. early second (first_departure trip.calls) (get_or trip.calls k x).dep (get_or trip.calls n x).dep (rise k n x (omega arith) (omega arith)) (rw (← same x) h)) in
        night-none (copy_at trip second) (omega (arith, one, night_length trip second))

pub first-departure : (calls : List Call) (d : Call) → 0 < length calls → (get_or calls 0 d).dep ≡ first_departure calls
first-departure [] d h = absurd (omega arith)
first-departure (call ∷ calls) d h = refl

pub earliest-found : (trip : FeedTrip) (d : Call) → 2 ≤ length trip.calls → IsNonDecreasingBy (λ (call : Call). call.dep) trip.calls
    → IsEarliest true trip (midnight - ((get_or trip.calls (length trip.calls - 2) d).dep - (get_or trip.calls 0 d).dep))
earliest-found trip d long rise = rw (first-departure trip.calls d (omega arith)) (earliest-night trip (length trip.calls - 2) d (omega arith) rise)

pub taken-nil : (night : Bool) → taken night [] ≡ []
taken-nil false = refl
taken-nil true = refl

-- the first start that is not before the earliest
pub skip-first : (night : Bool) (trip : FeedTrip) (earliest headway start end : ℕ) → IsEarliest night trip earliest → 1 ≤ headway
    → taken night (map (copy_at trip) (starts_from headway (start + div_ceil (earliest - start) headway * headway) end)) ≡ taken night (map (copy_at trip) (starts_from headway start end))
skip-first night trip earliest headway start end least step =
    skip night trip earliest headway end (div_ceil (earliest - start) headway) start least step (λ some. by (cases_order start earliest) some)
  where
    over : (a b : ℕ) → a ≤ b → a - b ≡ 0
    over a b h = omega arith

    by : (start ≡ earliest) ⊎ ((start < earliest) ⊎ (earliest < start)) → 0 < div_ceil (earliest - start) headway
        → start + div_ceil (earliest - start) headway * headway < earliest + headway
    by (inr (inl lt)) some = omega (arith, (div_ceil_times (earliest - start) headway step).1)
    by (inl same) some = absurd (omega (arith, some, ap (λ x. div_ceil x headway) (over earliest start (omega arith)), ceil_none headway))
    by (inr (inr gt)) some = absurd (omega (arith, some, ap (λ x. div_ceil x headway) (over earliest start (omega arith)), ceil_none headway))

-- each start from the earliest on gives one trip
pub length-taken : (night : Bool) (trip : FeedTrip) (earliest headway end turns start : ℕ) → IsEarliest night trip earliest → 1 ≤ headway → earliest ≤ start → end - start ≤ turns
    → length (taken night (map (copy_at trip) (starts_from headway start end))) ≡ length (starts_from headway start end)
length-taken night trip earliest headway end zero start least step late few =
    rw (starts_none headway start end (omega arith)) (ap length (taken-nil night))
length-taken night trip earliest headway end (suc turns) start least step late few =
    elim (cases_order start end) [
      | inr (inl lt) ↦
          let rest = starts_from headway (start + headway) end in
          ap (λ (starts : List ℕ). length (taken night (map (copy_at trip) starts))) (starts_more headway start end step lt)
          ∙ ap length (taken-cons night (copy_at trip start) (map (copy_at trip) rest))
          ∙ length-append (taken night (copy_at trip start ∷ [])) (taken night (map (copy_at trip) rest))
          ∙ (λ i. least.kept start late i + length-taken night trip earliest headway end turns (start + headway) least step (omega arith) (omega arith) i)
          ∙ one_more (length rest)
          ∙ sym (ap length (starts_more headway start end step lt))
      | inl same ↦ rw (starts_none headway start end (omega arith)) (ap length (taken-nil night))
      | inr (inr gt) ↦ rw (starts_none headway start end (omega arith)) (ap length (taken-nil night))
    ]
  where
    one_more : (n : ℕ) → 1 + n ≡ suc n
    one_more n = omega arith

-- one copy more
pub put_copy : (night : Bool) (trip : FeedTrip) (headway start end : ℕ) (before after : List Trip) → 1 ≤ headway → start < end
    → after ≡ before ++ taken night (copy_at trip start ∷ [])
    → after ++ taken night (map (copy_at trip) (starts_from headway (start + headway) end)) ≡ before ++ taken night (map (copy_at trip) (starts_from headway start end))
put_copy night trip headway start end before after step lt e =
    let rest = map (copy_at trip) (starts_from headway (start + headway) end) in
    ap (λ (trips : List Trip). trips ++ taken night rest) e
    ∙ append_assoc before (taken night (copy_at trip start ∷ [])) (taken night rest)
    ∙ ap (λ (trips : List Trip). before ++ trips) (sym (taken-cons night (copy_at trip start) rest) ∙ ap (λ (starts : List ℕ). taken night (map (copy_at trip) starts)) (sym (starts_more headway start end step lt)))

pub put_none : (night : Bool) (trip : FeedTrip) (headway start end : ℕ) (trips : List Trip) → end ≤ start
    → trips ++ taken night (map (copy_at trip) (starts_from headway start end)) ≡ trips
put_none night trip headway start end trips h =
    ap (λ (starts : List ℕ). trips ++ taken night (map (copy_at trip) starts)) (starts_none headway start end h) ∙ ap (λ (rest : List Trip). trips ++ rest) (taken-nil night) ∙ append-nil trips

-- the last row is passed
pub put_rows : (night : Bool) (trip : FeedTrip) (rows : List CopyRow) (i : ℕ) (trips before : List Trip) → rows ≢ [] → length rows ≤ i
    → trips ++ taken night (flat_map (copies trip) (drop i rows)) ≡ before ++ taken night (flat_map (copies trip) rows)
    → trips ≡ before ++ taken night (gives rows trip)
put_rows night trip rows i trips before some all e =
    sym (append-nil trips) ∙ ap (λ (rest : List Trip). trips ++ rest) (sym (taken-nil night))
    ∙ ap (λ (rest : List CopyRow). trips ++ taken night (flat_map (copies trip) rest)) (sym (drop_all i rows all))
    ∙ e ∙ ap (λ (given : List Trip). before ++ taken night given) (sym (gives-rows trip rows some))

-- the rows that name a trip step on
pub rows_step : (trips : List FeedTrip) (rows : List CopyRow) (place : ℕ) → All (IsCopyRow trips) rows → All (λ row. 1 ≤ row.headway) (rows_of place rows)
rows_step trips rows place h = All-filter (λ row. row.trip == place) (λ row. 1 ≤ row.headway) rows (λ k d low. (h k d low).steps)

-- the starts from the first on are as many as what the row gives
pub count-copies : (night : Bool) (trip : FeedTrip) (earliest headway start end : ℕ) → IsEarliest night trip earliest → 1 ≤ headway
    → length (starts_from headway (start + div_ceil (earliest - start) headway * headway) end) ≡ length (taken night (map (copy_at trip) (starts_from headway start end)))
count-copies night trip earliest headway start end least step =
    sym (length-taken night trip earliest headway end (end - (start + div_ceil (earliest - start) headway * headway)) (start + div_ceil (earliest - start) headway * headway)
    least step (omega (arith, (div_ceil_times (earliest - start) headway step).0)) (omega arith))
    ∙ ap length (skip-first night trip earliest headway start end least step)
