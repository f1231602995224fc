-- A feed has one first broken rule.
use Rattle.std.proofs.Common.{◌≡◌, ◌∙◌, ℕ, List, Option, Some, None, sym, ap, arith, inl, inr}
use Rattle.std.specs.Prelude.{option_copied}
use Rattle.std.specs.Borrow.{Bor}
use Rattle.std.proofs.lemmas.Bool.{cases_order}
use Rattle.move_model.specs.declared.refusal.Cause.{Cause}
use Rattle.move_model.specs.declared.refusal.FileKind.{FileKind}
use Rattle.gtfs_feed.specs.declared.feed.FeedBytes.{FeedBytes}
use Rattle.gtfs_feed.specs.Calls.{StopRows}
use Rattle.gtfs_feed.specs.Calendar.{CalendarAccepted, IsCalendarRefusal}
use Rattle.gtfs_feed.specs.Copies.{IsCopiesRefusal}
use Rattle.gtfs_feed.specs.Dates.{IsDatesRefusal}
use Rattle.gtfs_feed.specs.FeedFiles.{stop_rows, ids_of, CallsStand, IsFrequencyRefusal, IsFeedRefusal}
use Rattle.gtfs_feed.specs.Services.{OptionRefused, IsServicesRefusal}
use Rattle.gtfs_feed.specs.Stops.{StopsAccepted, IsStopsRefusal}
use Rattle.gtfs_feed.specs.Table.{file_broken, IsRefusedRow, IsTableRefusal}
use Rattle.gtfs_feed.specs.TripRules.{StopTimesAccepted, IsStopTimesRefusal}
use Rattle.gtfs_feed.specs.Trips.{trip_ids, TripsAccepted, IsTripsRefusal}
use Rattle.top_call.specs.Input.{Held, AreFeedFiles}
use Rattle.top_call.proofs.FaultOnce.{fault_once}
use Rattle.top_call.proofs.FeedOnce.{Same, same-files, trips-once, same-trips, table-not-both, stops-not-both, services-not-both, option-not-both, stop-times-not-both}

abbrev One : ℕ → ℕ → Cause → Cause → Type 0
One row other because another = (row ≡ other) × (because ≡ another)

one-cause : (o : Option Cause) (a b : Cause) → o ≡ Some a → o ≡ Some b → a ≡ b
one-cause o a b x y = let e : Some a ≡ Some b = sym x ∙ y in cc e

row-once : (rows : List (List (List ℕ))) (broken : ℕ → Option Cause) (row other : ℕ) (because another : Cause) → IsRefusedRow rows broken row because
    → IsRefusedRow rows broken other another → One row other because another
row-once rows broken row other because another a b =
    let place : a.place ≡ b.place = elim (cases_order a.place b.place) [
      | inl same ↦ same
      | inr (inl lt) ↦ (let none = b.earlier a.place lt in let some = a.breaks in cc (none, some))
      | inr (inr gt) ↦ (let none = a.earlier b.place gt in let some = b.breaks in cc (none, some))
    ] in
    (omega (arith, a.number, b.number, place), one-cause (broken b.place) because another (rw place at a.breaks) b.breaks)

table-once : (missing : Option Cause) (rows : List (List (List ℕ))) (broken : ℕ → Option Cause) (row other : ℕ) (because another : Cause)
    → IsTableRefusal missing rows broken row because → IsTableRefusal missing rows broken other another → One row other because another
table-once missing rows broken row other because another (inl a) (inl b) = (a.0 ∙ sym b.0, one-cause (file_broken missing rows) because another a.1 b.1)
table-once missing rows broken row other because another (inl a) (inr b) = let some = a.1 in let none = b.0 in cc (none, some)
table-once missing rows broken row other because another (inr a) (inl b) = let some = b.1 in let none = a.0 in cc (none, some)
table-once missing rows broken row other because another (inr a) (inr b) = row-once rows broken row other because another a.1 b.1

stops-once : (bytes : List ℕ) (row other : ℕ) (because another : Cause) → IsStopsRefusal bytes row because → IsStopsRefusal bytes other another → One row other because another
stops-once bytes row other because another (inl a) (inl b) = table-once _ _ _ row other because another a b
stops-once bytes row other because another (inl a) (inr b) = absurd (table-not-both _ _ _ row because b.0 a)
stops-once bytes row other because another (inr a) (inl b) = absurd (table-not-both _ _ _ other another a.0 b)
stops-once bytes row other because another (inr a) (inr b) = (a.1 ∙ sym b.1, one-cause _ because another a.2 b.2)

-- the refusals of a file that is there
option-once : (P : List ℕ → ℕ → Cause → Type 0) → ((bytes : List ℕ) (row other : ℕ) (because another : Cause) → P bytes row because → P bytes other another → One row other because another)
    → (o p : Option (Bor (List ℕ))) (row other : ℕ) (because another : Cause) → option_copied o ≡ option_copied p
    → OptionRefused o (λ bytes. P bytes row because) → OptionRefused p (λ bytes. P bytes other another) → One row other because another
option-once P one None p row other because another e a b = absurd a
option-once P one (Some x) None row other because another e a b = absurd b
option-once P one (Some x) (Some y) row other because another e a b = let now : x.now ≡ y.now = cc e in one y.now row other because another (rw now at a) b

none-refused : (P : List ℕ → Type 0) (o p : Option (Bor (List ℕ))) → option_copied o ≡ option_copied p → o ≡ None → OptionRefused p P → ⊥
none-refused P None None e n r = r
none-refused P None (Some y) e n r = cc e
none-refused P (Some x) p e n r = cc n

abbrev Same3 : FileKind → FileKind → ℕ → ℕ → Cause → Cause → Type 0
Same3 file kind row other because another = (file ≡ kind) × (row ≡ other) × (because ≡ another)

services-once : (files others : FeedBytes) (file kind : FileKind) (row other : ℕ) (because another : Cause) → Same files others
    → IsServicesRefusal files.calendar files.dates file row because → IsServicesRefusal others.calendar others.dates kind other another → Same3 file kind row other because another
services-once files others file kind row other because another s (inl a) (inl b) = (a.2 ∙ sym b.2, a.3 ∙ sym b.3, a.4 ∙ sym b.4)
services-once files others file kind row other because another s (inl a) (inr (inl b)) = absurd (none-refused _ files.calendar others.calendar s.calendar a.0 b.1)
services-once files others file kind row other because another s (inl a) (inr (inr b)) = absurd (none-refused _ files.dates others.dates s.dates a.1 b.2)
services-once files others file kind row other because another s (inr (inl a)) (inl b) = absurd (none-refused _ others.calendar files.calendar (sym s.calendar) b.0 a.1)
services-once files others file kind row other because another s (inr (inl a)) (inr (inl b)) =
    let one = option-once IsCalendarRefusal (λ bytes row other because another x y. table-once _ _ _ row other because another x y) files.calendar others.calendar row other because another s.calendar a.1 b.1 in
    (a.0 ∙ sym b.0, one.0, one.1)
services-once files others file kind row other because another s (inr (inl a)) (inr (inr b)) =
    absurd (option-not-both CalendarAccepted (λ bytes. IsCalendarRefusal bytes row because) (λ bytes x y. table-not-both _ _ _ row because x y) others.calendar files.calendar (sym s.calendar) b.1 a.1)
services-once files others file kind row other because another s (inr (inr a)) (inl b) = absurd (none-refused _ others.dates files.dates (sym s.dates) b.1 a.2)
services-once files others file kind row other because another s (inr (inr a)) (inr (inl b)) =
    absurd (option-not-both CalendarAccepted (λ bytes. IsCalendarRefusal bytes other another) (λ bytes x y. table-not-both _ _ _ other another x y) files.calendar others.calendar s.calendar a.1 b.1)
services-once files others file kind row other because another s (inr (inr a)) (inr (inr b)) =
    let one = option-once IsDatesRefusal (λ bytes row other because another x y. table-once _ _ _ row other because another x y) files.dates others.dates row other because another s.dates a.2 b.2 in
    (a.0 ∙ sym b.0, one.0, one.1)

stop-times-once : (stops : StopRows) (trips : List (List ℕ)) (bytes : List ℕ) (row other : ℕ) (because another : Cause) → IsStopTimesRefusal stops trips bytes row because
    → IsStopTimesRefusal stops trips bytes other another → One row other because another
stop-times-once stops trips bytes row other because another (inl a) (inl b) = table-once _ _ _ row other because another a b
stop-times-once stops trips bytes row other because another (inl a) (inr b) = absurd (table-not-both _ _ _ row because b.0 a)
stop-times-once stops trips bytes row other because another (inr a) (inl b) = absurd (table-not-both _ _ _ other another a.0 b)
stop-times-once stops trips bytes row other because another (inr a) (inr b) = fault_once stops trips bytes _ row other because another a.1 b.1

frequencies-once : (files others : FeedBytes) (row other : ℕ) (because another : Cause) → Same files others → CallsStand files → IsFrequencyRefusal files row because
    → IsFrequencyRefusal others other another → One row other because another
frequencies-once files others row other because another s stand a b =
    let trips = trips-once files a.trips b.trips stand a.are (same-trips files others b.trips s b.are) in
    let ids : ids_of files ≡ ids_of others = ap trip_ids s.trips in
    let left : OptionRefused files.frequencies (λ bytes. IsCopiesRefusal (ids_of others) b.trips bytes row because) = rw (← ids, ← trips) a.refused in
    option-once (IsCopiesRefusal (ids_of others) b.trips) (λ bytes row other because another x y. table-once _ _ _ row other because another x y)
    files.frequencies others.frequencies row other because another s.frequencies left b.refused

-- the files before a rule, read again
trips-again : (files others : FeedBytes) → Same files others → TripsAccepted files.trips.now → TripsAccepted others.trips.now
trips-again files others s a = rw (← s.trips) a

swap : (files others : FeedBytes) → Same files others → Same others files
swap files others s = record {
  stops = sym s.stops;
  calendar = sym s.calendar;
  dates = sym s.dates;
  trips = sym s.trips;
  stop_times = sym s.stop_times;
  frequencies = sym s.frequencies;
}

-- a rule of stops.txt and a rule behind it
not-stops : (files others : FeedBytes) (row : ℕ) (because : Cause) → Same files others → StopsAccepted files.stops.now → IsStopsRefusal others.stops.now row because → ⊥
not-stops files others row because s a r = stops-not-both others.stops.now row because (rw (← s.stops) a) r

not-trips : (files others : FeedBytes) (row : ℕ) (because : Cause) → Same files others → TripsAccepted files.trips.now → IsTripsRefusal others.trips.now row because → ⊥
not-trips files others row because s a r = table-not-both _ _ _ row because (trips-again files others s a) r

not-stop-times : (files others : FeedBytes) (row : ℕ) (because : Cause) → Same files others → StopTimesAccepted (stop_rows files) (ids_of files) files.stop_times.now
    → IsStopTimesRefusal (stop_rows others) (ids_of others) others.stop_times.now row because → ⊥
not-stop-times files others row because s a r =
    let again : StopTimesAccepted (stop_rows others) (ids_of others) others.stop_times.now = rw (← s.stops, ← s.trips, ← s.stop_times) a in
    stop-times-not-both (stop_rows others) (ids_of others) others.stop_times.now row because again r

feed-once : (files others : FeedBytes) (file kind : FileKind) (row other : ℕ) (because another : Cause) → Same files others → IsFeedRefusal files file row because
    → IsFeedRefusal others kind other another → Same3 file kind row other because another
feed-once files others file kind row other because another s (inl a) (inl b) =
    let one = stops-once others.stops.now row other because another (rw (← s.stops) a.1) b.1 in (a.0 ∙ sym b.0, one.0, one.1)
feed-once files others file kind row other because another s (inl a) (inr (inl b)) = absurd (not-stops others files row because (swap files others s) b.0 a.1)
feed-once files others file kind row other because another s (inl a) (inr (inr (inl b))) = absurd (not-stops others files row because (swap files others s) b.0 a.1)
feed-once files others file kind row other because another s (inl a) (inr (inr (inr (inl b)))) = absurd (not-stops others files row because (swap files others s) b.0.stops a.1)
feed-once files others file kind row other because another s (inl a) (inr (inr (inr (inr b)))) = absurd (not-stops others files row because (swap files others s) b.0.before.stops a.1)
feed-once files others file kind row other because another s (inr (inl a)) (inl b) = absurd (not-stops files others other another s a.0 b.1)
feed-once files others file kind row other because another s (inr (inl a)) (inr (inl b)) = services-once files others file kind row other because another s a.1 b.1
feed-once files others file kind row other because another s (inr (inl a)) (inr (inr (inl b))) = absurd (services-not-both others files file row because (swap files others s) b.1 a.1)
feed-once files others file kind row other because another s (inr (inl a)) (inr (inr (inr (inl b)))) = absurd (services-not-both others files file row because (swap files others s) b.0.services a.1)
feed-once files others file kind row other because another s (inr (inl a)) (inr (inr (inr (inr b)))) = absurd (services-not-both others files file row because (swap files others s) b.0.before.services a.1)
feed-once files others file kind row other because another s (inr (inr (inl a))) (inl b) = absurd (not-stops files others other another s a.0 b.1)
feed-once files others file kind row other because another s (inr (inr (inl a))) (inr (inl b)) = absurd (services-not-both files others kind other another s a.1 b.1)
feed-once files others file kind row other because another s (inr (inr (inl a))) (inr (inr (inl b))) =
    let again : IsTripsRefusal others.trips.now row because = rw (← s.trips) a.3 in
    let one = table-once _ _ _ row other because another again b.3 in (a.2 ∙ sym b.2, one.0, one.1)
feed-once files others file kind row other because another s (inr (inr (inl a))) (inr (inr (inr (inl b)))) = absurd (not-trips others files row because (swap files others s) b.0.trips a.3)
feed-once files others file kind row other because another s (inr (inr (inl a))) (inr (inr (inr (inr b)))) = absurd (not-trips others files row because (swap files others s) b.0.before.trips a.3)
feed-once files others file kind row other because another s (inr (inr (inr (inl a)))) (inl b) = absurd (not-stops files others other another s a.0.stops b.1)
feed-once files others file kind row other because another s (inr (inr (inr (inl a)))) (inr (inl b)) = absurd (services-not-both files others kind other another s a.0.services b.1)
feed-once files others file kind row other because another s (inr (inr (inr (inl a)))) (inr (inr (inl b))) = absurd (not-trips files others other another s a.0.trips b.3)
feed-once files others file kind row other because another s (inr (inr (inr (inl a)))) (inr (inr (inr (inl b)))) =
    let again : IsStopTimesRefusal (stop_rows others) (ids_of others) others.stop_times.now row because = rw (← s.stops, ← s.trips, ← s.stop_times) a.2 in
    let one = stop-times-once (stop_rows others) (ids_of others) others.stop_times.now row other because another again b.2 in (a.1 ∙ sym b.1, one.0, one.1)
feed-once files others file kind row other because another s (inr (inr (inr (inl a)))) (inr (inr (inr (inr b)))) = absurd (not-stop-times others files row because (swap files others s) b.0.calls a.2)
feed-once files others file kind row other because another s (inr (inr (inr (inr a)))) (inl b) = absurd (not-stops files others other another s a.0.before.stops b.1)
feed-once files others file kind row other because another s (inr (inr (inr (inr a)))) (inr (inl b)) = absurd (services-not-both files others kind other another s a.0.before.services b.1)
feed-once files others file kind row other because another s (inr (inr (inr (inr a)))) (inr (inr (inl b))) = absurd (not-trips files others other another s a.0.before.trips b.3)
feed-once files others file kind row other because another s (inr (inr (inr (inr a)))) (inr (inr (inr (inl b)))) = absurd (not-stop-times files others other another s a.0.calls b.2)
feed-once files others file kind row other because another s (inr (inr (inr (inr a)))) (inr (inr (inr (inr b)))) =
    let one = frequencies-once files others row other because another s a.0 a.2 b.2 in (a.1 ∙ sym b.1, one.0, one.1)

pub feed_refusal_once : (held : Held) (files others : FeedBytes) (file kind : FileKind) (row other : ℕ) (because another : Cause) → AreFeedFiles held files → AreFeedFiles held others
    → IsFeedRefusal files file row because → IsFeedRefusal others kind other another → Same3 file kind row other because another
feed_refusal_once held files others file kind row other because another a b x y = feed-once files others file kind row other because another (same-files held files others a b) x y
