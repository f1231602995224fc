-- The files of a feed hold one feed, and where they are accepted no rule is broken.
use Rattle.std.proofs.Common.{◌≡◌, ◌∙◌, ℕ, List, length, Option, Some, None, refl, sym, ap, arith, inl, inr}
use Rattle.std.specs.Prelude.{slice_get, slice_index_or, option_copied}
use Rattle.std.specs.Borrow.{Bor}
use Rattle.std.proofs.lemmas.Bool.{cases_lt}
use Rattle.std.proofs.lemmas.List.{same_lists, length-map}
use Rattle.std.proofs.lemmas.Option.{slice_get_within}
use Rattle.move_model.specs.declared.refusal.Cause.{Cause}
use Rattle.move_model.specs.declared.refusal.FileKind.{FileKind}
use Rattle.gtfs_feed.specs.declared.feed.Feed.{Feed}
use Rattle.gtfs_feed.specs.declared.feed.FeedBytes.{FeedBytes}
use Rattle.gtfs_feed.specs.declared.feed.FeedTrip.{FeedTrip}
use Rattle.gtfs_feed.specs.declared.feed.Service.{Service}
use Rattle.gtfs_feed.specs.Calendar.{CalendarAccepted, IsCalendarRefusal}
use Rattle.gtfs_feed.specs.Copies.{copies_in, CopiesAccepted, IsCopiesRefusal}
use Rattle.gtfs_feed.specs.Dates.{names_in, DatesAccepted, IsDatesRefusal}
use Rattle.gtfs_feed.specs.FeedFiles.{stop_rows, feed_services, ids_of, AreTrips, CallsStand, FeedAccepted, IsFrequencyRefusal, IsFeedRefusal}
use Rattle.gtfs_feed.specs.Services.{weeks_of, dated_of, OptionAccepted, OptionRefused, IsOneThere, ServicesAccepted, IsServicesRefusal}
use Rattle.gtfs_feed.specs.Stops.{feed_stops, StopsAccepted, IsStopsRefusal}
use Rattle.gtfs_feed.specs.Table.{IsAccepted, IsTableRefusal}
use Rattle.gtfs_feed.specs.TripRules.{Goes, Holds, TripsHold, IsFinished, IsFirstTripFault, StopTimesAccepted, IsStopTimesRefusal}
use Rattle.gtfs_feed.specs.Calls.{StopRows, trip_calls}
use Rattle.gtfs_feed.specs.Trips.{trip_ids, bare_trips, TripsAccepted}
use Rattle.trip_calls.specs.declared.kept.KeptCall.{KeptCall}
use Rattle.trip_calls.specs.Filled.{IsFilled}
use Rattle.top_call.specs.Input.{Held, AreFeedFiles, IsFeedIn}
use Rattle.top_call.proofs.StableLemmas.{order_unique}
use Rattle.top_call.proofs.FilledLemmas.{filled_unique}

-- a trip is finished in one way
same-trip : (t u : FeedTrip) → t.name ≡ u.name → t.service ≡ u.service → t.calls ≡ u.calls → t ≡ u
same-trip t u a b c = λ i. record { name = a i; service = b i; calls = c i }

trip-once : (kept : List KeptCall) (bare trip other : FeedTrip) → (Goes kept → Holds kept) → IsFinished kept bare trip → IsFinished kept bare other → trip ≡ other
trip-once kept bare trip other hold a b =
    elim (cases_lt (length kept) 2) [
      | inl few ↦ a.passed few ∙ sym (b.passed few)
      | inr goes ↦ (let h = hold goes in
          let x = a.goes goes in
          let y = b.goes goes in
          let left : IsFilled h.sorted trip.calls = rw (order_unique kept h.sorted x.sorted h.order x.order) x.filled in
          let right : IsFilled h.sorted other.calls = rw (order_unique kept h.sorted y.sorted h.order y.order) y.filled in
          same-trip trip other (a.named ∙ sym b.named) (a.served ∙ sym b.served) (filled_unique h.sorted trip.calls other.calls h.together left right))
    ]

as-many : (services : List (List ℕ)) (bytes : List ℕ) → length (bare_trips services bytes) ≡ length (trip_ids bytes)
unfolding bare_trips trip_ids
as-many services bytes = length-map _ _ ∙ sym (length-map _ _)

pub trips-once : (files : FeedBytes) (trips other : List FeedTrip) → CallsStand files → AreTrips files trips → AreTrips files other → trips ≡ other
trips-once files trips other stand a b =
    same_lists trips other (a.long ∙ sym b.long) (λ k d lt.
    let many : length trips ≡ length (ids_of files) = a.long ∙ as-many (names_in (feed_services files)) files.trips.now in
    let also : length trips ≡ length other = a.long ∙ sym b.long in
    trip-once (trip_calls (stop_rows files) (ids_of files) files.stop_times.now k)
    (slice_index_or (bare_trips (names_in (feed_services files)) files.trips.now) k d) (slice_index_or trips k d) (slice_index_or other k d)
    (stand.calls.hold k (omega arith)) (a.each k d lt) (b.each k d (omega arith)))

-- the files of one feed, read twice
pub record Same (files other : FeedBytes) : Type 0 where
  pub stops : files.stops.now ≡ other.stops.now
  pub calendar : option_copied files.calendar ≡ option_copied other.calendar
  pub dates : option_copied files.dates ≡ option_copied other.dates
  pub trips : files.trips.now ≡ other.trips.now
  pub stop_times : files.stop_times.now ≡ other.stop_times.now
  pub frequencies : option_copied files.frequencies ≡ option_copied other.frequencies

one-text : (o : Option (List ℕ)) (x y : List ℕ) → o ≡ Some x → o ≡ Some y → x ≡ y
one-text o x y a b = let e : Some x ≡ Some y = sym a ∙ b in cc e

pub same-files : (held : Held) (files other : FeedBytes) → AreFeedFiles held files → AreFeedFiles held other → Same files other
same-files held files other a b = record {
  stops = one-text _ _ _ a.stops b.stops;
  calendar = sym a.calendar ∙ b.calendar;
  dates = sym a.dates ∙ b.dates;
  trips = one-text _ _ _ a.trips b.trips;
  stop_times = one-text _ _ _ a.stop_times b.stop_times;
  frequencies = sym a.frequencies ∙ b.frequencies;
}

same-weeks : (o p : Option (Bor (List ℕ))) → option_copied o ≡ option_copied p → weeks_of o ≡ weeks_of p
same-weeks None None e = refl
same-weeks None (Some y) e = cc e
same-weeks (Some x) None e = cc e
same-weeks (Some x) (Some y) e = let now : x.now ≡ y.now = cc e in rw now refl

same-dated : (o p : Option (Bor (List ℕ))) (services : List Service) → option_copied o ≡ option_copied p → dated_of o services ≡ dated_of p services
same-dated None None services e = refl
same-dated None (Some y) services e = cc e
same-dated (Some x) None services e = cc e
same-dated (Some x) (Some y) services e = let now : x.now ≡ y.now = cc e in rw now refl

same-copies : (ids : List (List ℕ)) (o p : Option (Bor (List ℕ))) → option_copied o ≡ option_copied p → copies_in ids o ≡ copies_in ids p
same-copies ids None None e = refl
same-copies ids None (Some y) e = cc e
same-copies ids (Some x) None e = cc e
same-copies ids (Some x) (Some y) e = let now : x.now ≡ y.now = cc e in rw now refl

same-services : (files other : FeedBytes) → Same files other → feed_services files ≡ feed_services other
same-services files other s =
    ap (dated_of files.dates) (same-weeks files.calendar other.calendar s.calendar) ∙ same-dated files.dates other.dates (weeks_of other.calendar) s.dates

pub same-trips : (files other : FeedBytes) (trips : List FeedTrip) → Same files other → AreTrips other trips → AreTrips files trips
same-trips files other trips s a = record {
  long = rw (s.trips, same-services files other s) a.long;
  each = λ k d lt. rw (s.stops, s.trips, s.stop_times, same-services files other s) (a.each k d lt);
}

same-feed : (f g : Feed) → f.stops ≡ g.stops → f.services ≡ g.services → f.trips ≡ g.trips → f.copies ≡ g.copies → f ≡ g
same-feed f g a b c d = λ i. record { stops = a i; services = b i; trips = c i; copies = d i }

-- the files hold one feed
pub feed_once : (held : Held) (feed other : Feed) → IsFeedIn held feed → IsFeedIn held other → feed ≡ other
feed_once held feed other a b =
    let s = same-files held a.files b.files a.hold b.hold in
    let stops : feed.stops ≡ other.stops = a.feed_is.stops ∙ ap feed_stops s.stops ∙ sym b.feed_is.stops in
    let services : feed.services ≡ other.services = a.feed_is.services ∙ same-services a.files b.files s ∙ sym b.feed_is.services in
    let trips : feed.trips ≡ other.trips = trips-once a.files feed.trips other.trips a.accepted.before a.feed_is.trips (same-trips a.files b.files other.trips s b.feed_is.trips) in
    let ids : ids_of a.files ≡ ids_of b.files = ap trip_ids s.trips in
    let copies : feed.copies ≡ other.copies = a.feed_is.copies ∙ ap (λ ids. copies_in ids a.files.frequencies) ids
    ∙ same-copies (ids_of b.files) a.files.frequencies b.files.frequencies s.frequencies ∙ sym b.feed_is.copies in
    same-feed feed other stops services trips copies

-- a table is not both accepted and refused
pub table-not-both : (missing : Option Cause) (rows : List (List (List ℕ))) (broken : ℕ → Option Cause) (row : ℕ) (because : Cause)
    → IsAccepted missing rows broken → IsTableRefusal missing rows broken row because → ⊥
table-not-both missing rows broken row because a (inl r) = let none = a.whole in let some = r.1 in cc (none, some)
table-not-both missing rows broken row because a (inr r) = let none = a.each r.1.place r.1.within in let some = r.1.breaks in cc (none, some)

pub stops-not-both : (bytes : List ℕ) (row : ℕ) (because : Cause) → StopsAccepted bytes → IsStopsRefusal bytes row because → ⊥
stops-not-both bytes row because a (inl t) = table-not-both _ _ _ row because a.rows t
stops-not-both bytes row because a (inr t) = let none = a.few in let some = t.2 in cc (none, some)

pub option-not-both : (P Q : List ℕ → Type 0) → ((bytes : List ℕ) → P bytes → Q bytes → ⊥) → (o p : Option (Bor (List ℕ))) → option_copied o ≡ option_copied p
    → OptionAccepted o P → OptionRefused p Q → ⊥
option-not-both P Q never None None e a r = r
option-not-both P Q never None (Some y) e a r = cc e
option-not-both P Q never (Some x) None e a r = r
option-not-both P Q never (Some x) (Some y) e a r = let now : x.now ≡ y.now = cc e in never y.now (rw now at a) r

one-there : (c d c' d' : Option (Bor (List ℕ))) → option_copied c ≡ option_copied c' → option_copied d ≡ option_copied d' → c' ≡ None → d' ≡ None → IsOneThere c d → ⊥
one-there None None c' d' e f n m h = h
one-there None (Some y) c' d' e f n m h = let g : option_copied d' ≡ None = rw m refl in cc (f, g)
one-there (Some x) d c' d' e f n m h = let g : option_copied c' ≡ None = rw n refl in cc (e, g)

pub services-not-both : (files other : FeedBytes) (file : FileKind) (row : ℕ) (because : Cause) → Same files other → ServicesAccepted files.calendar files.dates
    → IsServicesRefusal other.calendar other.dates file row because → ⊥
services-not-both files other file row because s a (inl t) =
    one-there files.calendar files.dates other.calendar other.dates s.calendar s.dates t.0 t.1 a.one
services-not-both files other file row because s a (inr (inl t)) =
    option-not-both CalendarAccepted (λ bytes. IsCalendarRefusal bytes row because) (λ bytes x y. table-not-both _ _ _ row because x y)
    files.calendar other.calendar s.calendar a.weeks t.1
services-not-both files other file row because s a (inr (inr t)) =
    option-not-both DatesAccepted (λ bytes. IsDatesRefusal bytes row because) (λ bytes x y. table-not-both _ _ _ row because x y)
    files.dates other.dates s.dates a.exceptions t.2

trips-not-both : (calls : ℕ → List KeptCall) (n row : ℕ) (because : Cause) → TripsHold calls n → IsFirstTripFault calls n row because → ⊥
trips-not-both calls n row because hold f =
    let h = hold f.trip f.within f.fault.goes in
    let same = order_unique (calls f.trip) f.fault.sorted h.sorted f.fault.order h.order in
    let some = f.fault.breaks in
    let here = f.fault.here in
    let there : slice_get h.sorted f.fault.place ≡ Some f.fault.call = rw same at here in
    let none = h.together f.fault.place (slice_get_within h.sorted f.fault.place f.fault.call there) in
    let broken = rw same at some in
    cc (none, broken)

pub stop-times-not-both : (stops : StopRows) (trips : List (List ℕ)) (bytes : List ℕ) (row : ℕ) (because : Cause) → StopTimesAccepted stops trips bytes
    → IsStopTimesRefusal stops trips bytes row because → ⊥
stop-times-not-both stops trips bytes row because a (inl t) = table-not-both _ _ _ row because a.rows t
stop-times-not-both stops trips bytes row because a (inr t) = trips-not-both _ _ row because a.hold t.1

frequencies-not-both : (files other : FeedBytes) (row : ℕ) (because : Cause) → Same files other → FeedAccepted files → IsFrequencyRefusal other row because → ⊥
frequencies-not-both files other row because s a r =
    let trips = trips-once files a.trips r.trips a.before a.are (same-trips files other r.trips s r.are) in
    let ids : ids_of files ≡ ids_of other = ap trip_ids s.trips in
    let copies : OptionAccepted files.frequencies (CopiesAccepted (ids_of other) r.trips) = rw (← ids, ← trips) a.copies in
    option-not-both (CopiesAccepted (ids_of other) r.trips) (λ bytes. IsCopiesRefusal (ids_of other) r.trips bytes row because)
    (λ bytes x y. table-not-both _ _ _ row because x y) files.frequencies other.frequencies s.frequencies copies r.refused

feed-not-both : (files other : FeedBytes) (file : FileKind) (row : ℕ) (because : Cause) → Same files other → FeedAccepted files → IsFeedRefusal other file row because → ⊥
feed-not-both files other file row because s a (inl t) = stops-not-both other.stops.now row because (rw (← s.stops) a.before.before.stops) t.1
feed-not-both files other file row because s a (inr (inl t)) = services-not-both files other file row because s a.before.before.services t.1
feed-not-both files other file row because s a (inr (inr (inl t))) =
    let accepted : TripsAccepted other.trips.now = rw (← s.trips) a.before.before.trips in table-not-both _ _ _ row because accepted t.3
feed-not-both files other file row because s a (inr (inr (inr (inl t)))) =
    stop-times-not-both (stop_rows other) (ids_of other) other.stop_times.now row because (rw (← s.stops, ← s.trips, ← s.stop_times) a.before.calls) t.2
feed-not-both files other file row because s a (inr (inr (inr (inr t)))) = frequencies-not-both files other row because s a t.2

-- accepted files break no rule
pub feed_not_both : (held : Held) (feed : Feed) (files : FeedBytes) (file : FileKind) (row : ℕ) (because : Cause) → IsFeedIn held feed → AreFeedFiles held files
    → IsFeedRefusal files file row because → ⊥
feed_not_both held feed files file row because a b r = feed-not-both a.files files file row because (same-files held a.files files a.hold b) a.accepted r
