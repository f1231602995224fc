-- Spans of a range that are open and closed, while a search goes from its last second back.
--     RangeQuery                     a network, the rows, the list of transfers, the foot entry and the limit of rides
--     IsBestRide q d pair            the pair is best of who leaves at second d, and rides
--     IsLead leads pair              the leads, by number of rides from 1 on, have the pair
--     Tells q d leads                the leads are the pairs that are best at second d and ride
--     IsOpen open d pair             an open span has the pair, and second d does not lie behind it
--     span_of trips first s          the open span, closed at a first second
--     Closing lead trips first ..    the open span is closed unless the lead has its arrival
--     Opens q d leads before after   each lead is open, those that were not since second d
--     BeginLater first spans         each of the spans begins after this second
--     Stands q first last open spans     from second first to last, open and closed spans offer exactly the best pairs
use Rattle.std.specs.Prelude.{◌≡◌, ◌≢◌, ℕ, ◌+◌, ◌<◌, ◌≤◌, ◌⊎◌, ◌↔◌, List, [], ◌∷◌, ◌++◌, length, slice_get, AllPairs, Contains, Option, Some, None}
use Rattle.std.specs.List.{AllAdjacentBelow}
use Rattle.move_model.specs.declared.network.Network.{Network}
use Rattle.move_model.specs.declared.journey.Pair.{Pair}
use Rattle.move_model.specs.declared.journey.Shortcut.{Shortcut}
use Rattle.move_model.specs.declared.journey.Span.{Span}
use Rattle.move_model.specs.Shortcut.{IsLess}
use Rattle.move_model.specs.Listed.{IsListed}
use Rattle.move_model.specs.Range.{IsListedBest, HasSpanPair, IsSpanWithin, CarriesRides, pair_of}
use Rattle.range_spans.specs.declared.pending.OpenSpan.{OpenSpan}

pub record RangeQuery : Type 0 where
  pub network : Network
  pub first_row : List (Option ℕ)
  pub last_row : List (Option ℕ)
  pub list : List Shortcut
  pub foot : Option ℕ
  pub limit : ℕ

pub record IsBestRide (q : RangeQuery) (d : ℕ) (pair : Pair) : Type 0 where
  pub best : IsListedBest q.network q.first_row q.last_row q.list q.foot d q.limit pair
  pub rides : 1 ≤ pair.trips

pub record IsLead (leads : List (Option ℕ)) (pair : Pair) : Type 0 where
  pub place : ℕ
  pub trips_are : pair.trips ≡ place + 1
  pub lead_is : slice_get leads place ≡ Some (Some pair.arrive)

abbrev pub Tells : RangeQuery → ℕ → List (Option ℕ) → Type 0
Tells q d leads = (pair : Pair) → IsBestRide q d pair ↔ IsLead leads pair

pub record IsOpen (open' : List (Option OpenSpan)) (d : ℕ) (pair : Pair) : Type 0 where
  pub place : ℕ
  pub span : OpenSpan
  pub trips_are : pair.trips ≡ place + 1
  pub is_span : slice_get open' place ≡ Some (Some span)
  pub arrive_is : pair.arrive ≡ span.arrive
  pub reaches : d ≤ span.last

abbrev pub span_of : ℕ → ℕ → OpenSpan → Span
span_of trips first s = record { first = first; last = s.last; trips = trips; arrive = s.arrive; rides = s.rides }

pub data Closing (lead : Option ℕ) (trips first : ℕ) : Option OpenSpan → Option OpenSpan → List Span → List Span → Type 0 where
  stays : {open' : Option OpenSpan} {closed : List Span} → ((s : OpenSpan) → open' ≡ Some s → lead ≡ Some s.arrive)
      → Closing lead trips first open' open' closed closed
  closes : {s : OpenSpan} {closed : List Span} → (lead ≡ Some s.arrive → ⊥)
      → Closing lead trips first (Some s) None closed (closed ++ span_of trips first s ∷ [])

abbrev pub BeginLater : ℕ → List Span → Type 0
BeginLater first spans = (s : Span) → Contains spans s → first < s.first

pub record Stands (q : RangeQuery) (first last : ℕ) (open' : List (Option OpenSpan)) (spans : List Span) : Type 0 where
  pub cover : (d : ℕ) (pair : Pair) → first ≤ d → d ≤ last → IsBestRide q d pair ↔ (HasSpanPair spans d pair ⊎ IsOpen open' d pair)
  pub within : (s : Span) → Contains spans s → IsSpanWithin first last s
  pub open_within : (k : ℕ) (s : OpenSpan) → slice_get open' k ≡ Some (Some s) → (first ≤ s.last) × (s.last ≤ last)
  -- a closed span's pair is not best before it
  pub ended : (s : Span) (d : ℕ) → Contains spans s → first ≤ d → d < s.first → IsBestRide q d (pair_of s) → ⊥
  pub one_each : AllPairs (λ a b. pair_of a ≢ pair_of b) spans
  pub in_order : AllAdjacentBelow (λ a b. IsLess (a.first ∷ a.trips ∷ []) (b.first ∷ b.trips ∷ [])) spans (length spans)
  pub rides : (s : Span) → Contains spans s → CarriesRides q.network q.first_row q.last_row q.list s
  pub open_rides : (k : ℕ) (s : OpenSpan) → slice_get open' k ≡ Some (Some s)
      → IsListed q.network q.first_row q.last_row q.list s.last s.rides s.arrive × (length s.rides ≡ k + 1)

-- a span that is opened at second d, with rides of a listed journey from then on
pub record IsOpened (q : RangeQuery) (d : ℕ) (leads : List (Option ℕ)) (k : ℕ) (s : OpenSpan) : Type 0 where
  pub last_is : s.last ≡ d
  pub lead_is : slice_get leads k ≡ Some (Some s.arrive)
  pub listed : IsListed q.network q.first_row q.last_row q.list d s.rides s.arrive
  pub many : length s.rides ≡ k + 1

pub record Opens (q : RangeQuery) (d : ℕ) (leads : List (Option ℕ)) (before after : List (Option OpenSpan)) : Type 0 where
  pub each : (k : ℕ) (s : OpenSpan) → slice_get after k ≡ Some (Some s) → (slice_get before k ≡ Some (Some s)) ⊎ IsOpened q d leads k s
  pub stay : (k : ℕ) (s : OpenSpan) → slice_get before k ≡ Some (Some s) → slice_get after k ≡ Some (Some s)
  pub all : (k arrive : ℕ) → slice_get leads k ≡ Some (Some arrive) → (s : OpenSpan) × (slice_get after k ≡ Some (Some s)) × (s.arrive ≡ arrive)
