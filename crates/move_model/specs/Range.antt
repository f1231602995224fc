-- What the answer to a range query is: which pairs are best at each second of a window.
--     HasFootPair foot d pair              on foot from second d, with no ride
--     Covers span d                        the second lies in the span
--     pair_of span                         the span's arrival and number of trips
--     IsOffered foot spans d pair          the pair on foot at second d, or that of a span that covers d
--     IsRangeOf best first last foot spans     at every second from first to last, foot and spans offer exactly the best pairs
--     IsRange n s t k first last profile       best are the pairs of the Pareto set of all journeys with at most k rides
--     HasListedPair .. d pair              on foot by the foot entry, or by a listed journey from second d
--     IsListedBest .. d k pair             no other such pair of at most k rides is as good in both parts
--     IsListedRange .. k first last profile    the same as IsRange for listed journeys and a foot entry
--     CarriesRides n first_row last_row list span    the span's rides are a listed journey from its last second, with its pair
--     outline profile                      its foot and its spans, without their rides
--     IsCatch n row d                      who leaves at second d and walks by the row just catches a ride
--     AreDepartures n row first last ds    last and all such seconds from first to last, falling, each once
-- In all of these `first` and `last` are the seconds between which a passenger may leave, both included;
-- `first_row` and `last_row` hold the seconds of the walks to the first and from the last stop.
use Rattle.std.specs.Prelude.{◌≡◌, ◌≢◌, ℕ, ◌+◌, ◌<◌, ◌≤◌, ◌⊎◌, ◌↔◌, IsTrue, List, [], ◌∷◌, map, length, All, AllPairs, Contains, Option, Some}
use Rattle.std.specs.List.{AllAdjacentBelow}
use Rattle.move_model.specs.declared.network.Network.{Network}
use Rattle.move_model.specs.declared.network.NodeNo.{NodeNo}
use Rattle.move_model.specs.declared.network.TripNo.{TripNo}
use Rattle.move_model.specs.declared.network.Call.{Call}
use Rattle.move_model.specs.declared.journey.Ride.{Ride}
use Rattle.move_model.specs.declared.journey.Pair.{Pair}
use Rattle.move_model.specs.declared.journey.Shortcut.{Shortcut}
use Rattle.move_model.specs.declared.journey.Span.{Span}
use Rattle.move_model.specs.declared.journey.Profile.{Profile}
use Rattle.move_model.specs.Streets.{HasDistance}
use Rattle.move_model.specs.Network.{streets}
use Rattle.move_model.specs.Journey.{HasCall, IsNoWorse, IsBest}
use Rattle.move_model.specs.Shortcut.{IsLess}
use Rattle.move_model.specs.Listed.{HasEntry, IsListed}

pub record HasFootPair (foot : Option ℕ) (d : ℕ) (pair : Pair) : Type 0 where
  pub seconds : ℕ
  pub foot_is : foot ≡ Some seconds
  pub arrive_is : pair.arrive ≡ d + seconds
  pub no_trip : pair.trips ≡ 0

abbrev pub Covers : Span → ℕ → Type 0
Covers span d = (span.first ≤ d) × (d ≤ span.last)

abbrev pub pair_of : Span → Pair
pair_of span = record { arrive = span.arrive; trips = span.trips }

-- the pair of some span that covers the second
pub record HasSpanPair (spans : List Span) (d : ℕ) (pair : Pair) : Type 0 where
  pub span : Span
  pub is_span : Contains spans span
  pub covers : Covers span d
  pub pair_is : pair_of span ≡ pair

abbrev pub IsOffered : Option ℕ → List Span → ℕ → Pair → Type 0
IsOffered foot spans d pair = HasFootPair foot d pair ⊎ HasSpanPair spans d pair

-- a span has a ride and a second, and lies between first and last
pub record IsSpanWithin (first last : ℕ) (span : Span) : Type 0 where
  pub some_trip : 1 ≤ span.trips
  pub begins : first ≤ span.first
  pub some_second : span.first ≤ span.last
  pub ends : span.last ≤ last

-- `best d` are the best pairs of who leaves at second d. A pair has one span at most: so a span reaches over all
-- seconds from first to last at which its pair is best.
pub record IsRangeOf (best : ℕ → Pair → Type 0) (first last : ℕ) (foot : Option ℕ) (spans : List Span) : Type 0 where
  pub within : All (IsSpanWithin first last) spans
  pub exact : (d : ℕ) → first ≤ d → d ≤ last → (pair : Pair) → IsOffered foot spans d pair ↔ best d pair
  pub one_each : AllPairs (λ a b. pair_of a ≢ pair_of b) spans
  pub in_order : AllAdjacentBelow (λ a b. IsLess (a.first ∷ a.trips ∷ []) (b.first ∷ b.trips ∷ [])) spans (length spans)

-- over the whole network, from s to t with at most `limit` rides
pub record IsRange (n : Network) (s t : NodeNo) (limit first last : ℕ) (profile : Profile) : Type 0 where
  pub foot : HasDistance (streets n) s t profile.foot
  pub spans : IsRangeOf (λ d pair. IsBest n s d t limit pair) first last profile.foot profile.spans

-- a listed journey from second d with this arrival and number of rides
pub record HasRidesPair (n : Network) (first_row last_row : List (Option ℕ)) (list : List Shortcut) (d : ℕ) (pair : Pair) : Type 0 where
  pub rides : List Ride
  pub listed : IsListed n first_row last_row list d rides pair.arrive
  pub many : length rides ≡ pair.trips

abbrev pub HasListedPair : Network → List (Option ℕ) → List (Option ℕ) → List Shortcut → Option ℕ → ℕ → Pair → Type 0
HasListedPair n first_row last_row list foot d pair = HasFootPair foot d pair ⊎ HasRidesPair n first_row last_row list d pair

-- some such journey with at most `limit` rides has the pair, and none has another pair that is as good in both parts
pub record IsListedBest (n : Network) (first_row last_row : List (Option ℕ)) (list : List Shortcut) (foot : Option ℕ) (d limit : ℕ) (pair : Pair) : Type 0 where
  pub within : pair.trips ≤ limit
  pub attained : HasListedPair n first_row last_row list foot d pair
  pub best : (other : Pair) → other.trips ≤ limit → HasListedPair n first_row last_row list foot d other → IsNoWorse other pair → other ≡ pair

-- by the rows, the list and the foot entry, with at most `limit` rides
pub record IsListedRange (n : Network) (first_row last_row : List (Option ℕ)) (list : List Shortcut) (foot : Option ℕ) (limit first last : ℕ) (profile : Profile) : Type 0 where
  pub foot_is : profile.foot ≡ foot
  pub spans : IsRangeOf (λ d pair. IsListedBest n first_row last_row list foot d limit pair) first last foot profile.spans

pub record CarriesRides (n : Network) (first_row last_row : List (Option ℕ)) (list : List Shortcut) (span : Span) : Type 0 where
  pub listed : IsListed n first_row last_row list span.last span.rides span.arrive
  pub many : length span.rides ≡ span.trips

abbrev pub without_rides : Span → Span
without_rides span = record span { rides = [] }

abbrev pub outline : Profile → Profile
outline profile = record { foot = profile.foot; spans = map without_rides profile.spans }

-- some call that may be boarded, and is not its trip's last, departs when the passenger is ready there
pub record IsCatch (n : Network) (row : List (Option ℕ)) (d : ℕ) : Type 0 where
  pub trip : TripNo
  pub place : ℕ
  pub call : Call
  pub next : Call
  pub seconds : ℕ
  pub calls : HasCall n trip place call
  pub may_board : IsTrue call.board
  pub goes_on : HasCall n trip (place + 1) next
  pub walk : HasEntry row call.stop seconds
  pub departs : call.dep ≡ d + seconds + n.buffer

-- whoever leaves between two of them catches no ride that is missed from the later of the two
pub record AreDepartures (n : Network) (row : List (Option ℕ)) (first last : ℕ) (ds : List ℕ) : Type 0 where
  pub exact : (d : ℕ) → Contains ds d ↔ ((d ≡ last) ⊎ ((first ≤ d) × (d ≤ last) × IsCatch n row d))
  pub falling : AllAdjacentBelow (λ a b. b < a) ds (length ds)
