-- Which answers a compiled value gives, right or not: the listed answers.
--     Sums                       seconds on foot, a row of first walks and a row of last walks
--     AreLeastSums c s t sums    they are the least sums of c from s and to t, in place of the distances
--     IsListedPair c sums d k pair       the pair is a best one of the walk on foot and of the journeys by these rows and the list of c
--     Attains c sums d rides pair        the rides are those of such a journey with the pair, or none on foot
--     IsMade c sums s d t finding        the finding's journey has such rides, and walks of the least seconds of c
--     GoesBySums c s d rides t journey   the journey has these rides, and walks of the least seconds of c
--     IsLeftOut c sums s d t pair        no journey goes so with the rides of some journey that attains the pair
--     IsListedPoint c s d t k found      the answer of c to a point query
--     IsListedSpans c s t k first last foot spans    the answer of c to a range
-- A journey by false rows may arrive at another second than it is made for: the pair is that of the rows and the list.
use Rattle.std.specs.Prelude.{◌≡◌, ◌≢◌, ℕ, ◌-◌, ◌<◌, ◌⊎◌, List, [], ◌∷◌, map, length, All, AllPairs, Contains, Option, IfSome}
use Rattle.std.specs.Option.{option_map}
use Rattle.std.specs.List.{AllAdjacentBelow}
use Rattle.move_model.specs.declared.network.NodeNo.{NodeNo}
use Rattle.move_model.specs.declared.journey.Ride.{Ride}
use Rattle.move_model.specs.declared.journey.Pair.{Pair}
use Rattle.move_model.specs.declared.journey.Journey.{Journey}
use Rattle.move_model.specs.declared.journey.Finding.{Finding}
use Rattle.move_model.specs.declared.journey.Span.{Span}
use Rattle.move_model.specs.declared.journey.SpanFinding.{SpanFinding}
use Rattle.move_model.specs.declared.journey.Profile.{Profile}
use Rattle.move_model.specs.Streets.{Streets, IsWalk}
use Rattle.move_model.specs.Network.{streets}
use Rattle.move_model.specs.Journey.{IsJourney}
use Rattle.move_model.specs.Shortcut.{IsLess}
use Rattle.move_model.specs.Listed.{IsListed}
use Rattle.move_model.specs.Range.{HasFootPair, IsListedBest, IsListedRange, pair_of, without_rides}
use Rattle.move_model.specs.Found.{span_of}
use Rattle.walk_laws.specs.Sums.{IsLeast, HasLeast}
use Rattle.walk_hierarchy.specs.Hierarchy.{Parts, IsUpDownSum}
use Rattle.bucket_walks.specs.Buckets.{HoldsFirst, HoldsLast}
use Rattle.journey_build.specs.Built.{IsBuilt}
use Rattle.network_file.specs.declared.compiled.Compiled.{Compiled}

pub record Sums : Type 0 where
  pub foot : Option ℕ
  pub first : List (Option ℕ)
  pub last : List (Option ℕ)

pub record AreLeastSums (c : Compiled) (s t : NodeNo) (sums : Sums) : Type 0 where
  pub foot : HasLeast (IsUpDownSum c.hierarchy s t) sums.foot
  pub first : HoldsFirst c.hierarchy c.buckets s sums.first
  pub last : HoldsLast c.hierarchy c.buckets t sums.last

abbrev pub IsListedPair : Compiled → Sums → ℕ → ℕ → Pair → Type 0
IsListedPair c sums d limit pair = IsListedBest c.network sums.first sums.last c.shortcuts sums.foot d limit pair

abbrev pub AttainsByRides : Compiled → Sums → ℕ → List Ride → Pair → Type 0
AttainsByRides c sums d rides pair =
    IsListed c.network sums.first sums.last c.shortcuts d rides pair.arrive × (length rides ≡ pair.trips)

abbrev pub Attains : Compiled → Sums → ℕ → List Ride → Pair → Type 0
Attains c sums d rides pair = ((rides ≡ []) × HasFootPair sums.foot d pair) ⊎ AttainsByRides c sums d rides pair

pub record IsMade (c : Compiled) (sums : Sums) (s : NodeNo) (d : ℕ) (t : NodeNo) (finding : Finding) : Type 0 where
  pub attains : Attains c sums d finding.journey.rides finding.pair
  pub built : IsBuilt c.network c.hierarchy s d finding.journey.rides t finding.journey

-- a walk that has the least seconds of arcs up and arcs down between its ends
pub record HasLeastSum (g : Streets) (h : Parts) (walk : List NodeNo) : Type 0 where
  pub from : NodeNo
  pub to : NodeNo
  pub seconds : ℕ
  pub walks : IsWalk g from walk to seconds
  pub least : IsLeast (IsUpDownSum h from to) seconds

pub record GoesBySums (c : Compiled) (s : NodeNo) (d : ℕ) (rides : List Ride) (t : NodeNo) (journey : Journey) : Type 0 where
  pub departs : journey.depart ≡ d
  pub same_rides : journey.rides ≡ rides
  pub arrive : ℕ
  pub leads : IsJourney c.network s journey t arrive
  pub walks : All (HasLeastSum (streets c.network) c.hierarchy) journey.walks

-- a pair on foot is never left out
pub record IsLeftOut (c : Compiled) (sums : Sums) (s : NodeNo) (d : ℕ) (t : NodeNo) (pair : Pair) : Type 0 where
  pub rides : List Ride
  pub attains : AttainsByRides c sums d rides pair
  pub none : (journey : Journey) → GoesBySums c s d rides t journey → ⊥

abbrev pub pairs_of : List Finding → List Pair
pairs_of found = map (λ finding. finding.pair) found

-- exactly the best pairs that are not left out, by rising number of rides
pub record IsListedPoint (c : Compiled) (s : NodeNo) (d : ℕ) (t : NodeNo) (limit : ℕ) (found : List Finding) : Type 0 where
  pub sums : Sums
  pub least : AreLeastSums c s t sums
  pub best : All (IsListedPair c sums d limit) (pairs_of found)
  pub made : All (IsMade c sums s d t) found
  pub whole : (pair : Pair) → IsListedPair c sums d limit pair → Contains (pairs_of found) pair ⊎ IsLeftOut c sums s d t pair
  pub rising : AllAdjacentBelow (λ p q. p.trips < q.trips) (pairs_of found) (length (pairs_of found))

-- the first, last, trips and arrival of spans
abbrev pub outlines : List Span → List Span
outlines spans = map without_rides spans

-- The walk on foot where there is one, and exactly the spans that are not left out. Each pair has one span at most, and they
-- stand by rising first second and then trips.
pub record IsListedSpans (c : Compiled) (s t : NodeNo) (limit first last : ℕ) (foot : Option Finding) (spans : List SpanFinding) : Type 0 where
  pub sums : Sums
  pub least : AreLeastSums c s t sums
  pub on_foot : option_map (λ finding. finding.pair.arrive - first) foot ≡ sums.foot
  pub no_trip : IfSome foot (λ finding. finding.pair.trips ≡ 0)
  pub foot_made : IfSome foot (IsMade c sums s first t)
  pub profile : Profile
  pub range : IsListedRange c.network sums.first sums.last c.shortcuts sums.foot limit first last profile
  pub best : All (Contains (outlines profile.spans)) (outlines (map span_of spans))
  pub made : All (λ found. IsMade c sums s found.last t found.finding) spans
  pub whole : All (λ span. Contains (outlines (map span_of spans)) span ⊎ IsLeftOut c sums s span.last t (pair_of span)) (outlines profile.spans)
  pub one_each : AllPairs (λ a b. pair_of a ≢ pair_of b) (map span_of spans)
  pub in_order : AllAdjacentBelow (λ a b. IsLess (a.first ∷ a.trips ∷ []) (b.first ∷ b.trips ∷ [])) (map span_of spans) (length (map span_of spans))
