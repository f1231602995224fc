-- Jumps over routes of a chain that a trip can't join: their last trips have one bound, and it is later than the trip somewhere.
--     IsUnder low calls n        no second of the first n calls of low is after that of the trip's call
--     IsBound low calls          the same of all calls, and there are as many
--     Bounds key trips ..        of the routes from g down to the jump each last trip is bounded by low
--     IsJump key trips ..        a jump stays in the chain, and the routes that it leaps over are bounded
--     AreJumps key trips ..      each route has a jump
--     AreJumped trips ..         the same, by the last trip of each route
--     IsBehind key trips ..      no route of the chain between the route g and the link behind it can take the trip u
use Rattle.std.specs.Prelude.{◌≡◌, ℕ, ◌-◌, ◌<◌, ◌≤◌, List, [], length, slice_index, slice_index_or}
use Rattle.move_model.specs.declared.network.Trip.{Trip}
use Rattle.move_model.specs.declared.network.Call.{Call}
use Rattle.route_split.specs.Routes.{IsNoLater}
use Rattle.route_split.specs.Split.{CannotStand}
use Rattle.route_split.specs.Fill.{no_call, trip_at}
use Rattle.route_split.specs.Chains.{bucket_of}

abbrev pub IsUnder : List Call → List Call → ℕ → Type 0
IsUnder low calls n = (k : ℕ) → k < n
    → ((slice_index_or low k no_call).arr ≤ (slice_index_or calls k no_call).arr) × ((slice_index_or low k no_call).dep ≤ (slice_index_or calls k no_call).dep)

pub record IsBound (low calls : List Call) : Type 0 where
  pub as_many : length low ≡ length calls
  pub no_later : IsNoLater low calls

abbrev pub Bounds : (ℕ → ℕ) → List Trip → List ℕ → List Call → ℕ → ℕ → Type 0
Bounds key trips lasts low jump g = (h : ℕ) → h ≤ g → jump ≤ h → key h ≡ key g → IsBound low (trip_at trips (slice_index lasts h)).calls

-- a jump to the next route leaps over one route alone, and needs no bound
pub record IsJump (key : ℕ → ℕ) (trips : List Trip) (lasts : List ℕ) (low : List Call) (next jump g : ℕ) : Type 0 where
  pub low_enough : jump ≤ next
  pub in_chain : 0 < jump → key (jump - 1) ≡ key g
  pub bounds : (jump ≡ next → ⊥) → Bounds key trips lasts low jump g

pub record AreJumps (key : ℕ → ℕ) (trips : List Trip) (lasts nexts jumps : List ℕ) (lows : List (List Call)) : Type 0 where
  pub one_each : length jumps ≡ length lasts
  pub low_each : length lows ≡ length lasts
  pub jump : (g : ℕ) → g < length lasts → IsJump key trips lasts (slice_index_or lows g []) (slice_index nexts g) (slice_index jumps g) g

abbrev pub AreJumped : List Trip → ℕ → List ℕ → List ℕ → List ℕ → List (List Call) → Type 0
AreJumped trips size lasts nexts jumps lows = AreJumps (λ g. bucket_of trips size (slice_index lasts g)) trips lasts nexts jumps lows

pub record IsBehind (key : ℕ → ℕ) (trips : List Trip) (lasts : List ℕ) (u g link : ℕ) : Type 0 where
  pub low : link ≤ g
  pub on : 0 < link → key (link - 1) ≡ key g
  pub none : (h : ℕ) → h < g → link ≤ h → key h ≡ key g → CannotStand trips (slice_index lasts h) u
