-- The rules of a network within the limits, and the first that is broken.
--     KeepsRules n               every rule holds
--     IsFirstWithout P xs i      the item at place i lacks P, and every earlier one has it
--     IsFirstUntimed calls j     the seconds fall, or pass the last of a day, at call j, and at no earlier call
--     IsFirstUnordered trips i   trip i comes before the trip ahead of it, and no earlier one does
--     IsFirstFault n fault       the fault names the first broken rule, and the first place where it is broken
use Rattle.std.specs.Prelude.{◌≡◌, ◌-◌, ◌<◌, ◌≤◌, ◌⊎◌, ℕ, List, length, take, slice_get, All, Some}
use Rattle.std.specs.List.{AllAdjacentBelow}
use Rattle.move_model.specs.declared.network.Network.{Network}
use Rattle.move_model.specs.declared.network.Arc.{Arc}
use Rattle.move_model.specs.declared.network.Stop.{Stop}
use Rattle.move_model.specs.declared.network.Call.{Call}
use Rattle.move_model.specs.declared.network.Trip.{Trip}
use Rattle.move_model.specs.declared.check.NetFault.{NetFault}
use Rattle.move_model.specs.declared.check.NetFault.TheVariants as fault
use Rattle.move_model.specs.Streets.{IsVertex}
use Rattle.move_model.specs.Network.{streets, IsNetwork, IsAtOrBefore}

-- from 1 to 2,000,000 vertices
abbrev pub HasNodes : Network → Type 0
HasNodes n = (1 ≤ n.nodes) × (n.nodes ≤ 2000000)

abbrev pub Joins : Network → Arc → Type 0
Joins n arc = IsVertex (streets n) arc.from × IsVertex (streets n) arc.to

abbrev pub IsShort : Arc → Type 0
IsShort arc = arc.seconds ≤ 1000000

abbrev pub Stands : Network → Stop → Type 0
Stands n stop = IsVertex (streets n) stop.node

abbrev pub IsLong : Trip → Type 0
IsLong trip = 2 ≤ length trip.calls

abbrev pub IsAtStop : Network → Call → Type 0
IsAtStop n call = call.stop.0 < length n.stops

-- a call departs when it arrives or later, and by the last second of a day
abbrev pub Stays : Call → Type 0
Stays call = (call.arr ≤ call.dep) × (call.dep ≤ 3599999)

abbrev pub GoesOn : Call → Call → Type 0
GoesOn call next = call.dep ≤ next.arr

-- no second of the calls falls
pub record AreTimed (calls : List Call) : Type 0 where
  pub stay : All Stays calls
  pub go_on : AllAdjacentBelow GoesOn calls (length calls)

abbrev pub Precedes : Trip → Trip → Type 0
Precedes trip next = IsAtOrBefore trip.calls next.calls

-- the rules of a network, with the limits on vertices, on the seconds of an arc and of a day, and on the buffer
pub record KeepsRules (n : Network) : Type 0 where
  pub network : IsNetwork n
  pub has_nodes : HasNodes n
  pub arcs_short : All IsShort n.arcs
  pub within_day : All (λ trip. All Stays trip.calls) n.trips
  pub buffer : n.buffer ≤ 3600

pub record IsFirstWithout {X : Type 0} (P : X → Type 0) (xs : List X) (i : ℕ) : Type 0 where
  pub item : X
  pub at : slice_get xs i ≡ Some item
  pub earlier : All P (take i xs)
  pub broken : ¬ P item

pub record IsFirstUntimed (calls : List Call) (j : ℕ) : Type 0 where
  pub call : Call
  pub at : slice_get calls j ≡ Some call
  pub earlier_stay : All Stays (take j calls)
  pub earlier_go_on : AllAdjacentBelow GoesOn calls j
  pub broken : (¬ Stays call) ⊎ ((before : Call) × (0 < j) × (slice_get calls (j - 1) ≡ Some before) × (¬ GoesOn before call))

pub record IsFirstUnordered (trips : List Trip) (i : ℕ) : Type 0 where
  pub trip : Trip
  pub next : Trip
  pub later : 0 < i
  pub before : slice_get trips (i - 1) ≡ Some trip
  pub at : slice_get trips i ≡ Some next
  pub earlier : AllAdjacentBelow Precedes trips i
  pub broken : ¬ Precedes trip next

-- the first trip that lacks a rule of its calls, and the first call of it that breaks the rule
pub record IsFirstCall (P : List Call → Type 0) (first : List Call → ℕ → Type 0) (trips : List Trip) (i j : ℕ) : Type 0 where
  pub trip : Trip
  pub at : slice_get trips i ≡ Some trip
  pub earlier : All (λ trip. P trip.calls) (take i trips)
  pub broken : first trip.calls j

unfoldable pub IsFirstFault : Network → NetFault → Type 0
IsFirstFault n (fault.Nodes count) = (count ≡ n.nodes) × ¬ (HasNodes n)
IsFirstFault n (fault.ArcEnd i) = HasNodes n × IsFirstWithout (Joins n) n.arcs i
IsFirstFault n (fault.ArcSeconds i) = HasNodes n × All (Joins n) n.arcs × IsFirstWithout IsShort n.arcs i
IsFirstFault n (fault.StopNode i) = HasNodes n × All (Joins n) n.arcs × All IsShort n.arcs × IsFirstWithout (Stands n) n.stops i
IsFirstFault n (fault.TripShort i) =
    HasNodes n × All (Joins n) n.arcs × All IsShort n.arcs × All (Stands n) n.stops × IsFirstWithout IsLong n.trips i
IsFirstFault n (fault.CallStop i j) =
    HasNodes n × All (Joins n) n.arcs × All IsShort n.arcs × All (Stands n) n.stops × All IsLong n.trips
    × IsFirstCall (All (IsAtStop n)) (IsFirstWithout (IsAtStop n)) n.trips i j
IsFirstFault n (fault.CallTimes i j) =
    HasNodes n × All (Joins n) n.arcs × All IsShort n.arcs × All (Stands n) n.stops × All IsLong n.trips
    × All (λ trip. All (IsAtStop n) trip.calls) n.trips × IsFirstCall AreTimed IsFirstUntimed n.trips i j
IsFirstFault n (fault.TripOrder i) =
    HasNodes n × All (Joins n) n.arcs × All IsShort n.arcs × All (Stands n) n.stops × All IsLong n.trips
    × All (λ trip. All (IsAtStop n) trip.calls) n.trips × All (λ trip. AreTimed trip.calls) n.trips × IsFirstUnordered n.trips i
IsFirstFault n (fault.Buffer seconds) =
    HasNodes n × All (Joins n) n.arcs × All IsShort n.arcs × All (Stands n) n.stops × All IsLong n.trips
    × All (λ trip. All (IsAtStop n) trip.calls) n.trips × All (λ trip. AreTimed trip.calls) n.trips
    × AllAdjacentBelow Precedes n.trips (length n.trips) × (seconds ≡ n.buffer) × (3600 < n.buffer)
