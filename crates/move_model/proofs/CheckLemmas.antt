-- Facts on lists, place by place, and the order of trips.
use Rattle.std.proofs.Common.{◌≡◌, ◌+◌, ◌-◌, ◌<◌, ◌≤◌, ℕ, zero, suc, arith, List, [], length, take, drop, get_or, false, sym}
use Rattle.std.specs.Prelude.{All}
use Rattle.std.specs.List.{AllAdjacentBelow}
use Rattle.std.proofs.lemmas.List.Sorted.{all_adjacent_more}
use Rattle.std.proofs.lemmas.List.{take_all, drop_more, drop_all}
use Rattle.std.proofs.lemmas.List.Elements.{All-more, All-same}
use Rattle.move_model.specs.declared.network.Call.{Call}
use Rattle.move_model.specs.declared.network.Network.{Network}
use Rattle.move_model.specs.Network.{IsAtOrBefore}
use Rattle.move_model.specs.Check.{HasNodes, Joins, IsShort, Stands, IsLong, IsAtStop, GoesOn, AreTimed, Precedes, KeepsRules}

-- one more item has the property
pub All-one_more : {X : Type 0} (P : X → Type 0) (xs : List X) (i : ℕ) (x : X) → i < length xs → x ≡ get_or xs i x
    → All P (take i xs) → P x → All P (take (i + 1) xs)
All-one_more P xs i x within is all here = All-more P xs i x within all (rw (← is) here)

-- what the items before the end have, all have
pub All-whole : {X : Type 0} (P : X → Type 0) (xs : List X) (i : ℕ) → length xs ≤ i → All P (take i xs) → All P xs
All-whole P xs i end all = All-same P xs (take i xs) (sym (take_all i xs end)) all

abbrev pub no-call : Call
no-call = record { stop = record { 0 = 0 }; arr = 0; dep = 0; board = false; alight = false }

-- calls that go on where the others have ended are not before them
pub not-before_end : (calls next : List Call) (i : ℕ) → i < length calls → length next ≤ i
    → IsAtOrBefore (drop i calls) (drop i next) → ⊥
not-before_end calls next i within end before =
    let here = drop_more calls i no-call within in
    let none : drop i next ≡ [] = drop_all i next end in
    rw (here, none) at before

-- no second falls up to one more call
pub go_on-one_more : (calls : List Call) (i : ℕ) → AllAdjacentBelow GoesOn calls i
    → (0 < i → (d : Call) → GoesOn (get_or calls (i - 1) d) (get_or calls i d)) → AllAdjacentBelow GoesOn calls (i + 1)
go_on-one_more calls zero all here = λ k d below. absurd (omega arith)
go_on-one_more calls (suc i) all here = all_adjacent_more calls GoesOn (suc i) (omega arith) all (here (omega arith))

pub keeps-rules : (n : Network) → HasNodes n → All (Joins n) n.arcs → All IsShort n.arcs → All (Stands n) n.stops → All IsLong n.trips
    → All (λ trip. All (IsAtStop n) trip.calls) n.trips → All (λ trip. AreTimed trip.calls) n.trips
    → AllAdjacentBelow Precedes n.trips (length n.trips) → n.buffer ≤ 3600 → KeepsRules n
keeps-rules n nodes joins short stand long at timed order buffer = record {
  network = record {
    streets_join = record { has_node = nodes.0; arcs_join = joins };
    stops_stand = stand;
    trips_go = λ k d below. record {
      two_calls = long k d below;
      at_stops = at k d below;
      stays = λ j e within. ((timed k d below).stay j e within).0;
      goes_on = (timed k d below).go_on;
    };
    trips_in_order = order;
  };
  has_nodes = nodes;
  arcs_short = short;
  within_day = λ k d below. (timed k d below).stay;
  buffer = buffer;
}
