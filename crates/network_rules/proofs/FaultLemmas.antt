-- A network with a fault does not keep the rules.
use Rattle.std.proofs.Common.{◌≡◌, ℕ, ◌+◌, ◌-◌, ◌<◌, ◌≤◌, List, length, get_or, Some, sym, subst, inl, inr, arith}
use Rattle.std.specs.Prelude.{slice_get, All}
use Rattle.std.specs.List.{AllAdjacentBelow}
use Rattle.std.proofs.lemmas.Option.{slice_get_within, get_or_from_slice_get}
use Rattle.move_model.specs.declared.network.Network.{Network}
use Rattle.move_model.specs.declared.network.Call.{Call}
use Rattle.move_model.specs.declared.network.Trip.{Trip}
use Rattle.move_model.specs.declared.check.NetFault.{NetFault}
use Rattle.move_model.specs.declared.check.NetFault.TheVariants as fault
use Rattle.move_model.specs.Check.{Joins, IsShort, Stands, IsLong, IsAtStop, Stays, GoesOn, AreTimed, Precedes, KeepsRules, IsFirstWithout, IsFirstUntimed, IsFirstFault}

at : {X : Type 0} (P : X → Type 0) (xs : List X) (i : ℕ) (x : X) → All P xs → slice_get xs i ≡ Some x → P x
at P xs i x all e = subst P (get_or_from_slice_get xs i x x e) (all i x (slice_get_within xs i x e))

without : {X : Type 0} (P : X → Type 0) (xs : List X) (i : ℕ) → IsFirstWithout P xs i → All P xs → ⊥
without P xs i first all = first.broken (at P xs i first.item all first.at)

-- two neighbours
beside : {X : Type 0} (R : X → X → Type 0) (xs : List X) (i : ℕ) (x y : X) → 0 < i → slice_get xs (i - 1) ≡ Some x → slice_get xs i ≡ Some y
    → AllAdjacentBelow R xs (length xs) → R x y
beside {X} R xs i x y later before here all =
    let next : i - 1 + 1 ≡ i = omega arith in
    let within : i - 1 + 1 < length xs = omega (arith, next, slice_get_within xs i y here) in
    let pair = all (i - 1) x within in
    let right : get_or xs (i - 1 + 1) x ≡ y = rw next (get_or_from_slice_get xs i y x here) in
    subst (λ (z : X). R x z) right (subst (λ (z : X). R z (get_or xs (i - 1 + 1) x)) (get_or_from_slice_get xs (i - 1) x x before) pair)

untimed : (calls : List Call) (j : ℕ) → IsFirstUntimed calls j → All Stays calls → AllAdjacentBelow GoesOn calls (length calls) → ⊥
untimed calls j first stay go_on =
    elim first.broken [
      | inl bad ↦ bad (at Stays calls j first.call stay first.at)
      | inr bad ↦ bad.3 (beside GoesOn calls j bad.0 first.call bad.1 bad.2 first.at go_on)
    ]

pub no_fault : (n : Network) (f : NetFault) → IsFirstFault n f → KeepsRules n → ⊥
unfolding IsFirstFault
no_fault n (fault.Nodes count) h k = h.1 k.has_nodes
no_fault n (fault.ArcEnd i) h k = without (Joins n) n.arcs i h.1 k.network.streets_join.arcs_join
no_fault n (fault.ArcSeconds i) h k = without IsShort n.arcs i h.2 k.arcs_short
no_fault n (fault.StopNode i) h k = without (Stands n) n.stops i h.3 k.network.stops_stand
no_fault n (fault.TripShort i) h k = without IsLong n.trips i h.4 (λ j d lt. (k.network.trips_go j d lt).two_calls)
no_fault n (fault.CallStop i j) h k =
    without (IsAtStop n) h.5.trip.calls j h.5.broken (at (λ (t : Trip). All (IsAtStop n) t.calls) n.trips i h.5.trip (λ m d lt. (k.network.trips_go m d lt).at_stops) h.5.at)
no_fault n (fault.CallTimes i j) h k =
    untimed h.6.trip.calls j h.6.broken (at (λ (t : Trip). All Stays t.calls) n.trips i h.6.trip k.within_day h.6.at)
    (at (λ (t : Trip). AllAdjacentBelow GoesOn t.calls (length t.calls)) n.trips i h.6.trip (λ m d lt. (k.network.trips_go m d lt).goes_on) h.6.at)
no_fault n (fault.TripOrder i) h k = h.7.broken (beside Precedes n.trips i h.7.trip h.7.next h.7.later h.7.before h.7.at k.network.trips_in_order)
no_fault n (fault.Buffer seconds) h k = omega (arith, h.9, k.buffer)
