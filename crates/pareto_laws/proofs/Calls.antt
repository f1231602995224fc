-- The calls of a ride: each stands once at its place, and at a stop of the network, whose vertex is one of the streets.
use Rattle.std.proofs.Common.{◌≡◌, ℕ, zero, suc, ◌+◌, ◌<◌, List, [], ◌∷◌, length, get_or, refl, ap, subst, arith, Option, Some, None}
use Rattle.std.specs.Prelude.{slice_get}
use Rattle.std.proofs.lemmas.Option.{slice_get_within, slice_get-get_or, get_or_from_slice_get}
use Rattle.std.proofs.lemmas.List.Elements.{All-get_or}
use Rattle.move_model.specs.declared.network.Network.{Network}
use Rattle.move_model.specs.declared.network.StopNo.{StopNo}
use Rattle.move_model.specs.declared.network.TripNo.{TripNo}
use Rattle.move_model.specs.declared.network.Stop.{Stop}
use Rattle.move_model.specs.declared.network.Call.{Call}
use Rattle.move_model.specs.declared.journey.Ride.{Ride}
use Rattle.move_model.specs.Streets.{IsVertex}
use Rattle.move_model.specs.Network.{IsNetwork, IsTrip, node_of, node_of_stop, streets}
use Rattle.move_model.specs.Journey.{HasCall, IsRide}

pub stop_eq : (x y : StopNo) → x.0 ≡ y.0 → x ≡ y
stop_eq x y e = ap (λ (k : ℕ). let v : StopNo = record { 0 = k } in v) e

-- a call before another is not the last
pub call_after : (n : Network) (trip : TripNo) (k j : ℕ) (call : Call) → k < j → HasCall n trip j call
    → (next : Call) × HasCall n trip (k + 1) next
call_after n trip k j call before h =
    let within = slice_get_within h.0.calls j call h.2 in
    (get_or h.0.calls (k + 1) call, (h.0, h.1, slice_get-get_or h.0.calls (k + 1) call (omega (arith, within))))

-- a place has one call
pub call_same : (n : Network) (trip : TripNo) (k : ℕ) (a b : Call) → HasCall n trip k a → HasCall n trip k b → a ≡ b
call_same n trip k a b (t, e, f) (u, g, h) = cc

pub on_same : (n : Network) (ride : Ride) (on off on' off' : Call) → IsRide n ride on off → IsRide n ride on' off' → on ≡ on'
on_same n ride on off on' off' is is' = call_same n ride.trip ride.board on on' is.boards is'.boards

pub off_same : (n : Network) (ride : Ride) (on off on' off' : Call) → IsRide n ride on off → IsRide n ride on' off' → off ≡ off'
off_same n ride on off on' off' is is' = call_same n ride.trip ride.alight off off' is.leaves is'.leaves

none_within : {X : Type 0} (xs : List X) (k : ℕ) → k < length xs → slice_get xs k ≡ None → ⊥
none_within [] k h e = omega arith
none_within (x ∷ xs) zero h e = cc
none_within (x ∷ xs) (suc k) h e = none_within xs k (omega arith) e

module _ (n : Network) (ok : IsNetwork n) where
  stop_of_call : (trip : TripNo) (k : ℕ) (call : Call) → HasCall n trip k call → call.stop.0 < length n.stops
  stop_of_call trip k call (t, is_trip, is_call) =
      let at_trip = slice_get_within n.trips trip.0 t is_trip in
      let trip_ok : IsTrip n t =
      subst (IsTrip n) (get_or_from_slice_get n.trips trip.0 t t is_trip) (All-get_or (IsTrip n) n.trips trip.0 t at_trip ok.trips_go) in
      let at_call = slice_get_within t.calls k call is_call in
      subst (λ (c : Call). c.stop.0 < length n.stops) (get_or_from_slice_get t.calls k call call is_call)
      (All-get_or (λ (c : Call). c.stop.0 < length n.stops) t.calls k call at_call trip_ok.at_stops)

  pub on_stands : (ride : Ride) (on off : Call) → IsRide n ride on off → on.stop.0 < length n.stops
  on_stands ride on off is = stop_of_call ride.trip ride.board on is.boards

  pub off_stands : (ride : Ride) (on off : Call) → IsRide n ride on off → off.stop.0 < length n.stops
  off_stands ride on off is = stop_of_call ride.trip ride.alight off is.leaves

  pub vertex_of_stop : (x : StopNo) → x.0 < length n.stops → IsVertex (streets n) (node_of n x)
  vertex_of_stop x within = go (slice_get n.stops x.0) refl
    where
      go : (o : Option Stop) → slice_get n.stops x.0 ≡ o → IsVertex (streets n) (node_of_stop o)
      go None e = absurd (none_within n.stops x.0 within e)
      go (Some stop) e =
          subst (λ (v : Stop). IsVertex (streets n) v.node) (get_or_from_slice_get n.stops x.0 stop stop e)
          (All-get_or (λ (v : Stop). IsVertex (streets n) v.node) n.stops x.0 stop within ok.stops_stand)
