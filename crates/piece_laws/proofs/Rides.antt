-- The calls of a ride.
use Rattle.std.proofs.Common.{◌≡◌, ℕ, zero, suc, ◌+◌, ◌-◌, ◌<◌, ◌≤◌, List, length, get_or, refl, sym, subst, ◌∙◌, inl, inr, arith, Option, Some, None}
use Rattle.std.specs.Prelude.{All, slice_get}
use Rattle.std.specs.List.{AllAdjacentBelow}
use Rattle.std.proofs.lemmas.List.Elements.{All-get_or}
use Rattle.std.proofs.lemmas.Option.{slice_get_within, get_or_from_slice_get, slice_get_cases, same_Some}
use Rattle.move_model.specs.declared.network.Network.{Network}
use Rattle.move_model.specs.declared.network.TripNo.{TripNo}
use Rattle.move_model.specs.declared.network.Call.{Call}
use Rattle.move_model.specs.Streets.{IsVertex}
use Rattle.move_model.specs.declared.network.Trip.{Trip}
use Rattle.move_model.specs.declared.network.Stop.{Stop}
use Rattle.move_model.specs.Network.{IsNetwork, IsTrip, streets, node_of, node_of_stop}
use Rattle.move_model.specs.declared.journey.Ride.{Ride}
use Rattle.move_model.specs.Journey.{HasCall, IsRide}

-- what is at a place of a list has what all have
All-slice_get : {X : Type 0} (P : X → Type 0) (xs : List X) (i : ℕ) (x : X) → All P xs → slice_get xs i ≡ Some x → P x
All-slice_get P xs i x all e =
    subst P (get_or_from_slice_get xs i x x e) (All-get_or P xs i x (slice_get_within xs i x e) all)

none : {X : Type 0} (xs : List X) (i : ℕ) → i < length xs → slice_get xs i ≡ None → ⊥
none xs i l e = elim (slice_get_cases xs i).1 [ inl h ↦ cc | inr h ↦ omega (arith, h.0) ]

-- each call stands at a vertex
pub call_vertex : (n : Network) → IsNetwork n → (trip : TripNo) (k : ℕ) (call : Call) → HasCall n trip k call → IsVertex (streets n) (node_of n call.stop)
call_vertex n ok trip k call (t, e, f) =
    let is = All-slice_get (IsTrip n) n.trips trip.0 t ok.trips_go e in
    let at = All-slice_get (λ (c : Call). c.stop.0 < length n.stops) t.calls k call is.at_stops f in
    go (slice_get n.stops call.stop.0) refl at
  where
    go : (o : Option Stop) → slice_get n.stops call.stop.0 ≡ o → call.stop.0 < length n.stops → IsVertex (streets n) (node_of_stop o)
    go None g at = absurd (none n.stops call.stop.0 at g)
    go (Some stop) g at = All-slice_get (λ (s : Stop). IsVertex (streets n) s.node) n.stops call.stop.0 stop ok.stops_stand g

-- a call's departure is at or before each later arrival
goes_later : (calls : List Call) → All (λ (c : Call). c.arr ≤ c.dep) calls → AllAdjacentBelow (λ (c e : Call). c.dep ≤ e.arr) calls (length calls)
    → (k d : ℕ) (call : Call) → k + 1 + d < length calls → (get_or calls k call).dep ≤ (get_or calls (k + 1 + d) call).arr
goes_later calls stays goes k zero call h =
    subst (λ (i : ℕ). (get_or calls k call).dep ≤ (get_or calls i call).arr) (omega arith) (goes k call (omega arith))
goes_later calls stays goes k (suc d) call h =
    let before = goes_later calls stays goes k d call (omega arith) in
    let here = All-get_or (λ (c : Call). c.arr ≤ c.dep) calls (k + 1 + d) call (omega arith) stays in
    let next = goes (k + 1 + d) call (omega arith) in
    subst (λ (i : ℕ). (get_or calls k call).dep ≤ (get_or calls i call).arr) (omega arith)
    (chain (get_or calls k call).dep (get_or calls (k + 1 + d) call).arr (get_or calls (k + 1 + d) call).dep (get_or calls (k + 1 + d + 1) call).arr before here next)
  where
    chain : (a b c e : ℕ) → a ≤ b → b ≤ c → c ≤ e → a ≤ e
    chain a b c e f g h = omega arith

-- a ride is left no earlier than it is boarded
pub ride_later : (n : Network) → IsNetwork n → (ride : Ride) (on off : Call) → IsRide n ride on off → on.dep ≤ off.arr
ride_later n ok ride on off is =
    let t = is.boards.0 in
    let t' = is.leaves.0 in
    let same : t' ≡ t = same_Some t' t (sym is.leaves.1 ∙ is.boards.1) in
    let at : slice_get t.calls ride.alight ≡ Some off = subst (λ (q : Trip). slice_get q.calls ride.alight ≡ Some off) same is.leaves.2 in
    let good = All-slice_get (IsTrip n) n.trips ride.trip.0 t ok.trips_go is.boards.1 in
    let within = slice_get_within t.calls ride.alight off at in
    let first : get_or t.calls ride.board on ≡ on = get_or_from_slice_get t.calls ride.board on on is.boards.2 in
    let last : get_or t.calls ride.alight on ≡ off = get_or_from_slice_get t.calls ride.alight off on at in
    let h = goes_later t.calls good.stays good.goes_on ride.board (ride.alight - (ride.board + 1)) on (omega (arith, is.forward, within)) in
    let e : ride.board + 1 + (ride.alight - (ride.board + 1)) ≡ ride.alight = omega (arith, is.forward) in
    let g : (get_or t.calls ride.board on).dep ≤ (get_or t.calls ride.alight on).arr = subst (λ (i : ℕ). (get_or t.calls ride.board on).dep ≤ (get_or t.calls i on).arr) e h in
    subst (λ (c : Call). on.dep ≤ c.arr) last (subst (λ (c : Call). c.dep ≤ (get_or t.calls ride.alight on).arr) first g)
