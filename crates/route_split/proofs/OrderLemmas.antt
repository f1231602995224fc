-- The order of trips, and of a trip's calls.
use Rattle.std.proofs.Common.{◌≡◌, ℕ, zero, suc, ◌+◌, ◌<◌, ◌≤◌, ◌⊎◌, inl, inr, List, [], ◌∷◌, length, get_or, subst, sym, refl, ap, ◌∙◌, arith, Some}
use Rattle.std.specs.Prelude.{slice_get, All}
use Rattle.std.specs.List.{AllAdjacentBelow}
use Rattle.std.proofs.lemmas.List.Elements.{All-get_or}
use Rattle.std.proofs.lemmas.Option.{slice_get_within, get_or_from_slice_get, same_Some}
use Rattle.std.proofs.lemmas.Bool.{cases_lt}
use Rattle.move_model.specs.declared.network.Call.{Call}
use Rattle.move_model.specs.declared.network.Network.{Network}
use Rattle.move_model.specs.declared.network.Trip.{Trip}
use Rattle.move_model.specs.declared.journey.Ride.{Ride}
use Rattle.move_model.specs.Journey.{IsRide}
use Rattle.move_model.specs.Network.{IsAtOrBefore, IsNetwork, IsTrip}
use Rattle.route_split.specs.Routes.{IsNoLater, place_of}
use Rattle.route_split.specs.Split.{HasObstacle}

-- a trip that stands at or before another one and is nowhere before it has the same seconds
pub never_before : (cs ds : List Call) → length cs ≡ length ds → IsAtOrBefore cs ds → IsNoLater ds cs → IsNoLater cs ds
never_before [] ds same before late = λ k c d at_c at_d. absurd (omega (arith, slice_get_within {A = Call} [] k c at_c))
never_before (c ∷ cs) [] same before late = absurd (omega (arith, same))
never_before (c ∷ cs) (d ∷ ds) same before late =
    let here = late 0 d c refl refl in
    elim before [
      | inl earlier ↦ absurd (omega (arith, earlier, here.0))
      | inr rest ↦ elim rest.1 [
        | inl earlier ↦ absurd (omega (arith, earlier, here.1))
        | inr after ↦ λ k x y at_x at_y. at_place c cs d ds (rest.0, after.0) (never_before cs ds (omega (arith, same)) after.1 (λ j u v at_u at_v. late (suc j) u v at_u at_v)) k x y at_x at_y
      ]
    ]
  where
    at_place : (c : Call) (cs : List Call) (d : Call) (ds : List Call) → (c.arr ≡ d.arr) × (c.dep ≡ d.dep) → IsNoLater cs ds → IsNoLater (c ∷ cs) (d ∷ ds)
    at_place c cs d ds e rest zero x y at_x at_y =
        let xe : c ≡ x = same_Some c x at_x in
        let ye : d ≡ y = same_Some d y at_y in
        (omega (arith, e.0, ap (λ (v : Call). v.arr) xe, ap (λ (v : Call). v.arr) ye), omega (arith, e.1, ap (λ (v : Call). v.dep) xe, ap (λ (v : Call). v.dep) ye))
    at_place c cs d ds e rest (suc k) x y at_x at_y = rest k x y at_x at_y

-- no call of a trip departs after a later one arrives
goes_forward : (calls : List Call) → All (λ call. call.arr ≤ call.dep) calls → AllAdjacentBelow (λ call next. call.dep ≤ next.arr) calls (length calls)
    → (i j : ℕ) (d : Call) → i < j → j < length calls → (get_or calls i d).dep ≤ (get_or calls j d).arr
goes_forward calls stays on i zero d before within = absurd (omega (arith, before))
goes_forward calls stays on i (suc m) d before within =
    let e : m + 1 ≡ suc m = omega arith in
    let step = subst (λ n. (get_or calls m d).dep ≤ (get_or calls n d).arr) e (on m d (omega arith)) in
    elim (cases_lt i m) [
      | inl lt ↦ omega (arith, goes_forward calls stays on i m d lt (omega arith), All-get_or (λ (call : Call). call.arr ≤ call.dep) calls m d (omega arith) stays, step)
      | inr ge ↦ let same : m ≡ i = omega arith in subst (λ n. (get_or calls n d).dep ≤ (get_or calls (suc m) d).arr) same step
    ]

-- a ride is left no earlier than it is boarded
pub ride_forward : (n : Network) → IsNetwork n → (ride : Ride) (on off : Call) → IsRide n ride on off → on.dep ≤ off.arr
ride_forward n ok ride on off is =
    let boards = is.boards in
    let leaves = is.leaves in
    let same : leaves.0 ≡ boards.0 = same_Some leaves.0 boards.0 (sym leaves.1 ∙ boards.1) in
    let at_off = subst (λ (t : Trip). slice_get t.calls ride.alight ≡ Some off) same leaves.2 in
    let trip : IsTrip n boards.0 = subst (IsTrip n) (get_or_from_slice_get n.trips ride.trip.0 boards.0 boards.0 boards.1)
    (All-get_or (IsTrip n) n.trips ride.trip.0 boards.0 (slice_get_within n.trips ride.trip.0 boards.0 boards.1) ok.trips_go) in
    let calls = (boards.0).calls in
    let within = slice_get_within calls ride.alight off at_off in
    let step = goes_forward calls trip.stays trip.goes_on ride.board ride.alight on is.forward within in
    let on_is = get_or_from_slice_get calls ride.board on on boards.2 in
    let off_is = get_or_from_slice_get calls ride.alight off on at_off in
    omega (arith, step, ap (λ (v : Call). v.dep) on_is, ap (λ (v : Call). v.arr) off_is)

lex_on : (a b c : Call) (P Q R : Type 0) → (P → Q → R)
    → (a.arr < b.arr) ⊎ ((a.arr ≡ b.arr) × ((a.dep < b.dep) ⊎ ((a.dep ≡ b.dep) × P)))
    → (b.arr < c.arr) ⊎ ((b.arr ≡ c.arr) × ((b.dep < c.dep) ⊎ ((b.dep ≡ c.dep) × Q)))
    → (a.arr < c.arr) ⊎ ((a.arr ≡ c.arr) × ((a.dep < c.dep) ⊎ ((a.dep ≡ c.dep) × R)))
lex_on a b c P Q R go (inl x) (inl y) = inl (omega (arith, x, y))
lex_on a b c P Q R go (inl x) (inr y) = inl (omega (arith, x, y.0))
lex_on a b c P Q R go (inr x) (inl y) = inl (omega (arith, x.0, y))
lex_on a b c P Q R go (inr (e, x)) (inr (f, y)) = inr (e ∙ f, deps x y)
  where
    deps : (a.dep < b.dep) ⊎ ((a.dep ≡ b.dep) × P) → (b.dep < c.dep) ⊎ ((b.dep ≡ c.dep) × Q) → (a.dep < c.dep) ⊎ ((a.dep ≡ c.dep) × R)
    deps (inl x) (inl y) = inl (omega (arith, x, y))
    deps (inl x) (inr y) = inl (omega (arith, x, y.0))
    deps (inr x) (inl y) = inl (omega (arith, x.0, y))
    deps (inr x) (inr y) = inr (x.0 ∙ y.0, go x.1 y.1)

order_on : (xs bs cs : List Call) → IsAtOrBefore xs bs → IsAtOrBefore bs cs → IsAtOrBefore xs cs
order_on [] bs cs h h' = tt
order_on (a ∷ xs) [] cs h h' = absurd h
order_on (a ∷ xs) (b ∷ bs) [] h h' = absurd h'
order_on (a ∷ xs) (b ∷ bs) (c ∷ cs) h h' = lex_on a b c (IsAtOrBefore xs bs) (IsAtOrBefore bs cs) (IsAtOrBefore xs cs) (order_on xs bs cs) h h'

-- an earlier trip stands at or before a later one
trips_ordered : (trips : List Trip) → AllAdjacentBelow (λ trip next. IsAtOrBefore trip.calls next.calls) trips (length trips)
    → (t u : ℕ) (d : Trip) → t < u → u < length trips → IsAtOrBefore (get_or trips t d).calls (get_or trips u d).calls
trips_ordered trips ordered t zero d before within = absurd (omega (arith, before))
trips_ordered trips ordered t (suc m) d before within =
    let e : m + 1 ≡ suc m = omega arith in
    let step = subst (λ n. IsAtOrBefore (get_or trips m d).calls (get_or trips n d).calls) e (ordered m d (omega arith)) in
    elim (cases_lt t m) [
      | inl lt ↦ order_on (get_or trips t d).calls (get_or trips m d).calls (get_or trips (suc m) d).calls (trips_ordered trips ordered t m d lt (omega arith)) step
      | inr ge ↦ let same : m ≡ t = omega arith in subst (λ n. IsAtOrBefore (get_or trips n d).calls (get_or trips (suc m) d).calls) same step
    ]

-- an obstacle between two routes with equal places: neither trip is everywhere at or before the other
pub obstacle_apart : (trips : List Trip) → AllAdjacentBelow (λ (trip next : Trip). IsAtOrBefore trip.calls next.calls) trips (length trips)
    → (routes : List ℕ) (g h : ℕ) (o : HasObstacle trips routes (length trips) g h) (a b : Trip)
    → slice_get trips o.t ≡ Some a → slice_get trips o.u ≡ Some b → length a.calls ≡ length b.calls
    → ((k : ℕ) (c d : Call) → slice_get a.calls k ≡ Some c → slice_get b.calls k ≡ Some d → place_of c ≡ place_of d)
    → (IsNoLater a.calls b.calls → ⊥) × (IsNoLater b.calls a.calls → ⊥)
obstacle_apart trips in_order routes g h o a b at_a at_b as_many same =
    let first : IsNoLater a.calls b.calls → ⊥ = λ no_later. o.cannot a b at_a at_b (record { as_many = as_many; same = same; no_later = no_later }) in
    let ordered = trips_ordered trips in_order o.t o.u a o.before o.within in
    let a_is = get_or_from_slice_get trips o.t a a at_a in
    let b_is = get_or_from_slice_get trips o.u b a at_b in
    let lex : IsAtOrBefore a.calls b.calls =
    subst (λ (v : Trip). IsAtOrBefore v.calls b.calls) a_is (subst (λ (v : Trip). IsAtOrBefore (get_or trips o.t a).calls v.calls) b_is ordered) in
    (first, λ later. first (never_before a.calls b.calls as_many lex later))
