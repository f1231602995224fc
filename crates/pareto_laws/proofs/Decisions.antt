-- Whether something betters a candidate can be decided: a network has finitely many rides, and each two vertices have
-- a distance or none.
use Rattle.std.proofs.Common.{◌≡◌, ℕ, zero, suc, ◌+◌, ◌<◌, ◌≤◌, ◌⊎◌, Bool, true, false, List, [], ◌∷◌, length, refl, sym, ◌∙◌, subst, inl, inr, arith, Option, Some, None}
use Rattle.std.specs.Prelude.{IsTrue, slice_get}
use Rattle.std.proofs.lemmas.Bool.{cases_lt, cases_eq}
use Rattle.std.proofs.lemmas.Option.{same_Some}
use Rattle.move_model.specs.declared.network.Network.{Network}
use Rattle.move_model.specs.declared.network.NodeNo.{NodeNo}
use Rattle.move_model.specs.declared.network.StopNo.{StopNo}
use Rattle.move_model.specs.declared.network.Trip.{Trip}
use Rattle.move_model.specs.declared.network.Call.{Call}
use Rattle.move_model.specs.declared.journey.Ride.{Ride}
use Rattle.move_model.specs.Streets.{IsDistance, HasDistance}
use Rattle.move_model.specs.Network.{IsNetwork, node_of, streets}
use Rattle.move_model.specs.Journey.{IsRide, Travels}
use Rattle.move_model.specs.Journey.Travels.{walks, rides}
use Rattle.move_model.specs.Shortcut.{Piece, IsPiece, IsLess, IsKeyLess, entries, key_of, IsBettered}
use Rattle.move_model.specs.Shortcut.IsBettered.{by_piece, by_journey}
use Rattle.pareto_laws.proofs.Distances.{distance_of, distance_is, distance_same, distance_within}

-- tests that can be joined

dec_map : {A B : Type 0} → (A → B) → (B → A) → Dec A → Dec B
dec_map f g (yes a) = yes (f a)
dec_map f g (no h) = no (λ b. h (g b))

dec_and : {A B : Type 0} → Dec A → Dec B → Dec (A × B)
dec_and (yes a) (yes b) = yes (a, b)
dec_and (yes a) (no h) = no (λ p. h p.1)
dec_and (no h) _ = no (λ p. h p.0)

dec_or : {A B : Type 0} → Dec A → Dec B → Dec (A ⊎ B)
dec_or (yes a) _ = yes (inl a)
dec_or (no h) (yes b) = yes (inr b)
dec_or (no h) (no k) = no (λ s. elim s [ inl a ↦ h a | inr b ↦ k b ])

dec_le : (a b : ℕ) → Dec (a ≤ b)
dec_le a b = elim (cases_lt b a) [ inl l ↦ no (λ h. omega arith) | inr h ↦ yes h ]

dec_lt : (a b : ℕ) → Dec (a < b)
dec_lt a b = dec_le (suc a) b

dec_eq : (a b : ℕ) → Dec (a ≡ b)
dec_eq a b = elim (cases_eq a b) [ inl e ↦ yes e | inr h ↦ no h ]

dec_true : (b : Bool) → Dec (IsTrue b)
dec_true true = yes refl
dec_true false = no (λ h. cc)

dec_less : (xs ys : List ℕ) → Dec (IsLess xs ys)
dec_less [] ys = no (λ h. h)
dec_less (x ∷ xs) [] = no (λ h. h)
dec_less (x ∷ xs) (y ∷ ys) = dec_or (dec_lt x y) (dec_and (dec_eq x y) (dec_less xs ys))

-- some number below a bound
some_below : (P : ℕ → Type 0) → ((k : ℕ) → Dec (P k)) → (bound : ℕ) → Dec ((k : ℕ) × ((k < bound) × P k))
some_below P test zero = no (λ h. absurd (omega (arith, h.1.0)))
some_below P test (suc bound) = more (test bound) (some_below P test bound)
  where
    more : Dec (P bound) → Dec ((k : ℕ) × ((k < bound) × P k)) → Dec ((k : ℕ) × ((k < suc bound) × P k))
    more (yes p) _ = yes (bound, (omega arith, p))
    more (no h) (yes q) = yes (q.0, (omega (arith, q.1.0), q.1.1))
    more (no h) (no g) = no (λ q. elim (cases_eq q.0 bound) [
      | inl e ↦ h (subst P e q.1.1)
      | inr ne ↦ g (q.0, (omega (arith, q.1.0), q.1.1))
    ])

-- some element at a place of a list
IsAt : {X : Type 0} → List X → (ℕ → X → Type 0) → Type 0
IsAt {X} xs P = (k : ℕ) × ((x : X) × ((slice_get xs k ≡ Some x) × P k x))

at_cases : {X : Type 0} (x : X) (xs : List X) (P : ℕ → X → Type 0) → (k : ℕ) (y : X) → slice_get (x ∷ xs) k ≡ Some y → P k y
    → P 0 x ⊎ IsAt xs (λ j. P (suc j))
unfolding IsAt
at_cases x xs P zero y e p = inl (subst (λ v. P 0 v) (sym (same_Some x y e)) p)
at_cases x xs P (suc k) y e p = inr (k, (y, (e, p)))

some_at : {X : Type 0} (xs : List X) (P : ℕ → X → Type 0) → ((k : ℕ) (x : X) → Dec (P k x)) → Dec (IsAt xs P)
unfolding IsAt
some_at [] P test = no (λ h. none_some h.1.0 h.1.1.0)
  where
    none_some : {X : Type 0} (x : X) → None ≡ Some x → ⊥
    none_some x e = cc
some_at (x ∷ xs) P test = more (test 0 x) (some_at xs (λ k. P (suc k)) (λ k. test (suc k)))
  where
    more : Dec (P 0 x) → Dec (IsAt xs (λ k. P (suc k))) → Dec (IsAt (x ∷ xs) P)
    more (yes p) _ = yes (0, (x, (refl, p)))
    more (no h) (yes q) = yes (suc q.0, q.1)
    more (no h) (no g) = no (λ q. elim (at_cases x xs P q.0 q.1.0 q.1.1.0 q.1.1.1) [ inl p ↦ h p | inr p ↦ g p ])

module _ (n : Network) where
  -- some ride of the network
  record SomeRide (P : Ride → Call → Call → Type 0) : Type 0 where
    ride : Ride
    on : Call
    off : Call
    is_ride : IsRide n ride on off
    holds : P ride on off

  -- the same, by places in the lists
  abbrev RideAt : (Ride → Call → Call → Type 0) → Type 0
  RideAt P =
      IsAt n.trips
      (λ k trip. IsAt trip.calls
      (λ i on. IsAt trip.calls
      (λ j off. (i < j) × (IsTrue on.board × (IsTrue off.alight × P (record { trip = record { 0 = k }; board = i; alight = j }) on off)))))

  ride_from_at : (P : Ride → Call → Call → Type 0) → RideAt P → SomeRide P
  unfolding IsAt
  ride_from_at P (k, (trip, (is_trip, (i, (on, (is_on, (j, (off, (is_off, (forward, (may_board, (may_alight, holds)))))))))))) =
      record {
        ride = record { trip = record { 0 = k }; board = i; alight = j };
        on = on;
        off = off;
        is_ride = record {
          forward = forward;
          boards = (trip, is_trip, is_on);
          may_board = may_board;
          leaves = (trip, is_trip, is_off);
          may_alight = may_alight;
        };
        holds = holds;
      }

  at_from_ride : (P : Ride → Call → Call → Type 0) → SomeRide P → RideAt P
  unfolding IsAt
  at_from_ride P some =
      let is = some.is_ride in
      let trip : Trip = is.boards.0 in
      let same : is.leaves.0 ≡ trip = same_Some is.leaves.0 trip (sym is.leaves.1 ∙ is.boards.1) in (
        some.ride.trip.0,
        (
          trip,
          (
            is.boards.1,
            (
              some.ride.board,
              (
                some.on,
                (
                  is.boards.2,
                  (
                    some.ride.alight,
                    (
                      some.off,
                      (
                        subst (λ (t : Trip). slice_get t.calls some.ride.alight ≡ Some some.off) same is.leaves.2,
                        (is.forward, (is.may_board, (is.may_alight, some.holds))),
                      ),
                    ),
                  ),
                ),
              ),
            ),
          ),
        ),
      )

  some_ride : (P : Ride → Call → Call → Type 0) → ((ride : Ride) (on off : Call) → Dec (P ride on off)) → Dec (SomeRide P)
  some_ride P test =
      dec_map (ride_from_at P) (at_from_ride P)
      (some_at n.trips _ (λ k trip. some_at trip.calls _ (λ i on. some_at trip.calls _ (λ j off.
      dec_and (dec_lt i j) (dec_and (dec_true on.board) (dec_and (dec_true off.alight) (test (record { trip = record { 0 = k }; board = i; alight = j }) on off)))))))

  -- there is a distance, and P holds of it
  abbrev HasDistanceWith : NodeNo → NodeNo → (ℕ → Type 0) → Type 0
  HasDistanceWith a b P = (m : ℕ) × (IsDistance (streets n) a b m × P m)

  module _ (ok : IsNetwork n) where
    some_distance : (a b : NodeNo) (P : ℕ → Type 0) → ((m : ℕ) → Dec (P m)) → Dec (HasDistanceWith a b P)
    some_distance a b P test = go (distance_of (streets n) a b) (distance_is (streets n) ok.streets_join a b)
      where
        at : (m : ℕ) → IsDistance (streets n) a b m → Dec (P m) → Dec (HasDistanceWith a b P)
        at m is (yes p) = yes (m, (is, p))
        at m is (no h) = no (λ q. h (subst P (distance_same q.1.0 is) q.1.1))

        go : (o : Option ℕ) → HasDistance (streets n) a b o → Dec (HasDistanceWith a b P)
        go None none = no (λ q. none q.1.0.attained.0 q.0 q.1.0.attained.1)
        go (Some m) is = at m is (test m)

    -- a journey of at most one ride, with least walks, as numbers
    abbrev FewRides : NodeNo → ℕ → NodeNo → ℕ → Type 0
    FewRides p q t latest =
        HasDistanceWith p t (λ m. q + m ≤ latest)
        ⊎ SomeRide (λ ride on off. HasDistanceWith p (node_of n on.stop) (λ m. (q + m + n.buffer ≤ on.dep) × HasDistanceWith (node_of n off.stop) t (λ k. off.arr + k ≤ latest)))

    few_rides : (p : NodeNo) (q : ℕ) (t : NodeNo) (latest : ℕ) → Dec (FewRides p q t latest)
    few_rides p q t latest =
        dec_or (some_distance p t _ (λ m. dec_le (q + m) latest))
        (some_ride _ (λ ride on off. some_distance p (node_of n on.stop) _ (λ m.
        dec_and (dec_le (q + m + n.buffer) on.dep) (some_distance (node_of n off.stop) t _ (λ k. dec_le (off.arr + k) latest)))))

    on_foot : {p t : NodeNo} {q arrive : ℕ} {ws : List (List NodeNo)} {rs : List Ride} → Travels n p q ws rs t arrive
        → length rs < 1 → HasDistanceWith p t (λ m. q + m ≤ arrive)
    on_foot (walks is) few = let least = distance_within (streets n) ok.streets_join is in (least.0, (least.1, omega (arith, least.2)))
    on_foot (rides is is_ride boards further) few = absurd (omega (arith, few))

    few_from_travels : {p t : NodeNo} {q arrive : ℕ} {ws : List (List NodeNo)} {rs : List Ride} → Travels n p q ws rs t arrive
        → (latest : ℕ) → length rs ≤ 1 → arrive ≤ latest → FewRides p q t latest
    few_from_travels (walks is) latest few in_time =
        let least = distance_within (streets n) ok.streets_join is in
        inl (least.0, (least.1, omega (arith, least.2)))
    few_from_travels (rides {ride = ride} {on = on} {off = off} is is_ride boards further) latest few in_time =
        let least = distance_within (streets n) ok.streets_join is in
        let last = on_foot further (omega (arith, few)) in
        inr (record {
          ride = ride;
          on = on;
          off = off;
          is_ride = is_ride;
          holds = (least.0, (least.1, (omega (arith, least.2), (last.0, (last.1.0, omega (arith, last.1.1))))));
        })

    module _ (u : StopNo) (z : ℕ) (v : StopNo) (piece : Piece) where
      -- a lesser piece, by its rides and distances
      abbrev LesserPiece : Type 0
      LesserPiece =
          SomeRide (λ first on1 off1. HasDistanceWith (node_of n u) (node_of n on1.stop) (λ m1. (z + m1 + n.buffer ≤ on1.dep)
          × SomeRide (λ second on2 off2. HasDistanceWith (node_of n off1.stop) (node_of n on2.stop) (λ m2. (off1.arr + m2 + n.buffer ≤ on2.dep)
          × HasDistanceWith (node_of n off2.stop) (node_of n v) (λ m3. IsKeyLess
          (key_of v (record { first = first; on1 = on1; off1 = off1; second = second; on2 = on2; off2 = off2; ready = off1.arr + m2; arrive = off2.arr + m3 }))
          (key_of v piece))))))

      lesser_piece : Dec LesserPiece
      lesser_piece =
          some_ride _ (λ first on1 off1. some_distance (node_of n u) (node_of n on1.stop) _ (λ m1. dec_and (dec_le (z + m1 + n.buffer) on1.dep)
          (some_ride _ (λ second on2 off2. some_distance (node_of n off1.stop) (node_of n on2.stop) _ (λ m2. dec_and (dec_le (off1.arr + m2 + n.buffer) on2.dep)
          (some_distance (node_of n off2.stop) (node_of n v) _ (λ m3. dec_less
          (entries (key_of v (record { first = first; on1 = on1; off1 = off1; second = second; on2 = on2; off2 = off2; ready = off1.arr + m2; arrive = off2.arr + m3 })))
          (entries (key_of v piece)))))))))

      bettered_from_lesser : LesserPiece → IsBettered n u z v piece
      bettered_from_lesser one =
          let m1 = one.holds in
          let two = m1.1.1.1 in
          let m2 = two.holds in
          let m3 = m2.1.1.1 in
          by_piece
          (record { first = one.ride; on1 = one.on; off1 = one.off; second = two.ride; on2 = two.on; off2 = two.off; ready = one.off.arr + m2.0; arrive = two.off.arr + m3.0 })
          (record {
            first_ride = one.is_ride;
            second_ride = two.is_ride;
            walk1 = m1.0;
            to_first = m1.1.0;
            in_time1 = m1.1.1.0;
            walk2 = m2.0;
            between = m2.1.0;
            ready_is = refl;
            in_time2 = m2.1.1.0;
            walk3 = m3.0;
            to_end = m3.1.0;
            arrive_is = refl;
          })
          m3.1.1

      lesser_from_piece : (other : Piece) → IsPiece n u z v other → IsKeyLess (key_of v other) (key_of v piece) → LesserPiece
      lesser_from_piece other is less =
          let same : other ≡ record other { ready = other.off1.arr + is.walk2; arrive = other.off2.arr + is.walk3 } =
          λ i. record other { ready = is.ready_is i; arrive = is.arrive_is i } in
          record {
            ride = other.first;
            on = other.on1;
            off = other.off1;
            is_ride = is.first_ride;
            holds = (
              is.walk1,
              (
                is.to_first,
                (
                  is.in_time1,
                  record {
                    ride = other.second;
                    on = other.on2;
                    off = other.off2;
                    is_ride = is.second_ride;
                    holds = (
                      is.walk2,
                      (
                        is.between,
                        (
                          omega (arith, is.in_time2, is.ready_is),
                          (is.walk3, (is.to_end, subst (λ (p : Piece). IsKeyLess (key_of v p) (key_of v piece)) same less)),
                        ),
                      ),
                    );
                  },
                ),
              ),
            );
          }

      bettered_from_few : FewRides (node_of n u) z (node_of n v) piece.off2.arr → IsBettered n u z v piece
      bettered_from_few (inl m) =
          by_journey (record { depart = z; walks = m.1.0.attained.0 ∷ []; rides = [] }) (z + m.0) refl (omega arith)
          (walks m.1.0.attained.1) m.1.1
      bettered_from_few (inr one) =
          let m = one.holds in
          let k = m.1.1.1 in
          by_journey (record { depart = z; walks = m.1.0.attained.0 ∷ k.1.0.attained.0 ∷ []; rides = one.ride ∷ [] }) (one.off.arr + k.0) refl (omega arith)
          (rides m.1.0.attained.1 one.is_ride m.1.1.0 (walks k.1.0.attained.1)) k.1.1

      either_from_bettered : IsBettered n u z v piece → LesserPiece ⊎ FewRides (node_of n u) z (node_of n v) piece.off2.arr
      either_from_bettered (by_piece other is less) = inl (lesser_from_piece other is less)
      either_from_bettered (by_journey journey arrive departs few leads no_later) =
          inr (subst (λ q. FewRides (node_of n u) q (node_of n v) piece.off2.arr) departs (few_from_travels leads piece.off2.arr few no_later))

      pub bettered_or_not : Dec (IsBettered n u z v piece)
      bettered_or_not =
          dec_map (λ s. elim s [ inl one ↦ bettered_from_lesser one | inr one ↦ bettered_from_few one ]) either_from_bettered
          (dec_or lesser_piece (few_rides (node_of n u) z (node_of n v) piece.off2.arr))
