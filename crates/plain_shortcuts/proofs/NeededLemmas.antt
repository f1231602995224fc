-- What makes a change needed, over the definitions of pieces and candidates.
use Rattle.std.proofs.Common.{◌≡◌, ◌≢◌, ℕ, ◌+◌, ◌<◌, ◌≤◌, ◌⊎◌, List, [], ◌∷◌, Some, None, length, slice_get, slice_index_or, refl, sym, ap, ◌∙◌, subst, inl, inr, arith}
use Rattle.std.specs.Prelude.{◌↔◌, All, Contains, Option, unwrap_or}
use Rattle.std.proofs.lemmas.Option.{get_or_from_slice_get, slice_get-get_or}
use Rattle.std.proofs.lemmas.List.Elements.{Contains-get_or}
use Rattle.move_model.specs.declared.network.Network.{Network}
use Rattle.move_model.specs.declared.network.NodeNo.{NodeNo}
use Rattle.move_model.specs.declared.network.StopNo.{StopNo}
use Rattle.move_model.specs.declared.journey.Journey.{Journey}
use Rattle.move_model.specs.declared.journey.Key.{Key}
use Rattle.move_model.specs.Check.{KeepsRules}
use Rattle.move_model.specs.Streets.{IsDistance, HasDistance, IsWalk}
use Rattle.move_model.specs.Streets.IsWalk.{stays}
use Rattle.move_model.specs.Network.{IsNetwork, streets, node_of, IsStopDistance}
use Rattle.move_model.specs.Journey.{IsRide, IsJourney, HasArrival, HasEarliest}
use Rattle.move_model.specs.Shortcut.{Piece, IsPiece, IsCandidate, IsBettered, IsKeyLess, key_of}
use Rattle.move_model.specs.Shortcut.IsBettered.{by_piece, by_journey}
use Rattle.pareto_laws.proofs.LeastArcs.{Contains-here, Contains-cons_cases}
use Rattle.pareto_laws.proofs.Calls.{on_stands, off_stands, vertex_of_stop}
use Rattle.pareto_laws.proofs.Distances.{distance_same}
use Rattle.piece_laws.specs.Pieces.{IsNeeded}
use Rattle.plain_search.specs.Answer.{HoldsEarliest}
use Rattle.shortcut_laws.specs.Pairs.{Pair, IsPairNeeded, AreNeededPairs}
use Rattle.shortcut_laws.proofs.Needed.{stops_exist, walk_within}
use Rattle.plain_shortcuts.specs.Walks.{HoldsWalks, walk_between}
use Rattle.plain_shortcuts.specs.Listed.{seconds_by}
use Rattle.plain_shortcuts.specs.declared.rides.RideCalls.{RideCalls}
use Rattle.plain_shortcuts.specs.declared.changes.Change.{Change}
use Rattle.plain_shortcuts.specs.Rides.{IsRideOf, AreRides}
use Rattle.plain_shortcuts.specs.Changes.{IsChange, piece_of, IsLessTo, HasLess, IsNeededChange}
use Rattle.plain_shortcuts.specs.Needed.{HasArrivals, ArrivesBy, AreChanges}
use Rattle.plain_shortcuts.proofs.RideLemmas.{no_ride}
use Rattle.plain_shortcuts.proofs.Lists.{StandsBelow, below_more, below_all}

-- what is read past the end
abbrev pub no_change : Change
no_change = record { first = no_ride; second = no_ride; ready = 0 }

-- a stop is no walk away from itself
pub distance_self : (n : Network) (x : StopNo) → IsNetwork n → x.0 < length n.stops → IsStopDistance n x x 0
distance_self n x ok low =
    let v = vertex_of_stop n ok x low in
    record { attained = (node_of n x ∷ [], stays v); least = λ vs m walk. omega arith }

-- the two rides of a piece
abbrev pub change_of : Piece → Change
change_of p =
    record {
      first = record { ride = p.first; on = p.on1; off = p.off1 };
      second = record { ride = p.second; on = p.on2; off = p.off2 };
      ready = p.ready;
    }

pub piece_change : (n : Network) (u : StopNo) (z : ℕ) (v : StopNo) (p : Piece) → IsPiece n u z v p → IsChange n u z (change_of p)
piece_change n u z v p is = record {
  first_ride = is.first_ride;
  second_ride = is.second_ride;
  walk1 = is.walk1;
  to_first = is.to_first;
  in_time1 = is.in_time1;
  walk2 = is.walk2;
  between = is.between;
  ready_is = is.ready_is;
  in_time2 = is.in_time2;
}

pub change_piece : (n : Network) (u : StopNo) (z : ℕ) (v : StopNo) (c : Change) (m : ℕ) → IsChange n u z c → IsStopDistance n c.second.off.stop v m → IsPiece n u z v (piece_of c m)
change_piece n u z v c m is to_end = record {
  first_ride = is.first_ride;
  second_ride = is.second_ride;
  walk1 = is.walk1;
  to_first = is.to_first;
  in_time1 = is.in_time1;
  walk2 = is.walk2;
  between = is.between;
  ready_is = is.ready_is;
  in_time2 = is.in_time2;
  walk3 = m;
  to_end = to_end;
  arrive_is = refl;
}

piece_same : (p : Piece) (m : ℕ) → p.arrive ≡ p.off2.arr + m → piece_of (change_of p) m ≡ p
piece_same p m e =
    let f = sym e in
    λ i. record { first = p.first; on1 = p.on1; off1 = p.off1; second = p.second; on2 = p.on2; off2 = p.off2; ready = p.ready; arrive = f i }

module _ (n : Network) (u : StopNo) (z : ℕ) (changes : List Change) (are : AreChanges n u z changes) where
  -- a piece that comes before a key is one of the changes with a walk
  less_piece : (v : StopNo) (key : Key) (other : Piece) → IsPiece n u z v other → IsKeyLess (key_of v other) key → HasLess n changes v key
  less_piece v key other is less = record {
    change = change_of other;
    is_one = (are (change_of other)).1 (piece_change n u z v other is);
    less = record {
      walk = is.walk3;
      to_end = is.to_end;
      less = subst (λ (p : Piece). IsKeyLess (key_of v p) key) (sym (piece_same other is.walk3 is.arrive_is)) less;
    };
  }

  piece_less : (v : StopNo) (c : Change) (m : ℕ) → HasLess n changes v (key_of v (piece_of c m)) → IsBettered n u z v (piece_of c m)
  piece_less v c m has =
      let is = (are has.change).0 has.is_one in
      by_piece (piece_of has.change has.less.walk) (change_piece n u z v has.change has.less.walk is has.less.to_end) has.less.less

  pub bettered_is : (c : Change) (v : StopNo) (a m : ℕ) → a ≡ c.second.off.arr → IsBettered n u z v (piece_of c m) → HasLess n changes v (key_of v (piece_of c m)) ⊎ ArrivesBy n (node_of n u) z (node_of n v) a
  bettered_is c v a m e (by_piece other is less) = inl (less_piece v (key_of v (piece_of c m)) other is less)
  bettered_is c v a m e (by_journey journey arrive departs few leads no_later) =
      inr (record { arrival = arrive; arrives = record { journey = journey; departs = departs; leads = leads; few = few }; no_later = omega (arith, no_later, e) })

  pub bettered_by : (c : Change) (v : StopNo) (m : ℕ) → HasLess n changes v (key_of v (piece_of c m)) ⊎ ArrivesBy n (node_of n u) z (node_of n v) c.second.off.arr → IsBettered n u z v (piece_of c m)
  bettered_by c v m (inl has) = piece_less v c m has
  bettered_by c v m (inr by) = by_journey by.arrives.journey by.arrival by.arrives.departs by.arrives.few by.arrives.leads by.no_later

-- where no journey with at most one ride is as early, only a lesser change betters one
pub bettered_less : (n : Network) (u : StopNo) (z : ℕ) (changes : List Change) (c : Change) (key : Key) (m : ℕ) → IsNetwork n → AreChanges n u z changes
    → c.second.off.stop.0 < length n.stops → IsStopDistance n c.second.off.stop c.second.off.stop m → key ≡ key_of c.second.off.stop (piece_of c m)
    → (ArrivesBy n (node_of n u) z (node_of n c.second.off.stop) c.second.off.arr → ⊥)
    → HasLess n changes c.second.off.stop key ↔ IsBettered n u z c.second.off.stop (piece_of c 0)
bettered_less n u z changes c key m ok are low there key_is late =
    let v = c.second.off.stop in
    let none : m ≡ 0 = distance_same there (distance_self n c.second.off.stop ok low) in
    let own : key ≡ key_of c.second.off.stop (piece_of c 0) = key_is ∙ ap (λ (i : ℕ). key_of c.second.off.stop (piece_of c i)) none in (
      λ has. bettered_by n u z changes are c v 0 (inl (subst (λ (k : Key). HasLess n changes c.second.off.stop k) own has)),
      λ is. elim (bettered_is n u z changes are c v c.second.off.arr 0 refl is) [
        | inl has ↦ subst (λ (k : Key). HasLess n changes c.second.off.stop k) (sym own) has
        | inr by ↦ absurd (late by)
      ],
    )

-- what a row of arrivals says
pub arrives_some : (n : Network) (s : NodeNo) (z : ℕ) (row : List (Option ℕ)) (v : NodeNo) (a by : ℕ) → HasArrivals n s z row → slice_index_or row v.0 None ≡ Some a
    → (a ≤ by) ↔ ArrivesBy n s z v by
arrives_some n s z row v a by has e =
    let is = subst (λ (r : Option ℕ). HasEarliest n s z v 1 r) e (has.each v) in (
      λ low. record { arrival = a; arrives = is.attained; no_later = low },
      λ h. omega (arith, is.least h.arrival h.arrives, h.no_later),
    )

pub arrives_none : (n : Network) (s : NodeNo) (z : ℕ) (row : List (Option ℕ)) (v : NodeNo) (by : ℕ) → HasArrivals n s z row → slice_index_or row v.0 None ≡ None
    → ArrivesBy n s z v by → ⊥
arrives_none n s z row v by has e is =
    (subst (λ (r : Option ℕ). HasEarliest n s z v 1 r) e (has.each v)) is.arrival is.arrives

only : (u w : StopNo) → Contains (u ∷ []) w → u ≡ w
only u w has = elim (Contains-cons_cases u [] w has) [ inl e ↦ e | inr none ↦ absurd (omega (arith, none.1)) ]

needed_of : (n : Network) (u : StopNo) (z : ℕ) (c : Change) → IsNetwork n → IsNeededChange n u z c → IsNeeded n (u ∷ []) z c.first.off.stop c.second.on.stop
needed_of n u z c ok is =
    let low = off_stands n ok c.second.ride c.second.on c.second.off is.is_change.second_ride in
    record {
      u = u;
      v = c.second.off.stop;
      piece = piece_of c 0;
      leaves = Contains-here u [];
      candidate = record {
        is_piece = change_piece n u z c.second.off.stop c 0 is.is_change (distance_self n c.second.off.stop ok low);
        boards_at = is.at_stop;
        departs = is.departs;
        leaves_at = refl;
        walks = is.walks;
      };
      needed = is.unbettered;
      from_is = refl;
      to_is = refl;
    }

-- a pair that one of the first k changes needs
pub record NeededBelow (n : Network) (u : StopNo) (z : ℕ) (changes : List Change) (k : ℕ) (x y : StopNo) : Type 0 where
  pub change : Change
  pub below : StandsBelow changes k change
  pub needed : IsNeededChange n u z change
  pub from_is : change.first.off.stop ≡ x
  pub to_is : change.second.on.stop ≡ y

-- the change of a needed pair
change_needed : (n : Network) (u : StopNo) (z : ℕ) (x y : StopNo) → IsNetwork n → IsNeeded n (u ∷ []) z x y
    → (c : Change) × IsNeededChange n u z c × (c.first.off.stop ≡ x) × (c.second.on.stop ≡ y)
change_needed n u z x y ok d =
    let e = only u d.u d.leaves in
    let candidate : IsCandidate n u z d.v d.piece = subst (λ (w : StopNo). IsCandidate n w z d.v d.piece) (sym e) d.candidate in
    let unbettered : IsBettered n u z d.v d.piece → ⊥ = subst (λ (w : StopNo). IsBettered n w z d.v d.piece → ⊥) (sym e) d.needed in
    let piece = candidate.is_piece in
    let low = off_stands n ok d.piece.second d.piece.on2 d.piece.off2 piece.second_ride in
    let there : IsStopDistance n d.piece.off2.stop d.piece.off2.stop piece.walk3 =
    subst (λ (w : StopNo). IsStopDistance n d.piece.off2.stop w piece.walk3) (sym candidate.leaves_at) piece.to_end in
    let none : piece.walk3 ≡ 0 = distance_same there (distance_self n d.piece.off2.stop ok low) in
    let same : piece_of (change_of d.piece) 0 ≡ d.piece = piece_same d.piece 0 (omega (arith, piece.arrive_is, none)) in (
      change_of d.piece,
      record {
        is_change = piece_change n u z d.v d.piece piece;
        at_stop = candidate.boards_at;
        departs = candidate.departs;
        walks = candidate.walks;
        unbettered = λ is.
            unbettered (subst (λ (w : StopNo). IsBettered n u z w d.piece) candidate.leaves_at
            (subst (λ (p : Piece). IsBettered n u z d.piece.off2.stop p) same is));
      },
      d.from_is,
      d.to_is,
    )

pub needed_all : (n : Network) (u : StopNo) (z : ℕ) (changes : List Change) (k : ℕ) (x y : StopNo) → IsNetwork n → AreChanges n u z changes → length changes ≤ k
    → IsNeeded n (u ∷ []) z x y ↔ NeededBelow n u z changes k x y
needed_all n u z changes k x y ok are all = (
  λ is.
      let c = change_needed n u z x y ok is in
      record { change = c.0; below = below_all changes c.0 k all ((are c.0).1 c.1.is_change); needed = c.1; from_is = c.2; to_is = c.3 },
  λ is.
      subst (λ (w : StopNo). IsNeeded n (u ∷ []) z x w) is.to_is
      (subst (λ (w : StopNo). IsNeeded n (u ∷ []) z w is.change.second.on.stop) is.from_is (needed_of n u z is.change ok is.needed)),
)

module _ (n : Network) (u : StopNo) (z : ℕ) (changes : List Change) (k : ℕ) (c : Change) (is_next : slice_get changes k ≡ Some c) (x y : StopNo) where
  wider : NeededBelow n u z changes k x y → NeededBelow n u z changes (k + 1) x y
  wider is = record { change = is.change; below = (below_more changes k c is.change is_next).1 (inl is.below); needed = is.needed; from_is = is.from_is; to_is = is.to_is }

  -- a change that is needed
  pub needed_more : IsNeededChange n u z c
      → NeededBelow n u z changes (k + 1) x y ↔ (NeededBelow n u z changes k x y ⊎ ((let p : StopNo × StopNo = (c.first.off.stop, c.second.on.stop) in p) ≡ (x, y)))
  needed_more needed = (
    λ is. elim ((below_more changes k c is.change is_next).0 is.below) [
      | inl low ↦ inl (record { change = is.change; below = low; needed = is.needed; from_is = is.from_is; to_is = is.to_is })
      | inr e ↦
          let from : c.first.off.stop ≡ x = ap (λ (d : Change). d.first.off.stop) e ∙ is.from_is in
          let to : c.second.on.stop ≡ y = ap (λ (d : Change). d.second.on.stop) e ∙ is.to_is in
          inr (λ i. (from i, to i))
    ],
    λ h. elim h [
      | inl is ↦ wider is
      | inr e ↦
          record {
            change = c;
            below = (below_more changes k c c is_next).1 (inr refl);
            needed = needed;
            from_is = ap (λ (p : StopNo × StopNo). p.0) e;
            to_is = ap (λ (p : StopNo × StopNo). p.1) e;
          }
    ],
  )

  -- a change that isn't
  pub needed_none : (IsNeededChange n u z c → ⊥) → NeededBelow n u z changes (k + 1) x y ↔ NeededBelow n u z changes k x y
  needed_none none = (
    λ is. elim ((below_more changes k c is.change is_next).0 is.below) [
      | inl low ↦ record { change = is.change; below = low; needed = is.needed; from_is = is.from_is; to_is = is.to_is }
      | inr e ↦ absurd (none (subst (λ (d : Change). IsNeededChange n u z d) (sym e) is.needed))
    ],
    wider,
  )

-- a pair that one of the first k rides needs
pub record PairBelow (n : Network) (rides : List RideCalls) (k : ℕ) (x y : StopNo) : Type 0 where
  pub ride : RideCalls
  pub below : StandsBelow rides k ride
  pub z : ℕ
  pub departs : ride.on.dep ≡ z + n.buffer
  pub needed : IsNeeded n (ride.on.stop ∷ []) z x y

-- what a ride needs
abbrev pub NeedsOf : Network → RideCalls → StopNo → StopNo → Type 0
NeedsOf n r x y = (z : ℕ) × (r.on.dep ≡ z + n.buffer) × IsNeeded n (r.on.stop ∷ []) z x y

pub pair_more : (n : Network) (rides : List RideCalls) (k : ℕ) (r : RideCalls) (x y : StopNo) → slice_get rides k ≡ Some r
    → PairBelow n rides (k + 1) x y ↔ (PairBelow n rides k x y ⊎ NeedsOf n r x y)
pair_more n rides k r x y is_next = (
  λ is. elim ((below_more rides k r is.ride is_next).0 is.below) [
    | inl low ↦ inl (record { ride = is.ride; below = low; z = is.z; departs = is.departs; needed = is.needed })
    | inr e ↦ inr (subst (λ (q : RideCalls). NeedsOf n q x y) (sym e) (is.z, is.departs, is.needed))
  ],
  λ h. elim h [
    | inl is ↦ record { ride = is.ride; below = (below_more rides k r is.ride is_next).1 (inl is.below); z = is.z; departs = is.departs; needed = is.needed }
    | inr (z, departs, needed) ↦ record { ride = r; below = (below_more rides k r r is_next).1 (inr refl); z = z; departs = departs; needed = needed }
  ],
)

pub pair_all : (n : Network) (rides : List RideCalls) (k : ℕ) (x y : StopNo) → AreRides n rides → length rides ≤ k → IsPairNeeded n x y ↔ PairBelow n rides k x y
pair_all n rides k x y are all = (
  λ is.
      let d = is.needed in
      let ride : RideCalls = record { ride = d.piece.first; on = d.piece.on1; off = d.piece.off1 } in
      let at : d.piece.on1.stop ≡ is.u = d.candidate.boards_at ∙ sym (only is.u d.u d.leaves) in
      record {
        ride = ride;
        below = below_all rides ride k all ((are ride).1 d.candidate.is_piece.first_ride);
        z = is.z;
        departs = d.candidate.departs;
        needed = subst (λ (u : StopNo). IsNeeded n (u ∷ []) is.z x y) (sym at) d;
      },
  λ is. record { u = is.ride.on.stop; z = is.z; needed = is.needed },
)

-- a stop has one second at which a departure there is caught at once
pub needed_at : (n : Network) (u : StopNo) (departs s : ℕ) (x y : StopNo) → departs ≡ s + n.buffer
    → ((z : ℕ) × (departs ≡ z + n.buffer) × IsNeeded n (u ∷ []) z x y) ↔ IsNeeded n (u ∷ []) s x y
needed_at n u departs s x y e = (
  λ (z, f, is). let same : z ≡ s = omega (arith, e, f) in subst (λ (t : ℕ). IsNeeded n (u ∷ []) t x y) same is,
  λ is. (s, e, is),
)

-- the row of the arrivals with at most one ride
pub arrivals_of : (n : Network) (s : NodeNo) (z : ℕ) (rows : List (List (Option ℕ))) (row : List (Option ℕ)) → HoldsEarliest n s z 1 rows → slice_get rows 1 ≡ Some row
    → HasArrivals n s z row
arrivals_of n s z rows row holds is = record {
  each = λ v.
      subst (λ (r : List (Option ℕ)). HasEarliest n s z v 1 (slice_index_or r v.0 None)) (get_or_from_slice_get rows 1 row [] is)
      (holds.arrivals 1 v (omega arith));
}

pub has_row : (n : Network) (s : NodeNo) (z : ℕ) (rows : List (List (Option ℕ))) → HoldsEarliest n s z 1 rows → None ≡ slice_get rows 1 → ⊥
has_row n s z rows holds none =
    let there = slice_get-get_or rows 1 [] (omega (arith, holds.one_each)) in
    let wrong = none ∙ there in
    cc

-- the stops of needed pairs exist
pub pairs_exist : (n : Network) (pairs : List Pair) → IsNetwork n → AreNeededPairs n pairs → All (λ pair. (pair.0.0 < length n.stops) × (pair.1.0 < length n.stops)) pairs
pairs_exist n pairs ok are k d low =
    let p : Pair = slice_index_or pairs k d in
    stops_exist n p.0 p.1 ok ((are p.0 p.1).0 (Contains-get_or pairs k d low))

-- the seconds of a needed pair are the distance of its stops
pub seconds_are : (n : Network) (walks : List (List (Option ℕ))) (x y : StopNo) → KeepsRules n → HoldsWalks n walks → IsPairNeeded n x y → IsStopDistance n x y (seconds_by n walks x y)
seconds_are n walks x y rules holds is =
    let stops = stops_exist n x y rules.network is in
    let there = walk_within n x y rules is in
    go (walk_between n walks x y) ((holds.distances x stops.0).distances (node_of n y)) there.0 there.2
  where
    go : (r : Option ℕ) → HasDistance (streets n) (node_of n x) (node_of n y) r → (m : ℕ) → IsStopDistance n x y m → IsStopDistance n x y (unwrap_or r 0)
    go None none m d = absurd (none d.attained.0 m d.attained.1)
    go (Some k) d m e = d
