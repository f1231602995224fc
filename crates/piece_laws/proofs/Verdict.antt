-- The pairs of a start's needed candidates, by the least second rides.
use Rattle.std.proofs.Common.{◌≡◌, ℕ, ◌+◌, ◌<◌, ◌≤◌, ◌⊎◌, List, [], ◌∷◌, refl, sym, ap, subst, ◌∙◌, inl, inr, arith}
use Rattle.std.proofs.lemmas.Bool.{cases_lt}
use Rattle.move_model.specs.declared.network.Network.{Network}
use Rattle.move_model.specs.declared.network.NodeNo.{NodeNo}
use Rattle.move_model.specs.declared.network.StopNo.{StopNo}
use Rattle.move_model.specs.declared.network.Call.{Call}
use Rattle.move_model.specs.declared.journey.Ride.{Ride}
use Rattle.move_model.specs.declared.journey.Key.{Key}
use Rattle.move_model.specs.Streets.{IsVertex}
use Rattle.move_model.specs.Network.{IsNetwork, node_of, streets, IsStopDistance}
use Rattle.move_model.specs.Journey.{IsRide}
use Rattle.move_model.specs.Shortcut.{IsLess, Piece, IsPiece, key_of, IsKeyLess, entry_of, IsCandidate, IsBettered}
use Rattle.move_model.specs.Shortcut.IsBettered.{by_piece, by_journey}
use Rattle.piece_laws.specs.declared.labels.Ready.{Ready}
use Rattle.piece_laws.specs.declared.labels.Second.{Second}
use Rattle.piece_laws.specs.Pieces.{HasFirst, HasReady, second_entries, HasSecond, IsCovered}
use Rattle.piece_laws.specs.Tables.{never, SecondStands}
use Rattle.pareto_laws.proofs.Walks.{IsWalk-begins}
use Rattle.pareto_laws.proofs.Distances.{distance_self, distance_same}
use Rattle.pareto_laws.proofs.Calls.{stop_eq}
use Rattle.pareto_laws.proofs.Exchange.{entry_of_same, entry_of_zero}
use Rattle.piece_laws.proofs.Entries.{entry_of_is, same_list, second_eq}
use Rattle.piece_laws.proofs.Rides.{call_vertex}
use Rattle.piece_laws.proofs.Covered.{covered_more, covered_on}

-- a ride from the stop u itself
pub record OwnAt (n : Network) (u : StopNo) (z : ℕ) (x : StopNo) (a : ℕ) : Type 0 where
  pub ride : Ride
  pub on : Call
  pub off : Call
  pub is_ride : IsRide n ride on off
  pub boards_at : on.stop ≡ u
  pub departs : on.dep ≡ z + n.buffer
  pub left_at : off.stop ≡ x
  pub left_by : off.arr ≡ a

-- the label of a piece where its second ride is boarded
abbrev pub label_of : Piece → Ready
label_of p = record { ready = p.ready; a1 = p.off1.arr; c = entry_of p.off1.stop p.on2.stop }

abbrev pub second_of : Piece → Second
second_of p = record { a2 = p.off2.arr; trip = p.second.trip.0; y = p.on2.stop.0; label = label_of p }

-- the key of a second ride with a walk at its end
abbrev pub key_at : Second → ℕ → ℕ → Key
key_at k arrive e =
    record {
      arrive = arrive;
      a2 = k.a2;
      e = e;
      trip = k.trip;
      ready = k.label.ready;
      y = k.y;
      a1 = k.label.a1;
      c = k.label.c;
    }

-- the piece of a second ride and a walk
abbrev pub piece_at : {n : Network} {q : NodeNo} {z : ℕ} {w : StopNo} {k : Second} → HasSecond n q z w k → ℕ → Piece
piece_at {k = k} s m =
    record {
      first = s.boards.first.ride;
      on1 = s.boards.first.on;
      off1 = s.boards.first.off;
      second = s.ride;
      on2 = s.on;
      off2 = s.off;
      ready = k.label.ready;
      arrive = k.a2 + m;
    }

-- a second ride's entries after its arrival
abbrev pub rest_of : Second → List ℕ
rest_of k = k.trip ∷ k.label.ready ∷ k.y ∷ k.label.a1 ∷ k.label.c ∷ []

less_first : (x y : ℕ) (xs ys : List ℕ) → IsLess (x ∷ xs) (y ∷ ys) → x ≤ y
less_first x y xs ys (inl l) = omega arith
less_first x y xs ys (inr h) = omega (arith, h.0)

pub not_less-first : (x y : ℕ) (xs ys : List ℕ) → ¬ (IsLess (y ∷ ys) (x ∷ xs)) → x ≤ y
not_less-first x y xs ys h = elim (cases_lt y x) [ inl l ↦ absurd (h (inl l)) | inr l ↦ l ]

-- the entries of a lesser piece, against the label where it ends
by_entries : (v w : StopNo) (k b m : Second) (arrive : ℕ)
    → IsLess (arrive ∷ m.a2 ∷ entry_of w v ∷ m.trip ∷ m.label.ready ∷ m.y ∷ m.label.a1 ∷ m.label.c ∷ [])
    (k.a2 ∷ k.a2 ∷ 0 ∷ k.trip ∷ k.label.ready ∷ k.y ∷ k.label.a1 ∷ k.label.c ∷ [])
    → m.a2 ≤ arrive → b.a2 ≤ m.a2 → (b.a2 < k.a2 → ⊥) → (w ≡ v → b ≡ k) → ¬ (IsLess (second_entries m) (second_entries b)) → ⊥
by_entries v w k b m arrive (inl l) h g nearer same none = nearer (omega arith)
by_entries v w k b m arrive (inr (e, inl l)) h g nearer same none = nearer (omega arith)
by_entries v w k b m arrive (inr (e, inr (f, inl l))) h g nearer same none = omega arith
by_entries v w k b m arrive (inr (e, inr (f, inr (i, rest)))) h g nearer same none =
    let is : b ≡ k = same (entry_of_zero w v i) in
    (subst (λ (q : Second). ¬ (IsLess (second_entries m) (second_entries q))) is none) (inr (f, rest))

module _ (n : Network) (u : StopNo) (z : ℕ) where
  -- every piece is a second ride and a walk
  pub piece_second : (v : StopNo) (p : Piece) → IsPiece n u z v p → HasSecond n (node_of n u) z p.off2.stop (second_of p)
  piece_second v p is =
      record {
        ride = p.second;
        on = p.on2;
        off = p.off2;
        is_ride = is.second_ride;
        boards = record {
          from = p.off1.stop;
          first = record {
            ride = p.first;
            on = p.on1;
            off = p.off1;
            is_ride = is.first_ride;
            walk = is.walk1;
            to_it = is.to_first;
            in_time = is.in_time1;
            left_at = refl;
            left_by = refl;
          };
          walk = is.walk2;
          between = is.between;
          ready_is = is.ready_is;
          c_is = refl;
        };
        in_time = is.in_time2;
        left_at = refl;
        a2_is = refl;
        trip_is = refl;
        y_is = refl;
      }

  -- and every second ride and walk is a piece
  pub second_piece : (w v : StopNo) (m : ℕ) (k : Second) (s : HasSecond n (node_of n u) z w k) → IsStopDistance n w v m → IsPiece n u z v (piece_at s m)
  second_piece w v m k s d =
      let r = s.boards in
      let f = r.first in
      record {
        first_ride = f.is_ride;
        second_ride = s.is_ride;
        walk1 = f.walk;
        to_first = f.to_it;
        in_time1 = f.in_time;
        walk2 = r.walk;
        between = subst (λ (x : StopNo). IsStopDistance n x s.on.stop r.walk) (sym f.left_at) r.between;
        ready_is = omega (arith, r.ready_is, f.left_by);
        in_time2 = s.in_time;
        walk3 = m;
        to_end = subst (λ (x : StopNo). IsStopDistance n x v m) (sym s.left_at) d;
        arrive_is = omega (arith, s.a2_is);
      }

  pub second_key : (w v : StopNo) (m : ℕ) (k : Second) (s : HasSecond n (node_of n u) z w k) → key_of v (piece_at s m) ≡ key_at k (k.a2 + m) (entry_of w v)
  second_key w v m k s =
      let r = s.boards in
      let f = r.first in
      key_eq (sym s.a2_is) (ap (λ (x : StopNo). entry_of x v) s.left_at) (sym s.trip_is) (sym s.y_is) f.left_by (label_c s.on.stop f.left_at r.c_is)
    where
      label_c : {x x' : StopNo} {c : ℕ} (y : StopNo) → x ≡ x' → c ≡ entry_of x' y → entry_of x y ≡ c
      label_c y e f = ap (λ (x : StopNo). entry_of x y) e ∙ sym f

      key_eq : {a b c d e f a' b' c' d' e' f' g h : ℕ} → a ≡ a' → b ≡ b' → c ≡ c' → d ≡ d' → e ≡ e' → f ≡ f'
          → (let k : Key = record { arrive = g; a2 = a; e = b; trip = c; ready = h; y = d; a1 = e; c = f } in k)
          ≡ (let k : Key = record { arrive = g; a2 = a'; e = b'; trip = c'; ready = h; y = d'; a1 = e'; c = f' } in k)
      key_eq {g = g} {h = h} p q r s t v = λ i. record { arrive = g; a2 = p i; e = q i; trip = r i; ready = h; y = s i; a1 = t i; c = v i }

  -- from u itself, to v itself
  module _ (ok : IsNetwork n) (h : ℕ) (low : h ≤ never) (best : StopNo → Second) (stands : SecondStands n (node_of n u) z h best) where
    v_self : (w : StopNo) (k : Second) → HasSecond n (node_of n u) z w k → IsStopDistance n w w 0
    v_self w k s =
        distance_self (streets n) (subst (λ (x : StopNo). IsVertex (streets n) (node_of n x)) s.left_at (call_vertex n ok s.ride.trip s.ride.alight s.off s.is_ride.leaves))

    pub u_self : (y : StopNo) (l : Ready) → HasReady n (node_of n u) z y l → IsStopDistance n u u 0
    u_self y l r = distance_self (streets n) (IsWalk-begins (streets n) ok.streets_join r.first.to_it.attained.1)

    -- the pair of v's label is needed: its first ride leaves u itself, no journey with at most one ride is as early, and
    -- no earlier stop of two rides is near enough
    pub record IsVerdict (v x y : StopNo) : Type 0 where
      pub within : (best v).a2 < h
      pub c_is : (best v).label.c ≡ 1 + x.0
      pub y_is : (best v).y ≡ y.0
      pub own : OwnAt n u z x (best v).label.a1
      pub alone : ¬ (IsCovered n (node_of n u) z v (best v).a2)
      pub no_nearer : (w : StopNo) (m : ℕ) → IsStopDistance n w v m → (best w).a2 < (best v).a2 → (best v).a2 < (best w).a2 + m

    -- a piece of the label's key that leaves u itself
    pub record IsOwnPiece (v x y : StopNo) (k : Second) : Type 0 where
      pub piece : Piece
      pub candidate : IsCandidate n u z v piece
      pub from_is : piece.off1.stop ≡ x
      pub to_is : piece.on2.stop ≡ y
      pub key_is : key_of v piece ≡ key_at k k.a2 0

    own_piece : (v x y : StopNo) (k : Second) → HasSecond n (node_of n u) z v k → k.label.c ≡ 1 + x.0 → k.y ≡ y.0 → OwnAt n u z x k.label.a1
        → IsOwnPiece v x y k
    own_piece v x y k s c_is y_is own =
        let r = s.boards in
        let other = entry_of_is r.from x s.on.stop (sym r.c_is ∙ c_is) in
        let at_y : s.on.stop ≡ y = stop_eq s.on.stop y (omega (arith, s.y_is)) in
        let own_first : HasFirst n (node_of n u) z x k.label.a1 = record {
          ride = own.ride;
          on = own.on;
          off = own.off;
          is_ride = own.is_ride;
          walk = 0;
          to_it = subst (λ (b : StopNo). IsStopDistance n u b 0) (sym own.boards_at) (u_self s.on.stop k.label r);
          in_time = omega (arith, own.departs);
          left_at = own.left_at;
          left_by = own.left_by;
        } in
        let boards : HasReady n (node_of n u) z s.on.stop k.label = record {
          from = x;
          first = own_first;
          walk = r.walk;
          between = subst (λ (b : StopNo). IsStopDistance n b s.on.stop r.walk) other.same r.between;
          ready_is = r.ready_is;
          c_is = r.c_is ∙ ap (λ (b : StopNo). entry_of b s.on.stop) other.same;
        } in
        let second : HasSecond n (node_of n u) z v k = record {
          ride = s.ride;
          on = s.on;
          off = s.off;
          is_ride = s.is_ride;
          boards = boards;
          in_time = s.in_time;
          left_at = s.left_at;
          a2_is = s.a2_is;
          trip_is = s.trip_is;
          y_is = s.y_is;
        } in
        let self = v_self v k s in
        record {
          piece = piece_at second 0;
          candidate = record {
            is_piece = second_piece v v 0 k second self;
            boards_at = own.boards_at;
            departs = own.departs;
            leaves_at = s.left_at;
            walks = λ e. other.other (other.same ∙ sym own.left_at ∙ e);
          };
          from_is = own.left_at;
          to_is = at_y;
          key_is = second_key v v 0 k second ∙ key_end k (omega arith) (entry_of_same v);
        }
      where
        key_end : (k : Second) {a e : ℕ} → a ≡ k.a2 → e ≡ 0 → key_at k a e ≡ key_at k k.a2 0
        key_end k p q = λ i. key_at k (p i) (q i)

    -- what betters the piece contradicts the verdict
    not_bettered : (v x y : StopNo) (verdict : IsVerdict v x y) (piece : Piece)
        → key_of v piece ≡ key_at (best v) (best v).a2 0 → piece.off2.arr ≡ (best v).a2 → IsBettered n u z v piece → ⊥
    not_bettered v x y verdict piece e f (by_journey journey arrive is few leads no_later) =
        verdict.alone (record { journey = journey; arrive = arrive; departs = is; few = few; leads = leads; no_later = omega arith })
    not_bettered v x y verdict piece e f (by_piece other is less) =
        let k = best v in
        let w = other.off2.stop in
        let b = best w in
        let l : IsKeyLess (key_of v other) (key_at k k.a2 0) = subst (λ (q : Key). IsKeyLess (key_of v other) q) e less in
        let s = piece_second v other is in
        let at_most : other.arrive ≤ k.a2 = less_first other.arrive k.a2 (other.off2.arr ∷ entry_of w v ∷ rest_of (second_of other)) (k.a2 ∷ 0 ∷ rest_of k) l in
        elim (stands.enough w (second_of other) s (omega (arith, is.arrive_is, verdict.within))) [
          | inl c ↦ verdict.alone (covered_more n (node_of n u) z v (other.off2.arr + is.walk3) k.a2 (covered_on n (node_of n u) z w v other.off2.arr is.walk3 c is.to_end) (omega (arith, is.arrive_is)))
          | inr none ↦
              let first : b.a2 ≤ other.off2.arr = not_less-first b.a2 other.off2.arr (rest_of b) (rest_of (second_of other)) none in
              let nearer : b.a2 < k.a2 → ⊥ = λ g. omega (arith, verdict.no_nearer w is.walk3 is.to_end g, is.arrive_is) in
              by_entries v w k b (second_of other) other.arrive l (omega (arith, is.arrive_is)) first nearer (λ g. ap best g) none
        ]

    pub record Needed (x y : StopNo) : Type 0 where
      pub v : StopNo
      pub piece : Piece
      pub candidate : IsCandidate n u z v piece
      pub needed : ¬ (IsBettered n u z v piece)
      pub from_is : piece.off1.stop ≡ x
      pub to_is : piece.on2.stop ≡ y

    pub verdict_needed : (v x y : StopNo) → IsVerdict v x y → Needed x y
    verdict_needed v x y verdict =
        let s = stands.real v (omega (arith, verdict.within)) in
        let p = own_piece v x y (best v) s verdict.c_is verdict.y_is verdict.own in
        record {
          v = v;
          piece = p.piece;
          candidate = p.candidate;
          needed = not_bettered v x y verdict p.piece p.key_is (ap (λ (q : Key). q.a2) p.key_is);
          from_is = p.from_is;
          to_is = p.to_is;
        }

    -- the label at the end of a candidate that nothing betters is its own
    module _ (v : StopNo) (p : Piece) (candidate : IsCandidate n u z v p) (needed : ¬ (IsBettered n u z v p)) where
      is_piece : IsPiece n u z v p
      is_piece = candidate.is_piece

      pub second_at_v : HasSecond n (node_of n u) z v (second_of p)
      second_at_v = subst (λ (w : StopNo). HasSecond n (node_of n u) z w (second_of p)) candidate.leaves_at (piece_second v p is_piece)

      no_walk : is_piece.walk3 ≡ 0
      no_walk =
          distance_same is_piece.to_end
          (subst (λ (w : StopNo). IsStopDistance n w v 0) (sym candidate.leaves_at) (v_self v (second_of p) second_at_v))

      pub candidate_key : key_of v p ≡ key_at (second_of p) p.off2.arr 0
      candidate_key =
          let a : p.arrive ≡ p.off2.arr = omega (arith, is_piece.arrive_is, no_walk) in
          let e : entry_of p.off2.stop v ≡ 0 = ap (λ (w : StopNo). entry_of w v) candidate.leaves_at ∙ entry_of_same v in
          λ i. key_at (second_of p) (a i) (e i)

      -- no second ride and walk has a lesser key
      none_lesser : (w : StopNo) (k : Second) (m : ℕ) → HasSecond n (node_of n u) z w k → IsStopDistance n w v m
          → IsKeyLess (key_at k (k.a2 + m) (entry_of w v)) (key_at (second_of p) p.off2.arr 0) → ⊥
      none_lesser w k m s d less =
          needed (by_piece (piece_at s m) (second_piece w v m k s d)
          (subst (λ (q : Key). IsKeyLess q (key_of v p)) (sym (second_key w v m k s))
          (subst (λ (q : Key). IsKeyLess (key_at k (k.a2 + m) (entry_of w v)) q) (sym candidate_key) less)))

      pub none_far : (w : StopNo) (k : Second) (m : ℕ) → HasSecond n (node_of n u) z w k → IsStopDistance n w v m
          → IsLess ((k.a2 + m) ∷ k.a2 ∷ []) (p.off2.arr ∷ p.off2.arr ∷ []) → ⊥
      none_far w k m s d less = none_lesser w k m s d (longer k.a2 (k.a2 + m) p.off2.arr (entry_of w v ∷ rest_of k) (0 ∷ rest_of (second_of p)) less)
        where
          longer : (a b c : ℕ) (xs ys : List ℕ) → IsLess (b ∷ a ∷ []) (c ∷ c ∷ []) → IsLess (b ∷ a ∷ xs) (c ∷ c ∷ ys)
          longer a b c xs ys (inl l) = inl l
          longer a b c xs ys (inr (e, inl l)) = inr (e, inl l)
          longer a b c xs ys (inr (e, inr (f, g))) = absurd g

      pub none_covers : ¬ (IsCovered n (node_of n u) z v p.off2.arr)
      none_covers c = needed (by_journey c.journey c.arrive c.departs c.few c.leads c.no_later)

      pub no_less : (k : Second) → HasSecond n (node_of n u) z v k → IsLess (second_entries k) (second_entries (second_of p)) → ⊥
      no_less k s l =
          none_lesser v k 0 s (v_self v k s)
          (rw (entry_of_same v) (lengthen k.a2 (k.a2 + 0) p.off2.arr (rest_of k) (rest_of (second_of p)) (omega arith) l))
        where
          lengthen : (a b c : ℕ) (xs ys : List ℕ) → b ≡ a → IsLess (a ∷ xs) (c ∷ ys) → IsLess (b ∷ a ∷ 0 ∷ xs) (c ∷ c ∷ 0 ∷ ys)
          lengthen a b c xs ys e (inl l) = inl (omega arith)
          lengthen a b c xs ys e (inr h) = inr (omega (arith, h.0), inr (h.0, inr (refl, h.1)))

      -- where the label isn't greater
      pub label_is : IsCovered n (node_of n u) z v p.off2.arr ⊎ ¬ (IsLess (second_entries (second_of p)) (second_entries (best v))) → p.off2.arr < never → best v ≡ second_of p
      label_is enough within =
          elim enough [
            | inl c ↦ absurd (none_covers c)
            | inr none ↦
                let first : (best v).a2 ≤ p.off2.arr = not_less-first (best v).a2 p.off2.arr (rest_of (best v)) (rest_of (second_of p)) none in
                let real = stands.real v (omega (arith, within)) in
                second_eq (best v) (second_of p) (same_list (second_entries (best v)) (second_entries (second_of p)) refl (no_less (best v) real) none)
          ]

      pub candidate_own : OwnAt n u z p.off1.stop p.off1.arr
      candidate_own =
          record {
            ride = p.first;
            on = p.on1;
            off = p.off1;
            is_ride = is_piece.first_ride;
            boards_at = candidate.boards_at;
            departs = candidate.departs;
            left_at = refl;
            left_by = refl;
          }

      -- a ride from a stop at u's vertex at the same second that is left at the same stop is left no earlier
      pub none_earlier : (b : ℕ) → HasFirst n (node_of n u) z p.off1.stop b → p.off1.arr ≤ b
      none_earlier b first = elim (cases_lt b p.off1.arr) [ inl l ↦ absurd (earlier l) | inr l ↦ l ]
        where
          earlier : b < p.off1.arr → ⊥
          earlier l =
              let m : Ready = record { ready = b + is_piece.walk2; a1 = b; c = entry_of p.off1.stop p.on2.stop } in
              let k : Second = record { a2 = p.off2.arr; trip = p.second.trip.0; y = p.on2.stop.0; label = m } in
              let second : HasSecond n (node_of n u) z v k = record {
                ride = p.second;
                on = p.on2;
                off = p.off2;
                is_ride = is_piece.second_ride;
                boards = record { from = p.off1.stop; first = first; walk = is_piece.walk2; between = is_piece.between; ready_is = refl; c_is = refl };
                in_time = omega (arith, is_piece.in_time2, is_piece.ready_is);
                left_at = candidate.leaves_at;
                a2_is = refl;
                trip_is = refl;
                y_is = refl;
              } in
              no_less k second (inr (refl, inr (refl, inl (omega (arith, is_piece.ready_is)))))
