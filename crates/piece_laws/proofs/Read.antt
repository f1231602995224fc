-- What is read off the labels of a start.
use Rattle.std.proofs.Common.{◌≡◌, ℕ, ◌+◌, ◌<◌, ◌≤◌, [], ◌∷◌, List, refl, sym, ap, subst, ◌∙◌, inl, inr, arith}
use Rattle.std.specs.Prelude.{Contains}
use Rattle.std.proofs.lemmas.Bool.{cases_lt}
use Rattle.move_model.specs.declared.network.Network.{Network}
use Rattle.move_model.specs.declared.network.NodeNo.{NodeNo}
use Rattle.move_model.specs.declared.network.StopNo.{StopNo}
use Rattle.move_model.specs.Streets.{IsVertex}
use Rattle.move_model.specs.Network.{IsNetwork, IsStopDistance, node_of, streets}
use Rattle.move_model.specs.Shortcut.{IsLess, Piece, IsCandidate, IsBettered}
use Rattle.piece_laws.specs.declared.labels.Ready.{Ready}
use Rattle.piece_laws.specs.declared.labels.Second.{Second}
use Rattle.piece_laws.specs.Pieces.{IsFootDistance, IsCovered, IsNeeded, IsOwn, HasFirst, HasReady, HasSecond}
use Rattle.piece_laws.specs.Tables.{never, ReadyStands, SecondStands, OwnStands, OwnFirstStands, IsWalkClosed, IsRideClosed, IsRead}
use Rattle.pareto_laws.proofs.Walks.{IsWalk-begins}
use Rattle.pareto_laws.proofs.Distances.{distance_self}
use Rattle.pareto_laws.proofs.Exchange.{entry_of_other}
use Rattle.piece_laws.proofs.Covered.{CoveredCases, covered_by_walk, covered_by_ride, covered_cases}
use Rattle.piece_laws.proofs.Covered.CoveredCases.{on_foot, one_ride}
use Rattle.piece_laws.proofs.Rides.{ride_later}
use Rattle.piece_laws.proofs.Compose.{ready_first, ready_one, second_one}
use Rattle.piece_laws.proofs.Verdict.{OwnAt, IsVerdict, verdict_needed, none_far, none_covers, none_earlier, label_is, label_of, second_of}

-- no journey with at most one ride is as early
module _ (n : Network) (ok : IsNetwork n) (q : NodeNo) (z h : ℕ) (ready : StopNo → Ready) (readies : ReadyStands n q z h ready) where
  alone_of : (v : StopNo) (a : ℕ) → a < h → ((m : ℕ) → IsFootDistance n q v m → a < z + m) → a < (ready v).ready → ¬ (IsCovered n q z v a)
  alone_of v a within no_foot no_ride c = go (covered_cases n q ok z v a c)
    where
      go : CoveredCases n q z v a → ⊥
      go (on_foot m d le) = omega (arith, no_foot m d)
      go (one_ride l r le) =
          elim (readies.enough v l r (omega arith)) [
            | inl f ↦ omega (arith, no_foot f.seconds f.foot, f.no_later)
            | inr b ↦ omega (arith, no_ride, ready_first (ready v) l b)
          ]

-- from the stop u
module _ (n : Network) (ok : IsNetwork n) (us : List StopNo) (u : StopNo) (z h : ℕ) (low : h ≤ never) (own : StopNo → ℕ) (ready : StopNo → Ready) (best : StopNo → Second)
    (readies : ReadyStands n (node_of n u) z h ready) (stands : SecondStands n (node_of n u) z h best) where
  read_at : (v x y : StopNo) → IsRead n (node_of n u) z h own ready best v x y → OwnAt n u z x (best v).label.a1 → IsVerdict n u z ok h low best stands v x y
  read_at v x y r is_own =
      record {
        within = r.within;
        c_is = r.c_is;
        y_is = r.y_is;
        own = is_own;
        alone = alone_of n ok (node_of n u) z h ready readies v (best v).a2 r.within r.no_foot r.no_ride;
        no_nearer = λ w m d nearer. elim (cases_lt (best v).a2 ((best w).a2 + m)) [
          | inl l ↦ l
          | inr l ↦ absurd (r.no_far w m d (near (best w).a2 ((best w).a2 + m) (best v).a2 nearer l))
        ];
      }
    where
      near : (a b c : ℕ) → a < c → b ≤ c → IsLess (b ∷ a ∷ []) (c ∷ c ∷ [])
      near a b c l g = elim (cases_lt b c) [ inl f ↦ inl f | inr f ↦ inr (omega arith, inl l) ]

  pub needed_at : Contains us u → (v x y : StopNo) → IsRead n (node_of n u) z h own ready best v x y → OwnAt n u z x (best v).label.a1 → IsNeeded n us z x y
  needed_at is_one v x y r is_own =
      let d = verdict_needed n u z ok h low best stands v x y (read_at v x y r is_own) in
      record { u = u; v = d.v; piece = d.piece; leaves = is_one; candidate = d.candidate; needed = d.needed; from_is = d.from_is; to_is = d.to_is }

-- from the stop u, where its own first rides are in the labels
module _ (n : Network) (ok : IsNetwork n) (us : List StopNo) (u : StopNo) (z h : ℕ) (low : h ≤ never) (own first : StopNo → ℕ) (ready : StopNo → Ready) (best : StopNo → Second)
    (firsts : OwnFirstStands n us (node_of n u) z h first) (readies : (y : StopNo) → (ready y).ready < never → HasReady n (node_of n u) z y (ready y))
    (walks : IsWalkClosed n (node_of n u) z h first ready) (seconds : (v : StopNo) → (best v).a2 < never → HasSecond n (node_of n u) z v (best v))
    (rides : IsRideClosed n (node_of n u) z h ready best) where
  stands : SecondStands n (node_of n u) z 0 best
  stands = record { real = seconds; enough = λ v m s early. absurd (omega (arith, early)) }

  -- a first ride that nobody walks to
  own_first : (x : StopNo) (b : ℕ) → IsVertex (streets n) (node_of n u) → ((w : StopNo) → Contains us w → node_of n w ≡ node_of n u) → IsOwn n us z x b → HasFirst n (node_of n u) z x b
  own_first x b stands at o =
      record {
        ride = o.ride;
        on = o.on;
        off = o.off;
        is_ride = o.is_ride;
        walk = 0;
        to_it = subst (λ k. IsFootDistance n k o.on.stop 0) (at o.on.stop o.boards_at)
            (distance_self (streets n) (subst (λ k. IsVertex (streets n) k) (sym (at o.on.stop o.boards_at)) stands));
        in_time = omega (arith, o.departs);
        left_at = o.left_at;
        left_by = o.left_by;
      }

  pub read_of : Contains us u → ((w : StopNo) → Contains us w → node_of n w ≡ node_of n u) → OwnStands n us z own
      → (v : StopNo) (p : Piece) → IsCandidate n u z v p → ¬ (IsBettered n u z v p) → p.off2.arr < h
      → IsRead n (node_of n u) z h own ready best v p.off1.stop p.on2.stop × ((best v).a2 ≡ p.off2.arr)
  read_of is_one at owns v p candidate needed within =
      let alone : ¬ (IsCovered n (node_of n u) z v p.off2.arr) = none_covers n u z ok 0 (omega arith) best stands v p candidate needed in
      let piece = candidate.is_piece in
      let walked = piece.to_first.attained.1 in
      let later : p.on2.dep ≤ p.off2.arr = ride_later n ok p.second p.on2 p.off2 piece.second_ride in
      let o : IsOwn n us z p.off1.stop p.off1.arr = record {
        ride = p.first;
        on = p.on1;
        off = p.off1;
        is_ride = piece.first_ride;
        boards_at = subst (λ (w : StopNo). Contains us w) (sym candidate.boards_at) is_one;
        departs = candidate.departs;
        left_at = refl;
        left_by = refl;
      } in
      let r : HasReady n (node_of n u) z p.on2.stop (label_of p) = record {
        from = p.off1.stop;
        first = record { ride = p.first; on = p.on1; off = p.off1; is_ride = piece.first_ride; walk = piece.walk1; to_it = piece.to_first; in_time = piece.in_time1; left_at = refl; left_by = refl };
        walk = piece.walk2;
        between = piece.between;
        ready_is = piece.ready_is;
        c_is = refl;
      } in
      let s : HasSecond n (node_of n u) z v (second_of p) = record {
        ride = p.second;
        on = p.on2;
        off = p.off2;
        is_ride = piece.second_ride;
        boards = r;
        in_time = piece.in_time2;
        left_at = candidate.leaves_at;
        a2_is = refl;
        trip_is = refl;
        y_is = refl;
      } in
      let first_known = firsts.enough p.off1.stop p.off1.arr o (omega (arith, later, piece.in_time2, piece.ready_is, within)) in
      let known = ready_one n ok (node_of n u) z h first ready walks p.on2.stop (label_of p) r (omega (arith, later, piece.in_time2, within)) first_known in
      let is : best v ≡ second_of p = label_is n u z ok 0 (omega arith) best stands v p candidate needed (second_one n ok (node_of n u) z h ready best rides v (second_of p) s within known) (omega (arith, within, low)) in
      let a2_is : (best v).a2 ≡ p.off2.arr = ap (λ (k : Second). k.a2) is in
      let at_most : own p.off1.stop ≤ p.off1.arr = owns.enough p.off1.stop p.off1.arr o in
      let small : p.off1.arr < never = omega (arith, later, piece.in_time2, piece.ready_is, within) in
      let least : own p.off1.stop < never → p.off1.arr ≤ own p.off1.stop = λ some.
      none_earlier n u z ok 0 (omega arith) best stands v p candidate needed (own p.off1.stop)
      (own_first p.off1.stop (own p.off1.stop) (IsWalk-begins (streets n) ok.streets_join walked) at (owns.real p.off1.stop some)) in (
        record {
          within = omega arith;
          c_is = ap (λ (k : Second). k.label.c) is ∙ entry_of_other p.off1.stop p.on2.stop candidate.walks;
          y_is = ap (λ (k : Second). k.y) is;
          own_is = own_same small at_most least ∙ sym (ap (λ (k : Second). k.label.a1) is);
          no_foot = λ m d. elim (cases_lt (best v).a2 (z + m)) [ inl l ↦ l | inr l ↦ absurd (alone (covered_by_walk n (node_of n u) z v m p.off2.arr d (omega arith))) ];
          no_ride = elim (cases_lt (best v).a2 (ready v).ready) [
            | inl g ↦ g
            | inr g ↦ absurd (alone (covered_by_ride n (node_of n u) z v (ready v) p.off2.arr (readies v (omega (arith, a2_is, g, within))) (omega arith)))
          ];
          no_far = λ w m d less. far_of w m d a2_is less;
        },
        a2_is,
      )
    where
      own_same : {a b : ℕ} → b < never → a ≤ b → (a < never → b ≤ a) → a ≡ b
      own_same {a} {b} l f g = omega (arith, g (omega arith))

      first_of_less : (b a c d : ℕ) → IsLess (b ∷ a ∷ []) (c ∷ d ∷ []) → b ≤ c
      first_of_less b a c d (inl l) = omega arith
      first_of_less b a c d (inr e) = omega (arith, e.0)

      far_of : (w : StopNo) (m : ℕ) → IsStopDistance n w v m → (best v).a2 ≡ p.off2.arr
          → ¬ (IsLess (((best w).a2 + m) ∷ (best w).a2 ∷ []) ((best v).a2 ∷ (best v).a2 ∷ []))
      far_of w m d e less =
          let low_w : (best w).a2 + m ≤ (best v).a2 = first_of_less ((best w).a2 + m) (best w).a2 (best v).a2 (best v).a2 less in
          none_far n u z ok 0 (omega arith) best stands v p candidate needed w (best w) m (seconds w (omega (arith, within))) d
          (subst (λ (k : ℕ). IsLess (((best w).a2 + m) ∷ (best w).a2 ∷ []) (k ∷ k ∷ [])) e less)

-- from some stops at one vertex
module _ (n : Network) (us : List StopNo) (q : NodeNo) (z h : ℕ) (own : StopNo → ℕ) (ready : StopNo → Ready) (best : StopNo → Second)
    (ok : IsNetwork n) (low : h ≤ never) (at : (u : StopNo) → Contains us u → node_of n u ≡ q)
    (owns : OwnStands n us z own) (readies : ReadyStands n q z h ready) (stands : SecondStands n q z h best) where
  pub read_needed : (v x y : StopNo) → IsRead n q z h own ready best v x y → IsNeeded n us z x y
  read_needed v x y r =
      let s = stands.real v (omega (arith, r.within)) in
      let small : own x < never = omega (arith, ride_later n ok s.ride s.on s.off s.is_ride, s.in_time, s.boards.ready_is, s.a2_is, r.within, r.own_is) in
      let o = owns.real x small in
      let u = o.on.stop in
      let is = at u o.boards_at in
      needed_at n ok us u z h low own ready best (subst (λ k. ReadyStands n k z h ready) (sym is) readies) (subst (λ k. SecondStands n k z h best) (sym is) stands)
      o.boards_at v x y (subst (λ k. IsRead n k z h own ready best v x y) (sym is) r)
      (record { ride = o.ride; on = o.on; off = o.off; is_ride = o.is_ride; boards_at = refl; departs = o.departs; left_at = o.left_at; left_by = o.left_by ∙ r.own_is })

-- from some stops at one vertex, where their own first rides are in the labels
module _ (n : Network) (us : List StopNo) (q : NodeNo) (z h : ℕ) (own first : StopNo → ℕ) (ready : StopNo → Ready) (best : StopNo → Second)
    (ok : IsNetwork n) (low : h ≤ never) (at : (u : StopNo) → Contains us u → node_of n u ≡ q)
    (owns : OwnStands n us z own) (firsts : OwnFirstStands n us q z h first) (readies : (y : StopNo) → (ready y).ready < never → HasReady n q z y (ready y))
    (walks : IsWalkClosed n q z h first ready) (seconds : (v : StopNo) → (best v).a2 < never → HasSecond n q z v (best v))
    (rides : IsRideClosed n q z h ready best) where
  pub needed_read : (u v : StopNo) (piece : Piece) → Contains us u → IsCandidate n u z v piece → (IsBettered n u z v piece → ⊥) → piece.off2.arr < h
      → IsRead n q z h own ready best v piece.off1.stop piece.on2.stop × ((best v).a2 ≡ piece.off2.arr)
  needed_read u v piece is_one candidate needed within =
      let e : q ≡ node_of n u = sym (at u is_one) in
      subst (λ k. IsRead n k z h own ready best v piece.off1.stop piece.on2.stop × ((best v).a2 ≡ piece.off2.arr)) (at u is_one)
      (read_of n ok us u z h low own first ready best (subst (λ k. OwnFirstStands n us k z h first) e firsts)
      (subst (λ k. (y : StopNo) → (ready y).ready < never → HasReady n k z y (ready y)) e readies) (subst (λ k. IsWalkClosed n k z h first ready) e walks)
      (subst (λ k. (v : StopNo) → (best v).a2 < never → HasSecond n k z v (best v)) e seconds) (subst (λ k. IsRideClosed n k z h ready best) e rides)
      is_one (λ w is. at w is ∙ e) owns v piece candidate needed within)
