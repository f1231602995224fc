-- Least labels make least labels.
use Rattle.std.proofs.Common.{◌≡◌, ℕ, ◌+◌, ◌<◌, ◌≤◌, ◌⊎◌, List, [], ◌∷◌, refl, sym, subst, inl, inr, arith}
use Rattle.std.proofs.lemmas.Bool.{cases_lt}
use Rattle.move_model.specs.declared.network.Network.{Network}
use Rattle.move_model.specs.declared.network.NodeNo.{NodeNo}
use Rattle.move_model.specs.declared.network.StopNo.{StopNo}
use Rattle.move_model.specs.Network.{IsNetwork, streets, IsStopDistance}
use Rattle.move_model.specs.Shortcut.{IsLess, entry_of}
use Rattle.piece_laws.specs.declared.labels.Ready.{Ready}
use Rattle.piece_laws.specs.declared.labels.Second.{Second}
use Rattle.piece_laws.specs.Pieces.{ready_entries, HasReady, second_entries, HasSecond, IsCovered, IsOnFoot}
use Rattle.piece_laws.specs.Tables.{never, FirstStands, ReadyStands, SecondStands, IsWalkClosed, IsRideClosed}
use Rattle.pareto_laws.proofs.Walks.{IsWalk-append}
use Rattle.pareto_laws.proofs.Distances.{distance_within}
use Rattle.pareto_laws.proofs.Lexicographic.{IsLess-trans}
use Rattle.piece_laws.proofs.Rides.{ride_later}
use Rattle.piece_laws.proofs.Entries.{same_list, less_or_not, ready_eq}
use Rattle.piece_laws.proofs.Covered.{covered_by_foot}

-- a label that isn't greater, a ride on
less_on : (a t y : ℕ) (l m : Ready) (k : List ℕ) → ¬ (IsLess (ready_entries m) (ready_entries l))
    → IsLess (a ∷ t ∷ m.ready ∷ y ∷ m.a1 ∷ m.c ∷ []) k → IsLess (a ∷ t ∷ l.ready ∷ y ∷ l.a1 ∷ l.c ∷ []) k
less_on a t y l m k none less =
    elim (less_or_not (ready_entries l) (ready_entries m)) [
      | inl h ↦ IsLess-trans (a ∷ t ∷ l.ready ∷ y ∷ l.a1 ∷ l.c ∷ []) (a ∷ t ∷ m.ready ∷ y ∷ m.a1 ∷ m.c ∷ []) k (inr (refl, inr (refl, insert l m h))) less
      | inr h ↦
          let e : l ≡ m = ready_eq l m (same_list (ready_entries l) (ready_entries m) refl h none) in
          subst (λ (q : Ready). IsLess (a ∷ t ∷ q.ready ∷ y ∷ q.a1 ∷ q.c ∷ []) k) (sym e) less
    ]
  where
    insert : (l m : Ready) → IsLess (ready_entries l) (ready_entries m) → IsLess (l.ready ∷ y ∷ l.a1 ∷ l.c ∷ []) (m.ready ∷ y ∷ m.a1 ∷ m.c ∷ [])
    insert l m (inl h) = inl h
    insert l m (inr h) = inr (h.0, inr (refl, h.1))

-- no label that is less is ready later
pub ready_first : (l m : Ready) → ¬ (IsLess (ready_entries m) (ready_entries l)) → l.ready ≤ m.ready
ready_first l m none = elim (cases_lt m.ready l.ready) [ inl h ↦ absurd (none (inl h)) | inr h ↦ h ]

module _ (n : Network) (ok : IsNetwork n) (q : NodeNo) (z h : ℕ) where
  -- on foot, and on
  foot_on : (x y : StopNo) (a w : ℕ) → IsOnFoot n q z x a → IsStopDistance n x y w → IsOnFoot n q z y (a + w)
  foot_on x y a w f d =
      let walk = IsWalk-append f.foot.attained.1 d.attained.1 in
      let e = distance_within (streets n) ok.streets_join walk.1 in
      record { seconds = e.0; foot = e.1; no_later = omega (arith, e.2, f.no_later) }

  -- a first ride that is in the labels, a walk on
  pub ready_one : (first : StopNo → ℕ) (ready : StopNo → Ready) → IsWalkClosed n q z h first ready
      → (y : StopNo) (m : Ready) (r : HasReady n q z y m) → m.ready < h → IsOnFoot n q z r.from m.a1 ⊎ (first r.from ≤ m.a1)
      → IsOnFoot n q z y m.ready ⊎ ¬ (IsLess (ready_entries m) (ready_entries (ready y)))
  ready_one first ready closed y m r within (inl f) =
      inl (let g = foot_on r.from y m.a1 r.walk f r.between in record { seconds = g.seconds; foot = g.foot; no_later = omega (arith, g.no_later, r.ready_is) })
  ready_one first ready closed y m r within (inr b) =
      elim (closed r.from y r.walk r.between (omega (arith, b, r.ready_is))) [
        | inl f ↦ inl (record { seconds = f.seconds; foot = f.foot; no_later = omega (arith, f.no_later, r.ready_is, b) })
        | inr l ↦ inr (earlier m (first r.from) r.walk (entry_of r.from y) (ready_entries (ready y)) r.ready_is r.c_is b l)
      ]
    where
      earlier : (m : Ready) (b w c : ℕ) (k : List ℕ) → m.ready ≡ m.a1 + w → m.c ≡ c → b ≤ m.a1 → ¬ (IsLess ((b + w) ∷ b ∷ c ∷ []) k) → ¬ (IsLess (ready_entries m) k)
      earlier m b w c k e f le none less =
          elim (cases_lt b m.a1) [
            | inl l ↦ none (IsLess-trans ((b + w) ∷ b ∷ c ∷ []) (ready_entries m) k (inl (omega arith)) less)
            | inr l ↦ none (same (omega arith) (omega arith) f less)
          ]
        where
          same : {a a' b b' c c' : ℕ} → a ≡ a' → b ≡ b' → c ≡ c' → IsLess (a ∷ b ∷ c ∷ []) k → IsLess (a' ∷ b' ∷ c' ∷ []) k
          same p q r less = subst (λ (l : List ℕ). IsLess l k) (λ i. p i ∷ q i ∷ r i ∷ []) less

  -- ready labels closed under walks stand for all
  pub ready_stands : (first : StopNo → ℕ) (ready : StopNo → Ready) → FirstStands n q z h first
      → ((y : StopNo) → (ready y).ready < never → HasReady n q z y (ready y))
      → IsWalkClosed n q z h first ready → ReadyStands n q z h ready
  ready_stands first ready firsts real closed =
      record {
        real = real;
        enough = λ y m r within. ready_one first ready closed y m r within (firsts.enough r.from m.a1 r.first (omega (arith, r.ready_is)));
      }

  -- a label that is in those at stops, a ride on
  pub second_one : (ready : StopNo → Ready) (best : StopNo → Second) → IsRideClosed n q z h ready best
      → (v : StopNo) (m : Second) (s : HasSecond n q z v m) → m.a2 < h
      → IsOnFoot n q z s.on.stop m.label.ready ⊎ ¬ (IsLess (ready_entries m.label) (ready_entries (ready s.on.stop)))
      → IsCovered n q z v m.a2 ⊎ ¬ (IsLess (second_entries m) (second_entries (best v)))
  second_one ready best closed v m s within known =
      elim known [
        | inl f ↦ inl (at_v v m s (covered_by_foot n q z s.on.stop s.ride s.on s.off f s.is_ride refl s.in_time ok))
        | inr l ↦ elim (closed s.ride s.on s.off s.is_ride (omega (arith, s.in_time, ready_first (ready s.on.stop) m.label l)) (omega (arith, s.a2_is))) [
          | inl c ↦ inl (at_v v m s c)
          | inr b ↦ inr (subst (λ (w : StopNo). ¬ (IsLess (second_entries m) (second_entries (best w)))) s.left_at
              (λ less. b (less_on s.off.arr s.ride.trip.0 s.on.stop.0 (ready s.on.stop) m.label (second_entries (best s.off.stop)) l
              (entries_are m.label (second_entries (best s.off.stop)) s.a2_is s.trip_is s.y_is less))))
        ]
      ]
    where
      at_v : (v : StopNo) (m : Second) (s : HasSecond n q z v m) → IsCovered n q z s.off.stop s.off.arr → IsCovered n q z v m.a2
      at_v v m s c = subst (λ (w : StopNo). IsCovered n q z w m.a2) s.left_at (subst (λ (a : ℕ). IsCovered n q z s.off.stop a) (sym s.a2_is) c)

      entries_are : {a a' t t' y y' : ℕ} (l : Ready) (k : List ℕ) → a ≡ a' → t ≡ t' → y ≡ y' → IsLess (a ∷ t ∷ l.ready ∷ y ∷ l.a1 ∷ l.c ∷ []) k → IsLess (a' ∷ t' ∷ l.ready ∷ y' ∷ l.a1 ∷ l.c ∷ []) k
      entries_are l k p q s less = subst (λ (e : List ℕ). IsLess e k) (λ i. p i ∷ q i ∷ l.ready ∷ s i ∷ l.a1 ∷ l.c ∷ []) less

  -- second labels closed under rides stand for all
  pub second_stands : (ready : StopNo → Ready) (best : StopNo → Second) → ReadyStands n q z h ready
      → ((v : StopNo) → (best v).a2 < never → HasSecond n q z v (best v))
      → IsRideClosed n q z h ready best → SecondStands n q z h best
  second_stands ready best readies real closed =
      record {
        real = real;
        enough = λ v m s within.
            let later : s.on.dep ≤ s.off.arr = ride_later n ok s.ride s.on s.off s.is_ride in
            second_one ready best closed v m s within (readies.enough s.on.stop m.label s.boards (omega (arith, s.in_time, later, s.a2_is)));
      }
