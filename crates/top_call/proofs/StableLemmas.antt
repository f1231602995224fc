-- A list has one stable sort by a key.
use Rattle.std.proofs.Common.{◌≡◌, ◌∙◌, ℕ, suc, ◌<◌, ◌≤◌, Bool, true, false, cond, List, [], ◌∷◌, length, filter, refl, sym, arith}
use Rattle.std.specs.Prelude.{slice_index_or}
use Rattle.std.specs.List.Sorted.{IsNonDecreasingBy, ties}
use Rattle.std.specs.Ordering.{nat_cmp, is_lt}
use Rattle.std.proofs.lemmas.Bool.Decides.{nat_tests}
use Rattle.trip_calls.specs.declared.kept.KeptCall.{KeptCall}
use Rattle.trip_calls.specs.Order.{IsTripOrder}

module _ {X : Type 0} (n : X → ℕ) where
  abbrev pub tie : X → X → Bool
  tie z x = ties (λ a b. is_lt (nat_cmp (n a) (n b))) z x

  tie-same : (z x : X) → n z ≡ n x → tie z x ≡ true
  tie-same z x e = grind (arith, nat_tests)

  same-tie : (z x : X) → tie z x ≡ true → n z ≡ n x
  same-tie z x e = grind (arith, nat_tests)

  -- all elements are at least the least
  abbrev AtLeast : ℕ → List X → Type 0
  AtLeast m l = (j : ℕ) (d : X) → j < length l → m ≤ n (slice_index_or l j d)

  abbrev Passes : (X → Bool) → ℕ → List X → Type 0
  Passes p m l = (w : X) (ws : List X) → filter p l ≡ w ∷ ws → (m ≤ n w) × (p w ≡ true)

  passes-of : (b : Bool) (p : X → Bool) (m : ℕ) (x : X) (l : List X) → p x ≡ b → m ≤ n x → Passes p m l
      → (w : X) (ws : List X) → cond b (x ∷ filter p l) (filter p l) ≡ w ∷ ws → (m ≤ n w) × (p w ≡ true)
  passes-of true p m x l is low more w ws e = let same : x ≡ w = cc e in rw (← same) (low, is)
  passes-of false p m x l is low more w ws e = more w ws e

  -- an element that passes a test is no less than the least
  least-passes : (p : X → Bool) (m : ℕ) (l : List X) → AtLeast m l → Passes p m l
  least-passes p m [] low = λ w ws e. cc e
  least-passes p m (x ∷ l) low = λ w ws e.
      passes-of (p x) p m x l refl (low 0 x (omega arith)) (least-passes p m l (λ j d lt. low (suc j) d (omega arith))) w ws e

  filter-here : (p : X → Bool) (x : X) (l : List X) → p x ≡ true → filter p (x ∷ l) ≡ x ∷ filter p l
  filter-here p x l e = rw e refl

  abbrev pub Agree : List X → List X → Type 0
  Agree xs ys = (z : X) → filter (tie z) xs ≡ filter (tie z) ys

  -- of two sorted lists with the same ties the first elements are equal in their key
  low-head : (x y : X) (xs ys : List X) → IsNonDecreasingBy n (y ∷ ys) → Agree (x ∷ xs) (y ∷ ys) → n y ≤ n x
  low-head x y xs ys up same =
      let here : filter (tie x) (y ∷ ys) ≡ x ∷ filter (tie x) xs = sym (same x) ∙ filter-here (tie x) x xs (tie-same x x refl) in
      (least-passes (tie x) (n y) (y ∷ ys) (λ j d lt. up 0 j d (omega arith) lt) x (filter (tie x) xs) here).0

  rest-of : (b : Bool) (x : X) (ls rs : List X) → cond b (x ∷ ls) ls ≡ cond b (x ∷ rs) rs → ls ≡ rs
  rest-of true x ls rs e = cc e
  rest-of false x ls rs e = e

  behind : (x : X) (xs ys : List X) → Agree (x ∷ xs) (x ∷ ys) → Agree xs ys
  behind x xs ys same = λ z. rest-of (tie z x) x (filter (tie z) xs) (filter (tie z) ys) (same z)

  -- sorted lists with the same ties are equal
  pub stable_unique : (xs ys : List X) → IsNonDecreasingBy n xs → IsNonDecreasingBy n ys → Agree xs ys → xs ≡ ys
  stable_unique [] [] up other same = refl
  stable_unique [] (y ∷ ys) up other same =
      let none : [] ≡ y ∷ filter (tie y) ys = same y ∙ filter-here (tie y) y ys (tie-same y y refl) in cc none
  stable_unique (x ∷ xs) [] up other same =
      let none : [] ≡ x ∷ filter (tie x) xs = sym (same x) ∙ filter-here (tie x) x xs (tie-same x x refl) in cc none
  stable_unique (x ∷ xs) (y ∷ ys) up other same =
      let key : n x ≡ n y = omega (arith, low-head x y xs ys other same, low-head y x ys xs up (λ z. sym (same z))) in
      let both : x ∷ filter (tie x) xs ≡ y ∷ filter (tie x) ys =
      sym (filter-here (tie x) x xs (tie-same x x refl)) ∙ same x ∙ filter-here (tie x) y ys (tie-same x y key) in
      let head : x ≡ y = cc both in
      let again : Agree (x ∷ xs) (x ∷ ys) = rw (← head) at same in
      let tail : xs ≡ ys = stable_unique xs ys (λ i j d le lt. up (suc i) (suc j) d (omega arith) (omega arith))
      (λ i j d le lt. other (suc i) (suc j) d (omega arith) (omega arith)) (behind x xs ys again) in
      rw (head, tail) refl

-- a trip's calls have one order
pub order_unique : (kept sorted other : List KeptCall) → IsTripOrder kept sorted → IsTripOrder kept other → sorted ≡ other
order_unique kept sorted other a b =
    stable_unique (λ (call : KeptCall). call.sequence) sorted other a.rising b.rising (λ z. a.in_turn z ∙ sym (b.in_turn z))
