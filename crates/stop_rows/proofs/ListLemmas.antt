-- Lists that grow, and lists that rise.
use Rattle.std.proofs.Common.{◌≡◌, ℕ, zero, suc, ◌+◌, ◌-◌, ◌<◌, ◌⊎◌, List, [], ◌∷◌, ◌++◌, Some, length, slice_index_or, slice_get, map, refl, sym, ap, ◌∙◌, subst, inl, inr, arith}
use Rattle.std.specs.Prelude.{All}
use Rattle.std.specs.List.{AllAdjacentBelow}
use Rattle.std.proofs.lemmas.Bool.{cases_eq, cases_lt}
use Rattle.std.proofs.lemmas.List.{get_or_append_left, get_or_push, length_push, length-map, map-append}

pub get_append : {X : Type 0} (xs ys : List X) (i : ℕ) (x : X) → slice_get xs i ≡ Some x → slice_get (xs ++ ys) i ≡ Some x
get_append [] ys i x is = absurd (cc)
get_append (y ∷ xs) ys zero x is = is
get_append (y ∷ xs) ys (suc i) x is = get_append xs ys i x is

pub get_push : {X : Type 0} (xs : List X) (y : X) → slice_get (xs ++ y ∷ []) (length xs) ≡ Some y
get_push [] y = refl
get_push (x ∷ xs) y = get_push xs y

pub get_push_cases : {X : Type 0} (xs : List X) (y : X) (i : ℕ) (x : X) → slice_get (xs ++ y ∷ []) i ≡ Some x → (slice_get xs i ≡ Some x) ⊎ (x ≡ y)
get_push_cases [] y zero x is = inr (cc)
get_push_cases [] y (suc i) x is = absurd (cc)
get_push_cases (z ∷ xs) y zero x is = inl is
get_push_cases (z ∷ xs) y (suc i) x is = get_push_cases xs y i x is

module _ {X : Type 0} (n : X → ℕ) where
  -- one more item that is greater than all others
  pub rising_push : (xs : List X) (y : X) → AllAdjacentBelow (λ a b. n a < n b) xs (length xs) → ((k : ℕ) (d : X) → k < length xs → n (slice_index_or xs k d) < n y)
      → AllAdjacentBelow (λ a b. n a < n b) (xs ++ y ∷ []) (length (xs ++ y ∷ []))
  rising_push xs y rising low k d lt =
      let long : length (xs ++ y ∷ []) ≡ length xs + 1 = length_push xs y in
      let inside : k < length xs = omega (arith, lt, long) in
      let same : slice_index_or (xs ++ y ∷ []) k d ≡ slice_index_or xs k d = get_or_append_left xs (y ∷ []) d k inside in
      elim (cases_eq (k + 1) (length xs)) [
        | inl last ↦
            let next : slice_index_or (xs ++ y ∷ []) (k + 1) d ≡ y = get_or_push xs y d (k + 1) (sym last) in
            rw (same, next) (low k d inside)
        | inr ne ↦
            let next : slice_index_or (xs ++ y ∷ []) (k + 1) d ≡ slice_index_or xs (k + 1) d = get_or_append_left xs (y ∷ []) d (k + 1) (omega (arith, lt, long, ne)) in
            rw (same, next) (rising k d (omega (arith, lt, long, ne)))
      ]

  far : (xs : List X) (d : X) → AllAdjacentBelow (λ a b. n a < n b) xs (length xs) → (i k : ℕ) → i + suc k < length xs → n (slice_index_or xs i d) < n (slice_index_or xs (i + suc k) d)
  far xs d rising i zero lt =
      let e : i + 1 ≡ i + suc 0 = omega arith in
      subst (λ (j : ℕ). n (slice_index_or xs i d) < n (slice_index_or xs j d)) e (rising i d (omega arith))
  far xs d rising i (suc k) lt =
      let before = far xs d rising i k (omega arith) in
      let step = rising (i + suc k) d (omega arith) in
      let e : i + suc k + 1 ≡ i + suc (suc k) = omega arith in
      let after : n (slice_index_or xs (i + suc k) d) < n (slice_index_or xs (i + suc (suc k)) d) =
      subst (λ (j : ℕ). n (slice_index_or xs (i + suc k) d) < n (slice_index_or xs j d)) e step in
      omega (arith, before, after)

  -- each item is less than all that follow
  pub rising_far : (xs : List X) (d : X) → AllAdjacentBelow (λ a b. n a < n b) xs (length xs) → (i j : ℕ) → i < j → j < length xs → n (slice_index_or xs i d) < n (slice_index_or xs j d)
  rising_far xs d rising i zero lt low = absurd (omega arith)
  rising_far xs d rising i (suc j) lt low =
      let k : ℕ = j - i in
      let e : i + suc k ≡ suc j = omega arith in
      subst (λ (m : ℕ). n (slice_index_or xs i d) < n (slice_index_or xs m d)) e (far xs d rising i k (omega arith))

  -- so no two places have items that are equal
  pub rising_place : (xs : List X) (d : X) → AllAdjacentBelow (λ a b. n a < n b) xs (length xs) → (i j : ℕ) → i < length xs → j < length xs
      → n (slice_index_or xs i d) ≡ n (slice_index_or xs j d) → i ≡ j
  rising_place xs d rising i j low high same = elim (cases_eq i j) [
    | inl e ↦ e
    | inr ne ↦ elim (cases_lt i j) [
      | inl lt ↦ absurd (omega (arith, rising_far xs d rising i j lt high, same))
      | inr ge ↦ absurd (omega (arith, rising_far xs d rising j i (omega (arith, ge, ne)) low, same))
    ]
  ]

module _ {X Y : Type 0} (f : X → Y) (xs : List X) (x : X) (d : Y) where
  -- what a function gives of a list that grows
  pub map_push_old : (k : ℕ) → k < length xs → slice_index_or (map f (xs ++ x ∷ [])) k d ≡ slice_index_or (map f xs) k d
  map_push_old k low =
      ap (λ (ys : List Y). slice_index_or ys k d) (map-append f xs (x ∷ [])) ∙ get_or_append_left (map f xs) (f x ∷ []) d k (omega (arith, length-map xs f, low))

  pub map_push_last : (k : ℕ) → k ≡ length xs → slice_index_or (map f (xs ++ x ∷ [])) k d ≡ f x
  map_push_last k is =
      ap (λ (ys : List Y). slice_index_or ys k d) (map-append f xs (x ∷ [])) ∙ get_or_push (map f xs) (f x) d k (omega (arith, length-map xs f, is))

-- what holds of what a function gives of each item
pub map_each : {X Y : Type 0} (f : X → Y) (P : Y → Type 0) (xs : List X) (e : Y) → All (λ x. P (f x)) xs → (p : ℕ) → p < length xs → P (slice_index_or (map f xs) p e)
map_each f P [] e all p low = absurd (omega arith)
map_each f P (x ∷ xs) e all zero low = all 0 x low
map_each f P (x ∷ xs) e all (suc p) low = map_each f P xs e (λ k d lt. all (suc k) d (omega arith)) p (omega arith)
