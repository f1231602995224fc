-- Lists one element on, and the items of a vertex.
use Rattle.std.proofs.Common.{◌≡◌, ◌∙◌, ◌+◌, ◌-◌, ◌<◌, ◌≤◌, ◌⊎◌, ℕ, List, [], ◌∷◌, ◌++◌, length, take, drop, get_or, map, sym, ap, subst, inl, inr, arith}
use Rattle.std.specs.Prelude.{All, Contains}
use Rattle.std.proofs.lemmas.Bool.{cases_lt}
use Rattle.std.proofs.lemmas.List.{take_more, get_or-take, get_or-drop, get_or-map, get_or_default, length-take-le, length-drop, length-map}
use Rattle.std.proofs.lemmas.List.Elements.{Contains-push, Contains-push_cases, Contains-append_left, Contains-get_or, All-contains, All-take, All-drop}
use Rattle.bucket_walks.specs.Starts.{IsFirst, AreStarts, row_at}

-- the first i + 1 elements, by the element that a loop reads
pub take_read : {X : Type 0} (xs : List X) (i : ℕ) (x : X) → i < length xs → x ≡ get_or xs i x → take (i + 1) xs ≡ take i xs ++ x ∷ []
take_read xs i x lt is = take_more xs i x lt ∙ ap (λ y. take i xs ++ y ∷ []) (sym is)

pub taken_cases : {X : Type 0} (xs : List X) (i : ℕ) (x y : X) → i < length xs → x ≡ get_or xs i x → Contains (take (i + 1) xs) y → Contains (take i xs) y ⊎ (x ≡ y)
taken_cases {X} xs i x y lt is has = Contains-push_cases (take i xs) x y (subst (λ (ys : List X). Contains ys y) (take_read xs i x lt is) has)

pub taken_before : {X : Type 0} (xs : List X) (i : ℕ) (x y : X) → i < length xs → x ≡ get_or xs i x → Contains (take i xs) y → Contains (take (i + 1) xs) y
taken_before {X} xs i x y lt is has = subst (λ (ys : List X). Contains ys y) (sym (take_read xs i x lt is)) (Contains-append_left (take i xs) (x ∷ []) y has)

pub taken_last : {X : Type 0} (xs : List X) (i : ℕ) (x : X) → i < length xs → x ≡ get_or xs i x → Contains (take (i + 1) xs) x
taken_last {X} xs i x lt is = subst (λ (ys : List X). Contains ys x) (sym (take_read xs i x lt is)) (Contains-push (take i xs) x)

pub none_taken : {X : Type 0} (xs : List X) (y : X) → Contains (take 0 xs) y → ⊥
none_taken xs y has = absurd (omega (arith, has.1, length-take-le 0 xs (omega arith)))

pub taken_from : {X : Type 0} (xs : List X) (i : ℕ) (y : X) → i ≤ length xs → Contains (take i xs) y → Contains xs y
taken_from xs i y le has =
    let low : has.0 < i = omega (arith, has.1, length-take-le i xs le) in
    (has.0, omega arith, sym (get_or-take i xs has.0 y low) ∙ has.2)

-- the items between two places
module _ {X : Type 0} (key : X → ℕ) (starts : List ℕ) (items : List X) (v : ℕ) (are : AreStarts starts (map key items)) (low : v + 1 < length starts) where
  here : IsFirst (map key items) v (get_or starts v 0)
  here = are.first v (omega arith)

  next : IsFirst (map key items) (v + 1) (get_or starts (v + 1) 0)
  next = are.first (v + 1) low

  key_at : (i : ℕ) (d : X) → i < length items → get_or (map key items) i 0 ≡ key (get_or items i d)
  key_at i d lt = get_or-map key items i d 0 lt

  pub row_rises : get_or starts v 0 ≤ get_or starts (v + 1) 0
  row_rises = elim (cases_lt (get_or starts (v + 1) 0) (get_or starts v 0)) [
    | inl lt ↦ absurd (omega (arith, here.before (get_or starts (v + 1) 0) lt, next.from (get_or starts (v + 1) 0) (omega arith) (omega (arith, here.within))))
    | inr le ↦ le
  ]

  pub row_within : get_or starts (v + 1) 0 ≤ length items
  row_within = omega (arith, next.within, length-map items key)

  pub row_has : (x : X) → Contains (row_at starts items v) x → Contains items x × (key x ≡ v)
  row_has x has =
      let a = get_or starts v 0 in
      let b = get_or starts (v + 1) 0 in
      let size : length (take (b - a) (drop a items)) ≡ b - a =
      length-take-le (b - a) (drop a items) (omega (arith, length-drop a items, row_rises, row_within)) in
      let low_k : has.0 < b - a = omega (arith, has.1, size) in
      let is : get_or items (a + has.0) x ≡ x = sym (get_or-drop a items has.0 x) ∙ sym (get_or-take (b - a) (drop a items) has.0 x low_k) ∙ has.2 in
      let within : a + has.0 < length items = omega (arith, low_k, row_within) in
      let seen : get_or (map key items) (a + has.0) 0 ≡ key x = key_at (a + has.0) x within ∙ ap key is in (
        (a + has.0, within, is),
        omega (arith, seen, here.from (a + has.0) (omega arith) (omega (arith, within, length-map items key)), next.before (a + has.0) (omega (arith, low_k, row_rises))),
      )

  pub row_all : (x : X) → Contains items x → key x ≡ v → Contains (row_at starts items v) x
  row_all x has at =
      let a = get_or starts v 0 in
      let b = get_or starts (v + 1) 0 in
      let k = has.0 in
      let seen : get_or (map key items) k 0 ≡ key x = key_at k x has.1 ∙ ap key has.2 in
      let from : a ≤ k = elim (cases_lt k a) [ inl lt ↦ absurd (omega (arith, here.before k lt, seen, at)) | inr le ↦ le ] in
      let to : k < b = elim (cases_lt k b) [ inl lt ↦ lt | inr le ↦ absurd (omega (arith, next.from k le (omega (arith, has.1, length-map items key)), seen, at)) ] in
      let low_k : k - a < b - a = omega arith in
      let size : length (take (b - a) (drop a items)) ≡ b - a =
      length-take-le (b - a) (drop a items) (omega (arith, length-drop a items, row_rises, row_within)) in
      let back : a + (k - a) ≡ k = omega arith in (
        k - a,
        omega (arith, size),
        get_or-take (b - a) (drop a items) (k - a) x low_k ∙ get_or-drop a items (k - a) x ∙ ap (λ (i : ℕ). get_or items i x) back ∙ has.2,
      )

-- what holds of each element holds of the one that a loop reads
pub all_read : {X : Type 0} (P : X → Type 0) (xs : List X) (i : ℕ) (x : X) → i < length xs → x ≡ get_or xs i x → All P xs → P x
all_read P xs i x lt is all = subst P (sym is) (all i x lt)

-- what holds of each element holds of each element of a part
pub all_part : {X : Type 0} (P : X → Type 0) (xs ys : List X) → ((x : X) → Contains ys x → Contains xs x) → All P xs → All P ys
all_part P xs ys part all = λ k d lt. All-contains P xs (get_or ys k d) all (part (get_or ys k d) (Contains-get_or ys k d lt))

-- an element of a list, at its own default
pub read_is : {X : Type 0} (xs : List X) (i : ℕ) (d : X) → i < length xs → get_or xs i d ≡ get_or xs i (get_or xs i d)
read_is xs i d lt = get_or_default xs i d (get_or xs i d) lt

-- what holds of each item holds of each of a vertex
pub row_part : {X : Type 0} (P : X → Type 0) (starts : List ℕ) (items : List X) (v : ℕ) → All P items → All P (row_at starts items v)
row_part P starts items v all = All-take P (get_or starts (v + 1) 0 - get_or starts v 0) (drop (get_or starts v 0) items) (All-drop P (get_or starts v 0) items all)
