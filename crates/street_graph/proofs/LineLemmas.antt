-- Lists of lines that are read one after the other.
use Rattle.std.proofs.Common.{◌≡◌, ◌∙◌, ◌+◌, ◌<◌, ◌≤◌, ◌⊎◌, ℕ, List, [], ◌∷◌, ◌++◌, length, take, drop, get_or, Some, refl, sym, ap, inl, inr, arith}
use Rattle.std.specs.Prelude.{slice_get}
use Rattle.std.proofs.lemmas.Bool.{cases_lt}
use Rattle.std.proofs.lemmas.List.{drop_more, take_more, length-drop, length_push, get_or_push, get_or_append_left}
use Rattle.std.proofs.lemmas.Option.{slice_get-get_or, slice_get_within, get_or_from_slice_get}

-- what stands in a list stands in a longer one
pub slice_get-push : {X : Type 0} (xs : List X) (x y : X) (i : ℕ) → slice_get xs i ≡ Some y → slice_get (xs ++ x ∷ []) i ≡ Some y
slice_get-push xs x y i e =
    let lt : i < length xs = slice_get_within xs i y e in
    let more : i < length (xs ++ x ∷ []) = omega (arith, length_push xs x) in
    slice_get-get_or (xs ++ x ∷ []) i x more ∙ ap (λ z. Some z) (get_or_append_left xs (x ∷ []) x i lt ∙ get_or_from_slice_get xs i y x e)

pub slice_get_last : {X : Type 0} (xs : List X) (x : X) → slice_get (xs ++ x ∷ []) (length xs) ≡ Some x
slice_get_last xs x =
    let lt : length xs < length (xs ++ x ∷ []) = omega (arith, length_push xs x) in
    slice_get-get_or (xs ++ x ∷ []) (length xs) x lt ∙ ap (λ z. Some z) (get_or_push xs x x (length xs) refl)

-- what stands in a longer list stands in the shorter one, or is the last
pub slice_get_back : {X : Type 0} (xs : List X) (x y : X) (i : ℕ) → slice_get (xs ++ x ∷ []) i ≡ Some y
    → (slice_get xs i ≡ Some y) ⊎ (x ≡ y)
slice_get_back xs x y i e =
    let within : i < length (xs ++ x ∷ []) = slice_get_within (xs ++ x ∷ []) i y e in
    let value : get_or (xs ++ x ∷ []) i x ≡ y = get_or_from_slice_get (xs ++ x ∷ []) i y x e in
    elim (cases_lt i (length xs)) [
      | inl lt ↦ inl (slice_get-get_or xs i x lt ∙ ap (λ z. Some z) (sym (get_or_append_left xs (x ∷ []) x i lt) ∙ value))
      | inr ge ↦
          let at : length xs ≡ i = omega (arith, length_push xs x) in
          inr (sym (get_or_push xs x x i at) ∙ value)
    ]

-- the line behind the first lines
pub here : {X : Type 0} (xs more : List X) (x d : X) (i : ℕ) → i ≤ length xs → drop i xs ≡ x ∷ more
    → (i < length xs) × (get_or xs i d ≡ x) × (drop (i + 1) xs ≡ more) × (take (i + 1) xs ≡ take i xs ++ x ∷ [])
here xs more x d i le e =
    let lt : i < length xs = omega (arith, length-drop i xs, ap length e) in
    let split = sym (drop_more xs i d lt) ∙ e in
    let head : get_or xs i d ≡ x = cc in
    (lt, head, cc, take_more xs i d lt ∙ ap (λ y. take i xs ++ y ∷ []) head)

-- behind the last line
pub at_end : {X : Type 0} (xs : List X) (i : ℕ) → i ≤ length xs → drop i xs ≡ [] → i ≡ length xs
at_end xs i le none = omega (arith, length-drop i xs, ap length none)
