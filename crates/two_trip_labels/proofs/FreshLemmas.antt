-- Vectors pushed into a vector, seen as lists in a list.
use Rattle.std.proofs.Common.{◌≡◌, ℕ, ◌<◌, List, [], ◌∷◌, ◌++◌, length, map, Vec, Global, slice_index_or, ap, ◌∙◌, arith}
use Rattle.std.proofs.lemmas.List.{get_or_append_left, get_or_push, length-map, map-append}

module _ {X : Type 0} (vs : List (Vec X Global)) (v : Vec X Global) where
  pub pushed_old : (k : ℕ) → k < length vs → slice_index_or (map (λ (w : Vec X Global). w.items) (vs ++ v ∷ [])) k [] ≡ slice_index_or (map (λ (w : Vec X Global). w.items) vs) k []
  pushed_old k low =
      let f = λ (w : Vec X Global). w.items in
      ap (λ (ys : List (List X)). slice_index_or ys k []) (map-append f vs (v ∷ [])) ∙ get_or_append_left (map f vs) (v.items ∷ []) [] k (omega (arith, length-map vs f, low))

  pub pushed_last : (k : ℕ) → k ≡ length vs → slice_index_or (map (λ (w : Vec X Global). w.items) (vs ++ v ∷ [])) k [] ≡ v.items
  pushed_last k is =
      let f = λ (w : Vec X Global). w.items in
      ap (λ (ys : List (List X)). slice_index_or ys k []) (map-append f vs (v ∷ [])) ∙ get_or_push (map f vs) v.items [] k (omega (arith, length-map vs f, is))
