-- What holds of each item of a list and each later one.
use Rattle.std.proofs.Common.{◌≡◌, ℕ, zero, suc, ◌+◌, ◌<◌, List, ◌∷◌, length, get_or, subst, inl, inr, arith}
use Rattle.std.specs.Prelude.{AllPairs, Contains}
use Rattle.std.specs.List.{AllAdjacentBelow}
use Rattle.std.proofs.lemmas.Bool.{cases_lt}

module _ {X : Type 0} (R : X → X → Type 0) where
  pub pairs_tail : (x : X) (xs : List X) → AllPairs R (x ∷ xs) → AllPairs R xs
  pairs_tail x xs pairs i j d lt within = pairs (suc i) (suc j) d (omega (arith, lt)) (omega (arith, within))

  pub pairs_head : (x : X) (xs : List X) → AllPairs R (x ∷ xs) → (y : X) → Contains xs y → R x y
  pairs_head x xs pairs y (k, lt, e) = subst (λ z. R x z) e (pairs 0 (suc k) y (omega arith) (omega (arith, lt)))

  pub adjacent_from_pairs : (xs : List X) → AllPairs R xs → AllAdjacentBelow R xs (length xs)
  adjacent_from_pairs xs pairs k d lt = pairs k (k + 1) d (omega arith) lt

  module _ (trans : (x y z : X) → R x y → R y z → R x z) where
    below : (xs : List X) (d : X) → AllAdjacentBelow R xs (length xs) → (j i : ℕ) → i < j → j < length xs → R (get_or xs i d) (get_or xs j d)
    below xs d adjacent zero i lt within = absurd (omega (arith, lt))
    below xs d adjacent (suc j) i lt within =
        let e : j + 1 ≡ suc j = omega arith in
        let next : R (get_or xs j d) (get_or xs (suc j) d) = subst (λ k. R (get_or xs j d) (get_or xs k d)) e (adjacent j d (omega (arith, within))) in
        elim (cases_lt i j) [
          | inl h ↦ trans (get_or xs i d) (get_or xs j d) (get_or xs (suc j) d) (below xs d adjacent j i h (omega (arith, within))) next
          | inr h ↦ let same : j ≡ i = omega (arith, h, lt) in subst (λ k. R (get_or xs k d) (get_or xs (suc j) d)) same next
        ]

    pub pairs_from_adjacent : (xs : List X) → AllAdjacentBelow R xs (length xs) → AllPairs R xs
    pairs_from_adjacent xs adjacent i j d lt within = below xs d adjacent j i lt within
