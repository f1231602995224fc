-- Entries of a list.
use Rattle.std.proofs.Common.{◌≡◌, ◌∙◌, ◌||◌, ℕ, zero, suc, ◌<◌, List, [], ◌∷◌, length, take, Bool, true, false, Some, refl, sym, ap, arith}
use Rattle.std.specs.Prelude.{slice_get, slice_index_or, unwrap_or}
use Rattle.std.specs.List.{list_any}
use Rattle.std.proofs.lemmas.Option.{unwrap_or-slice_get}

pub slice_at : {X : Type 0} (xs : List X) (i : ℕ) → i < length xs → (x : X) × (slice_get xs i ≡ Some x)
slice_at [] i lt = absurd (omega arith)
slice_at (x ∷ xs) zero lt = (x, refl)
slice_at (x ∷ xs) (suc i) lt = slice_at xs i (omega arith)

rest : (b : Bool) {c : Bool} → c ≡ true → (b || c) ≡ true
rest true e = refl
rest false e = e

-- equal entries, read by an index
pub same_index : {X : Type 0} (xs ys : List X) (k : ℕ) (d : X) → slice_get xs k ≡ slice_get ys k → slice_index_or xs k d ≡ slice_index_or ys k d
same_index xs ys k d e = sym (unwrap_or-slice_get xs k d) ∙ ap (λ o. unwrap_or o d) e ∙ unwrap_or-slice_get ys k d

-- an element of a list that passes a test
pub any_before : {X : Type 0} (p : X → Bool) (xs : List X) (m i : ℕ) (x : X) → i < m → slice_get xs i ≡ Some x → p x ≡ true → list_any p (take m xs) ≡ true
any_before p xs zero i x lt at passes = absurd (omega arith)
any_before p [] (suc m) i x lt at passes = cc at
any_before p (y ∷ xs) (suc m) zero x lt at passes = let same : y ≡ x = cc at in rw (same, passes) refl
any_before p (y ∷ xs) (suc m) (suc i) x lt at passes = rest (p y) (any_before p xs m i x (omega arith) at passes)
