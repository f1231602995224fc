-- Marks of routes: one is set, and the others stay.
use Rattle.std.proofs.Common.{◌≡◌, ◌≢◌, ℕ, zero, suc, ◌<◌, List, [], ◌∷◌, refl, ap, ◌∙◌, arith, Some}
use Rattle.std.proofs.lemmas.List.{get_or-replicate, length-replicate}
use Rattle.std.proofs.lemmas.Option.{slice_get-get_or}
use Rattle.std.specs.Prelude.{false, replicate, set, slice_get}

pub set_other : {X : Type 0} (xs : List X) (i k : ℕ) (v : X) → k ≢ i → slice_get (set xs i v) k ≡ slice_get xs k
set_other [] i k v ne = refl
set_other (x ∷ xs) zero zero v ne = absurd (ne refl)
set_other (x ∷ xs) zero (suc k) v ne = refl
set_other (x ∷ xs) (suc i) zero v ne = refl
set_other (x ∷ xs) (suc i) (suc k) v ne = set_other xs i k v (λ e. ne (ap suc e))

pub none_marked : (n r : ℕ) → r < n → slice_get (replicate n false) r ≡ Some false
none_marked n r lt =
    slice_get-get_or (replicate n false) r false (omega (arith, length-replicate n false, lt)) ∙ ap Some (get_or-replicate n r false false lt)
