-- The field at a place, which is empty past a record's end.
use Rattle.std.proofs.Common.{◌≡◌, ℕ, zero, suc, List, [], ◌∷◌, get_or, None, refl}
use Rattle.csv.specs.Records.{field_at}

pub no_field : (fields : List (List ℕ)) (i : ℕ) → field_at fields i ≡ None → get_or fields i [] ≡ []
unfolding field_at
no_field [] i e = refl
no_field (f ∷ fs) zero e = cc e
no_field (f ∷ fs) (suc i) e = no_field fs i e
