-- On a row that never falls the number of lesser entries is the first place that is not less.
use Rattle.std.proofs.Common.{◌≡◌, ℕ, zero, suc, ◌+◌, ◌<◌, ◌≤◌, Bool, true, false, cond, nat_lt, List, [], ◌∷◌, length, get_or, refl, sym, ap, ◌∙◌, subst, arith, ltb-true, ltb-false, le-ltb, one-add, zero-add}
use Rattle.std.proofs.lemmas.List.Sums.{sum_by-cons}
use Rattle.lane_rows.specs.Rows.{count_below, NeverFalls, IsFirstFrom}

NeverFalls-tail : (x : ℕ) (row : List ℕ) → NeverFalls (x ∷ row) → NeverFalls row
NeverFalls-tail x row sorted i k le low = sorted (suc i) (suc k) (omega arith) (omega arith)

more : (x r : ℕ) (row : List ℕ) → nat_lt x r ≡ true → count_below (x ∷ row) r ≡ suc (count_below row r)
more x r row less = sum_by-cons (λ y. cond (nat_lt y r) 1 0) x row ∙ ap (λ b. cond b 1 0 + count_below row r) less ∙ one-add (count_below row r)

no_more : (x r : ℕ) (row : List ℕ) → nat_lt x r ≡ false → count_below (x ∷ row) r ≡ count_below row r
no_more x r row over = sum_by-cons (λ y. cond (nat_lt y r) 1 0) x row ∙ ap (λ b. cond b 1 0 + count_below row r) over ∙ zero-add (count_below row r)

-- no entry counts where none is less
none_below : (row : List ℕ) (r : ℕ) → ((k : ℕ) → k < length row → r ≤ get_or row k 0) → count_below row r ≡ 0
none_below [] r over = refl
none_below (x ∷ row) r over =
    no_more x r row (le-ltb x r (over 0 (omega arith))) ∙ none_below row r (λ k low. over (suc k) (omega arith))

-- one entry before a row
first_from : (x : ℕ) (row : List ℕ) (r : ℕ) → NeverFalls (x ∷ row) → IsFirstFrom row r (count_below row r) → (b : Bool) → nat_lt x r ≡ b → IsFirstFrom (x ∷ row) r (count_below (x ∷ row) r)
first_from x row r sorted rest true less =
    let within = rest.within in
    subst (IsFirstFrom (x ∷ row) r) (sym (more x r row less)) (record {
      before = before_more;
      there = λ low. rest.there (omega arith);
      within = omega arith;
    })
  where
    before_more : (k : ℕ) → k < suc (count_below row r) → get_or (x ∷ row) k 0 < r
    before_more zero low = ltb-true x r less
    before_more (suc k) low = rest.before k (omega arith)
first_from x row r sorted rest false over =
    let least : r ≤ x = ltb-false x r over in
    let none = none_below row r (λ k low. let up = sorted 0 (suc k) (omega arith) (omega arith) in omega arith) in
    subst (IsFirstFrom (x ∷ row) r) (sym (no_more x r row over ∙ none)) (record {
      before = λ k low. absurd (omega arith);
      there = λ low. least;
      within = omega arith;
    })

pub IsFirstFrom-count : (row : List ℕ) (r : ℕ) → NeverFalls row → IsFirstFrom row r (count_below row r)
IsFirstFrom-count [] r sorted = record { before = λ k low. absurd (omega arith); there = λ low. absurd (omega arith); within = omega arith }
IsFirstFrom-count (x ∷ row) r sorted = first_from x row r sorted (IsFirstFrom-count row r (NeverFalls-tail x row sorted)) (nat_lt x r) refl
