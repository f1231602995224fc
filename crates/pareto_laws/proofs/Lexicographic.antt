-- The lexicographic order of lists of numbers: induction over lists of one length, and what the marks of a journey
-- inherit from the keys of its pieces.
use Rattle.std.proofs.Common.{◌≡◌, ℕ, zero, suc, ◌+◌, ◌<◌, ◌≤◌, List, [], ◌∷◌, ◌++◌, length, refl, sym, ◌∙◌, subst, inl, inr, arith}
use Rattle.std.proofs.lemmas.Bool.{cases_lt}
use Rattle.move_model.specs.Shortcut.{IsLess}

-- what follows from itself at all smaller numbers
below : (P : ℕ → Type 0) → ((k : ℕ) → ((j : ℕ) → j < k → P j) → P k) → (bound k : ℕ) → k < bound → P k
below P step zero k h = absurd (omega arith)
below P step (suc bound) k h = step k (λ j l. below P step bound j (omega arith))

pub strong_induction : (P : ℕ → Type 0) → ((k : ℕ) → ((j : ℕ) → j < k → P j) → P k) → (k : ℕ) → P k
strong_induction P step k = below P step (suc k) k (omega arith)

none_less : (xs ys : List ℕ) → length xs ≡ zero → IsLess ys xs → ⊥
none_less [] [] e h = h
none_less [] (y ∷ ys) e h = h
none_less (x ∷ xs) ys e h = absurd (omega arith)

-- the two ways to be less than a list with a first number
less_cons : (k : ℕ) (P : List ℕ → Type 0) (x : ℕ) (xs : List ℕ)
    → ((y : ℕ) → y < x → (ys : List ℕ) → length ys ≡ k → P (y ∷ ys))
    → ((ys : List ℕ) → length ys ≡ k → IsLess ys xs → P (x ∷ ys))
    → (ys : List ℕ) → length ys ≡ suc k → IsLess ys (x ∷ xs) → P ys
less_cons k P x xs smaller rest [] e h = absurd h
less_cons k P x xs smaller rest (y ∷ ys) e (inl l) = smaller y l ys (omega arith)
less_cons k P x xs smaller rest (y ∷ ys) e (inr h) = subst (λ v. P (v ∷ ys)) (sym h.0) (rest ys (omega arith) h.1)

pub lex_induction : (k : ℕ) (P : List ℕ → Type 0)
    → ((xs : List ℕ) → length xs ≡ k → ((ys : List ℕ) → length ys ≡ k → IsLess ys xs → P ys) → P xs)
    → (xs : List ℕ) → length xs ≡ k → P xs
lex_induction zero P step xs e = step xs e (λ ys f h. absurd (none_less xs ys e h))
lex_induction (suc k) P step [] e = absurd (omega arith)
lex_induction (suc k) P step (x ∷ xs) e =
    strong_induction (λ v. (us : List ℕ) → length us ≡ k → P (v ∷ us))
    (λ v smaller.
    lex_induction k (λ us. P (v ∷ us))
    (λ us l rest. step (v ∷ us) (omega arith) (less_cons k P v us smaller rest)))
    x xs (omega arith)

-- what follows does not matter
pub IsLess-append : (xs ys us vs : List ℕ) → IsLess xs ys → IsLess (xs ++ us) (ys ++ vs)
IsLess-append [] ys us vs h = absurd h
IsLess-append (x ∷ xs) [] us vs h = absurd h
IsLess-append (x ∷ xs) (y ∷ ys) us vs (inl l) = inl l
IsLess-append (x ∷ xs) (y ∷ ys) us vs (inr h) = inr (h.0, IsLess-append xs ys us vs h.1)

-- one more number in second place
pub IsLess-insert : (x y k : ℕ) (xs ys : List ℕ) → IsLess (x ∷ xs) (y ∷ ys) → IsLess (x ∷ k ∷ xs) (y ∷ k ∷ ys)
IsLess-insert x y k xs ys (inl l) = inl l
IsLess-insert x y k xs ys (inr h) = inr (h.0, inr (refl, h.1))

falls_or_ties : (r r' : ℕ) (xs ys : List ℕ) → r' ≤ r → IsLess xs ys → IsLess (r' ∷ xs) (r ∷ ys)
falls_or_ties r r' xs ys h less = elim (cases_lt r' r) [ inl l ↦ inl l | inr l ↦ inr (omega arith, less) ]

-- The order of a journey's marks against the order of keys: `key` is a piece's arrival at the end of the other's
-- second ride, `w` the walk on from there, and `r` and `r'` the seconds at which the two are at the end of that walk.
pub exchange_falls : (key a a' e c c' w r r' : ℕ) (tail tail' more more' : List ℕ)
    → r ≡ a + w → r' ≤ key + w → (e ≡ 0 → c' ≡ c) → IsLess (key ∷ a' ∷ e ∷ tail') (a ∷ a ∷ 0 ∷ tail)
    → (r' ≤ r) × IsLess (r' ∷ a' ∷ c' ∷ (tail' ++ more')) (r ∷ a ∷ c ∷ (tail ++ more))
exchange_falls key a a' e c c' w r r' tail tail' more more' is at same (inl l) = (omega arith, inl (omega arith))
exchange_falls key a a' e c c' w r r' tail tail' more more' is at same (inr (k, inl l)) =
    let h : r' ≤ r = omega arith in
    (h, falls_or_ties r r' (a' ∷ c' ∷ (tail' ++ more')) (a ∷ c ∷ (tail ++ more)) h (inl l))
exchange_falls key a a' e c c' w r r' tail tail' more more' is at same (inr (k, inr (k2, inl l))) = absurd (omega arith)
exchange_falls key a a' e c c' w r r' tail tail' more more' is at same (inr (k, inr (k2, inr (k3, less)))) =
    let h : r' ≤ r = omega arith in (
      h,
      falls_or_ties r r' (a' ∷ c' ∷ (tail' ++ more')) (a ∷ c ∷ (tail ++ more)) h
          (inr (k2, inr (same k3, IsLess-append tail' tail more' more less))),
    )

-- a strict order

pub IsLess-irreflexive : (xs : List ℕ) → IsLess xs xs → ⊥
IsLess-irreflexive [] h = h
IsLess-irreflexive (x ∷ xs) (inl l) = absurd (omega arith)
IsLess-irreflexive (x ∷ xs) (inr h) = IsLess-irreflexive xs h.1

pub IsLess-trans : (xs ys zs : List ℕ) → IsLess xs ys → IsLess ys zs → IsLess xs zs
IsLess-trans [] ys zs h g = absurd h
IsLess-trans (x ∷ xs) [] zs h g = absurd h
IsLess-trans (x ∷ xs) (y ∷ ys) [] h g = absurd g
IsLess-trans (x ∷ xs) (y ∷ ys) (z ∷ zs) (inl l) (inl m) = inl (omega arith)
IsLess-trans (x ∷ xs) (y ∷ ys) (z ∷ zs) (inl l) (inr g) = inl (omega (arith, g.0))
IsLess-trans (x ∷ xs) (y ∷ ys) (z ∷ zs) (inr h) (inl m) = inl (omega (arith, h.0))
IsLess-trans (x ∷ xs) (y ∷ ys) (z ∷ zs) (inr h) (inr g) = inr (h.0 ∙ g.0, IsLess-trans xs ys zs h.1 g.1)
