-- The order of labels.
use Rattle.std.proofs.Common.{◌≡◌, ℕ, zero, suc, ◌+◌, ◌<◌, ◌≤◌, true, false, List, [], ◌∷◌, length, refl, sym, ap, ap₂, subst, inl, inr, is_lt, nat_cmp, arith}
use Rattle.std.specs.declared.cmp.Ordering.{Ordering}
use Rattle.std.specs.declared.cmp.Ordering.TheVariants.{Less, Equal, Greater}
use Rattle.std.specs.Ordering.{ordering_then, MatchOrdering}
use Rattle.std.proofs.lemmas.Cmp.{ranked}
use Rattle.move_model.specs.Shortcut.{IsLess}
use Rattle.pareto_laws.proofs.Lexicographic.{IsLess-trans, IsLess-irreflexive}
use Rattle.core_search.specs.declared.label.Label.{Label}
use Rattle.core_search.specs.Label.{rest_entries, entries, IsUpto, after}

-- what an answer of `cmp` says of two lists of entries
abbrev pub Told : Ordering → List ℕ → List ℕ → Type 0
Told o xs ys = MatchOrdering o (IsLess xs ys) (xs ≡ ys) (IsLess ys xs)

first_told : (x y : ℕ) (xs ys : List ℕ) (r o : Ordering) → MatchOrdering r (x < y) (x ≡ y) (y < x) → Told o xs ys → Told (ordering_then r o) (x ∷ xs) (y ∷ ys)
first_told x y xs ys Less o lt told = inl lt
first_told x y xs ys Greater o gt told = inl gt
first_told x y xs ys Equal Less same told = inr (same, told)
first_told x y xs ys Equal Equal same told = ap₂ (λ (a : ℕ) (as' : List ℕ). a ∷ as') same told
first_told x y xs ys Equal Greater same told = inr (sym same, told)

told_more : (x y : ℕ) (xs ys : List ℕ) (o : Ordering) → Told o xs ys → Told (ordering_then (nat_cmp x y) o) (x ∷ xs) (y ∷ ys)
told_more x y xs ys o told = first_told x y xs ys (nat_cmp x y) o (ranked x y (nat_cmp x y) refl) told

last_told : (x y : ℕ) (r : Ordering) → MatchOrdering r (x < y) (x ≡ y) (y < x) → Told r (x ∷ []) (y ∷ [])
last_told x y Less lt = inl lt
last_told x y Greater gt = inl gt
last_told x y Equal same = ap (λ (a : ℕ). a ∷ []) same

-- lexicographic order, of two lists of one length
abbrev pub lists_cmp : List ℕ → List ℕ → Ordering
lists_cmp [] ys = Equal
lists_cmp (x ∷ []) [] = Equal
lists_cmp (x ∷ []) (y ∷ ys) = nat_cmp x y
lists_cmp (x ∷ x' ∷ xs) [] = Equal
lists_cmp (x ∷ x' ∷ xs) (y ∷ ys) = ordering_then (nat_cmp x y) (lists_cmp (x' ∷ xs) ys)

told_lists : (xs ys : List ℕ) → length xs ≡ length ys → Told (lists_cmp xs ys) xs ys
told_lists [] [] e = refl
told_lists [] (y ∷ ys) e = absurd (omega arith)
told_lists (x ∷ []) [] e = absurd (omega arith)
told_lists (x ∷ []) (y ∷ []) e = last_told x y (nat_cmp x y) (ranked x y (nat_cmp x y) refl)
told_lists (x ∷ []) (y ∷ y' ∷ ys) e = absurd (omega arith)
told_lists (x ∷ x' ∷ xs) [] e = absurd (omega arith)
told_lists (x ∷ x' ∷ xs) (y ∷ ys) e = told_more x y (x' ∷ xs) ys (lists_cmp (x' ∷ xs) ys) (told_lists (x' ∷ xs) ys (omega arith))

-- the order that is derived
abbrev pub label_cmp : Label → Label → Ordering
label_cmp x y = lists_cmp (entries x) (entries y)

pub told_label : (x y : Label) → Told (label_cmp x y) (entries x) (entries y)
told_label x y = told_lists (entries x) (entries y) refl

no_label : Label
no_label = record { seconds = 0; rest = record { a = 0; b = 0; trip = 0; ready = 0; y = 0; a1 = 0; c = 0 } }

-- the label of a list of entries
label_from : List ℕ → Label
label_from (s ∷ a ∷ b ∷ trip ∷ ready ∷ y ∷ a1 ∷ c ∷ []) =
    record { seconds = s; rest = record { a = a; b = b; trip = trip; ready = ready; y = y; a1 = a1; c = c } }
label_from xs = no_label

pub entries_same : (x y : Label) → entries x ≡ entries y → x ≡ y
unfolding label_from
entries_same x y same = ap label_from same

pub Upto-refl : (x : Label) → IsUpto x x
Upto-refl x = inl refl

pub Upto-trans : (x y z : Label) → IsUpto x y → IsUpto y z → IsUpto x z
Upto-trans x y z (inl e) h = subst (λ (w : Label). IsUpto w z) (sym e) h
Upto-trans x y z (inr l) (inl e) = inr (subst (λ (w : Label). IsLess (entries x) (entries w)) e l)
Upto-trans x y z (inr l) (inr m) = inr (IsLess-trans (entries x) (entries y) (entries z) l m)

pub Upto-after : (x y : Label) (m : ℕ) → IsUpto x y → IsUpto (after x m) (after y m)
Upto-after x y m (inl e) = inl (ap (λ (w : Label). after w m) e)
Upto-after x y m (inr (inl lt)) = inr (inl (omega arith))
Upto-after x y m (inr (inr h)) = inr (inr (ap (λ (s : ℕ). s + m) h.0, h.1))

pub after-zero : (x : Label) → after x 0 ≡ x
after-zero x = let e : x.seconds + 0 ≡ x.seconds = omega arith in ap (λ (s : ℕ). let y : Label = record { seconds = s; rest = x.rest } in y) e

pub after-sum : (x : Label) (l m : ℕ) → after (after x l) m ≡ after x (l + m)
after-sum x l m =
    let e : x.seconds + l + m ≡ x.seconds + (l + m) = omega arith in
    ap (λ (s : ℕ). let y : Label = record { seconds = s; rest = x.rest } in y) e

pub Upto-later : (x : Label) (m : ℕ) → IsUpto x (after x m)
Upto-later x zero = inl (sym (after-zero x))
Upto-later x (suc m) = inr (inl (omega arith))

-- a label that is no later than itself some seconds on
pub less_seconds : (x : Label) (l m : ℕ) → IsUpto (after x l) (after x m) → l ≤ m
less_seconds x l m (inl e) = omega (arith, ap (λ (w : Label). w.seconds) e)
less_seconds x l m (inr (inl lt)) = omega arith
less_seconds x l m (inr (inr h)) = absurd (IsLess-irreflexive (rest_entries x.rest) h.1)

by_told : (x y : Label) (o : Ordering) → Told o (entries x) (entries y) → (is_lt o ≡ true → IsUpto x y) × (is_lt o ≡ false → IsUpto y x)
by_told x y Less told = (λ _. inr told, λ e. absurd (cc))
by_told x y Equal told = (λ e. absurd (cc), λ _. inl (sym (entries_same x y told)))
by_told x y Greater told = (λ e. absurd (cc), λ _. inr told)

pub upto_less : (x y : Label) → is_lt (label_cmp x y) ≡ true → IsUpto x y
upto_less x y e = (by_told x y (label_cmp x y) (told_label x y)).0 e

pub upto_not_less : (x y : Label) → is_lt (label_cmp x y) ≡ false → IsUpto y x
upto_not_less x y e = (by_told x y (label_cmp x y) (told_label x y)).1 e

pub upto_equal : (x y : Label) → label_cmp x y ≡ Equal → IsUpto x y
upto_equal x y e = inl (entries_same x y (subst (λ (o : Ordering). Told o (entries x) (entries y)) e (told_label x y)))
