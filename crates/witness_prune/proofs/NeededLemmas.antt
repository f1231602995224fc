-- Rising lists of pairs.
use Rattle.std.proofs.Common.{◌≡◌, ℕ, ◌+◌, ◌-◌, ◌<◌, ◌≤◌, ◌⊎◌, inl, inr, List, [], ◌∷◌, length, get_or, refl, sym, ap, subst, ◌∙◌, arith}
use Rattle.std.specs.Prelude.{◌↔◌, insert, Contains}
use Rattle.std.proofs.lemmas.Bool.{cases_lt, cases_eq}
use Rattle.std.proofs.lemmas.List.{get_or_default}
use Rattle.std.proofs.lemmas.List.Edits.{get_or-insert_at, get_or-insert_below, get_or-insert_above, length-insert}
use Rattle.pareto_laws.proofs.Calls.{stop_eq}
use Rattle.pareto_laws.proofs.Lexicographic.{IsLess-trans}
use Rattle.piece_laws.proofs.Entries.{less_or_not, same_list}
use Rattle.witness_prune.specs.Needed.{Pair, no_pair, pair_at, IsBefore, IsRising}

abbrev pub pair_entries : Pair → List ℕ
pair_entries p = p.0.0 ∷ p.1.0 ∷ []

pub before_trans : (a b c : Pair) → IsBefore a b → IsBefore b c → IsBefore a c
before_trans a b c f g = IsLess-trans (pair_entries a) (pair_entries b) (pair_entries c) f g

pair_eq : (a b : Pair) → pair_entries a ≡ pair_entries b → a ≡ b
pair_eq a b e =
    let f : a.0.0 ≡ b.0.0 = cc in
    let g : a.1.0 ≡ b.1.0 = cc in
    let h : a.0 ≡ b.0 = stop_eq a.0 b.0 f in
    let k : a.1 ≡ b.1 = stop_eq a.1 b.1 g in
    λ i. (h i, k i)

-- a pair that is neither before another nor the other stands behind it
pub behind_of : (a b : Pair) → (IsBefore a b → ⊥) → (a ≡ b → ⊥) → IsBefore b a
behind_of a b f g = elim (less_or_not (pair_entries b) (pair_entries a)) [
  | inl l ↦ l
  | inr n ↦ absurd (g (pair_eq a b (same_list (pair_entries a) (pair_entries b) refl f n)))
]

pub all_before : (pairs : List Pair) (m : ℕ) (pair : Pair) → IsRising pairs → m < length pairs → IsBefore (pair_at pairs m) pair
    → (k : ℕ) → k < m + 1 → IsBefore (pair_at pairs k) pair
all_before pairs m pair rising within is k low = elim (cases_lt k m) [
  | inl l ↦ before_trans (pair_at pairs k) (pair_at pairs m) pair (rising.each k m l within) is
  | inr g ↦ subst (λ (i : ℕ). IsBefore (pair_at pairs i) pair) (let e : m ≡ k = omega arith in e) is
]

pub none_before : (pairs : List Pair) (m : ℕ) (pair : Pair) → IsRising pairs → m < length pairs → (IsBefore (pair_at pairs m) pair → ⊥)
    → (k : ℕ) → m ≤ k → k < length pairs → IsBefore (pair_at pairs k) pair → ⊥
none_before pairs m pair rising within none k low at is = elim (cases_lt m k) [
  | inl l ↦ none (before_trans (pair_at pairs m) (pair_at pairs k) pair (rising.each m k l at) is)
  | inr g ↦ none (subst (λ (i : ℕ). IsBefore (pair_at pairs i) pair) (let e : k ≡ m = omega arith in e) is)
]

module _ (pairs : List Pair) (i : ℕ) (pair : Pair) (rising : IsRising pairs) (within : i ≤ length pairs)
    (before : (k : ℕ) → k < i → IsBefore (pair_at pairs k) pair)
    (behind : (k : ℕ) → i ≤ k → k < length pairs → IsBefore (pair_at pairs k) pair → ⊥)
    (new : i < length pairs → pair_at pairs i ≡ pair → ⊥) where
  after : (k : ℕ) → i ≤ k → k < length pairs → IsBefore pair (pair_at pairs k)
  after k low at =
      let first : IsBefore pair (pair_at pairs i) = behind_of (pair_at pairs i) pair (behind i (omega arith) (omega arith)) (new (omega arith)) in
      elim (cases_lt i k) [
        | inl l ↦ before_trans pair (pair_at pairs i) (pair_at pairs k) first (rising.each i k l at)
        | inr g ↦ subst (λ (j : ℕ). IsBefore pair (pair_at pairs j)) (let e : i ≡ k = omega arith in e) first
      ]

  -- what stands at a place of the longer list
  data Place : ℕ → Pair → Type 0 where
    low : (k : ℕ) → k < i → Place k (pair_at pairs k)
    here : Place i pair
    high : (k : ℕ) → i ≤ k → k < length pairs → Place (k + 1) (pair_at pairs k)

  place : (k : ℕ) → k < length pairs + 1 → Place k (pair_at (insert pairs i pair) k)
  place k h = elim (cases_lt k i) [
    | inl l ↦ subst (λ (p : Pair). Place k p) (sym (get_or-insert_below pairs i pair no_pair k l within)) (low k l)
    | inr g ↦ elim (cases_eq k i) [
      | inl e ↦ subst (λ (j : ℕ). Place j (pair_at (insert pairs i pair) j)) (sym e) (subst (λ (p : Pair). Place i p) (sym (get_or-insert_at pairs i pair no_pair within)) here)
      | inr ne ↦
          let e : k - 1 + 1 ≡ k = omega arith in
          subst (λ (j : ℕ). Place j (pair_at (insert pairs i pair) j)) e
          (subst (λ (p : Pair). Place (k - 1 + 1) p) (sym (get_or-insert_above pairs i pair no_pair (k - 1) (omega arith) within)) (high (k - 1) (omega arith) (omega arith)))
    ]
  ]

  ordered : (j k : ℕ) (p q : Pair) → j < k → Place j p → Place k q → IsBefore p q
  ordered j k p q lt (low a l) (low b m) = rising.each j k lt (omega arith)
  ordered j k p q lt (low a l) here = before j l
  ordered j k p q lt (low a l) (high b m n) = before_trans (pair_at pairs j) pair (pair_at pairs b) (before j l) (after b m n)
  ordered j k p q lt here (low b m) = absurd (omega arith)
  ordered j k p q lt here here = absurd (omega arith)
  ordered j k p q lt here (high b m n) = after b m n
  ordered j k p q lt (high a l h) (low b m) = absurd (omega arith)
  ordered j k p q lt (high a l h) here = absurd (omega arith)
  ordered j k p q lt (high a l h) (high b m n) = rising.each a b (omega arith) n

  pub rising_insert : IsRising (insert pairs i pair)
  rising_insert = record {
    each = λ j k lt h.
        let many = length-insert pairs i pair within in
        ordered j k (pair_at (insert pairs i pair) j) (pair_at (insert pairs i pair) k) lt (place j (omega arith)) (place k (omega arith));
  }

pub contains_insert : (pairs : List Pair) (i : ℕ) (pair q : Pair) → i ≤ length pairs → Contains (insert pairs i pair) q ↔ (Contains pairs q ⊎ (q ≡ pair))
contains_insert pairs i pair q within = (to, from)
  where
    to : Contains (insert pairs i pair) q → Contains pairs q ⊎ (q ≡ pair)
    to (k, h, e) =
        let many = length-insert pairs i pair within in
        elim (cases_lt k i) [
          | inl l ↦ inl (k, omega arith, sym (get_or-insert_below pairs i pair q k l within) ∙ e)
          | inr g ↦ elim (cases_eq k i) [
            | inl s ↦ inr (sym e ∙ ap (λ (j : ℕ). get_or (insert pairs i pair) j q) s ∙ get_or-insert_at pairs i pair q within)
            | inr ne ↦
                let s : k ≡ k - 1 + 1 = omega arith in
                inl (k - 1, omega arith, sym (get_or-insert_above pairs i pair q (k - 1) (omega arith) within) ∙ sym (ap (λ (j : ℕ). get_or (insert pairs i pair) j q) s) ∙ e)
          ]
        ]

    from : Contains pairs q ⊎ (q ≡ pair) → Contains (insert pairs i pair) q
    from (inr e) = (i, omega (arith, length-insert pairs i pair within), get_or-insert_at pairs i pair q within ∙ sym e)
    from (inl (k, h, e)) =
        let many = length-insert pairs i pair within in
        elim (cases_lt k i) [
          | inl l ↦ (k, omega arith, get_or-insert_below pairs i pair q k l within ∙ e)
          | inr g ↦ (k + 1, omega arith, get_or-insert_above pairs i pair q k (omega arith) within ∙ e)
        ]

-- a pair that stands there already
pub contains_same : (pairs : List Pair) (i : ℕ) (pair q : Pair) → i < length pairs → pair_at pairs i ≡ pair → Contains pairs q ↔ (Contains pairs q ⊎ (q ≡ pair))
contains_same pairs i pair q within is = (λ c. inl c, from)
  where
    from : Contains pairs q ⊎ (q ≡ pair) → Contains pairs q
    from (inl c) = c
    from (inr e) = (i, within, get_or_default pairs i q no_pair within ∙ is ∙ sym e)

-- it is one of the first items
abbrev pub StandsBelow : List Pair → ℕ → Pair → Type 0
StandsBelow more m q = (k : ℕ) × (k < m) × (pair_at more k ≡ q)

pub put_more : (old now now' more : List Pair) (m : ℕ) (pair q : Pair) → pair ≡ pair_at more m
    → (Contains now q ↔ (Contains old q ⊎ StandsBelow more m q)) → (Contains now' q ↔ (Contains now q ⊎ (q ≡ pair)))
    → Contains now' q ↔ (Contains old q ⊎ StandsBelow more (m + 1) q)
put_more old now now' more m pair q is was put = (to, from)
  where
    to : Contains now' q → Contains old q ⊎ StandsBelow more (m + 1) q
    to c = elim (put.0 c) [
      | inr e ↦ inr (m, omega arith, sym is ∙ sym e)
      | inl d ↦ elim (was.0 d) [ inl o ↦ inl o | inr (k, l, e) ↦ inr (k, omega arith, e) ]
    ]

    from : Contains old q ⊎ StandsBelow more (m + 1) q → Contains now' q
    from (inl o) = put.1 (inl (was.1 (inl o)))
    from (inr (k, l, e)) = elim (cases_lt k m) [
      | inl lt ↦ put.1 (inl (was.1 (inr (k, lt, e))))
      | inr ge ↦ put.1 (inr (sym e ∙ ap (λ (j : ℕ). pair_at more j) (let f : k ≡ m = omega arith in f) ∙ sym is))
    ]

pub all_put : (old now more : List Pair) (m : ℕ) (q : Pair) → m ≡ length more → (Contains now q ↔ (Contains old q ⊎ StandsBelow more m q))
    → Contains now q ↔ (Contains old q ⊎ Contains more q)
all_put old now more m q e was = (to, from)
  where
    to : Contains now q → Contains old q ⊎ Contains more q
    to c = elim (was.0 c) [ inl o ↦ inl o | inr (k, l, f) ↦ inr (k, omega arith, get_or_default more k q no_pair (omega arith) ∙ f) ]

    from : Contains old q ⊎ Contains more q → Contains now q
    from (inl o) = was.1 (inl o)
    from (inr (k, l, f)) = was.1 (inr (k, omega arith, get_or_default more k no_pair q l ∙ f))
