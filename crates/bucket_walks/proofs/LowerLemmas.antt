-- Rows whose seconds are lowered.
use Rattle.std.proofs.Common.{◌≡◌, ◌∙◌, ◌<◌, ◌≤◌, ◌⊎◌, ℕ, List, Option, Some, None, length, get_or, set, min, refl, sym, ap, subst, inl, inr, arith}
use Rattle.std.proofs.lemmas.Bool.{cases_eq, cases_lt}
use Rattle.std.proofs.lemmas.List.{get_or-set_same, get_or-set_other, length-set}
use Rattle.walk_laws.specs.Sums.{IsLeast, HasLeast}
use Rattle.bucket_walks.specs.Scan.{IsHeld, Lowers, lesser_of, IsAt}

-- where there is a number, there is a least one, which is no greater
pub record HasNoMore (r : Option ℕ) (n : ℕ) : Type 0 where
  pub m : ℕ
  pub is : r ≡ Some m
  pub within : m ≤ n

pub no_more : (P : ℕ → Type 0) (r : Option ℕ) (n : ℕ) → HasLeast P r → P n → HasNoMore r n
no_more P None n least p = absurd (least n p)
no_more P (Some m) n least p = record { m = m; is = refl; within = least.least n p }

-- what is least of one set of numbers is least of another with the same numbers, as far as its least go
pub least_of : (P Q : ℕ → Type 0) (r : Option ℕ) → ((m : ℕ) → P m → Q m) → ((n : ℕ) → Q n → (m : ℕ) × (P m × (m ≤ n))) → HasLeast P r → HasLeast Q r
least_of P Q None there back none = λ n q. let b = back n q in none b.0 b.1.0
least_of P Q (Some m) there back least = record {
  attained = there m least.attained;
  least = λ n q. let b = back n q in omega (arith, least.least b.0 b.1.0, b.1.1);
}

some_same : (a b : ℕ) → ◌≡◌ {A = Option ℕ} (Some a) (Some b) → a ≡ b
some_same a b e = cc

held_least : (row : List (Option ℕ)) (gives : ℕ → ℕ → Type 0) (p : ℕ) (r : Option ℕ) → get_or row p None ≡ r → ((m : ℕ) → gives p m → ⊥)
    → HasLeast (λ m. IsHeld row p m ⊎ gives p m) r
held_least row gives p None is none = λ m either. elim either [
  | inl held ↦ let e : ◌≡◌ {A = Option ℕ} None (Some m) = sym is ∙ held.is in cc
  | inr given ↦ none m given
]
held_least row gives p (Some s) is none = record {
  attained = inl (record { is = is });
  least = λ m either. elim either [
    | inl held ↦ let e : s ≡ m = some_same s m (sym is ∙ held.is) in omega arith
    | inr given ↦ absurd (none m given)
  ];
}

pub lowers_nothing : (row : List (Option ℕ)) (gives : ℕ → ℕ → Type 0) → ((p m : ℕ) → gives p m → ⊥) → Lowers row row gives
lowers_nothing row gives none = record { many = refl; least = λ p low. held_least row gives p (get_or row p None) refl (none p) }

module _ (one two all : ℕ → ℕ → Type 0) (a b c : List (Option ℕ))
    (parts : (p m : ℕ) → all p m → one p m ⊎ two p m) (first : (p m : ℕ) → one p m → all p m) (second : (p m : ℕ) → two p m → all p m)
    (x : Lowers a b one) (y : Lowers b c two) where
  from_first : (p m : ℕ) → p < length a → IsHeld b p m → IsHeld a p m ⊎ all p m
  from_first p m low held =
      let least : IsLeast (λ n. IsHeld a p n ⊎ one p n) m = subst (HasLeast (λ n. IsHeld a p n ⊎ one p n)) held.is (x.least p low) in
      elim least.attained [ inl was ↦ inl was | inr given ↦ inr (first p m given) ]

  to_first : (p n : ℕ) → p < length a → IsHeld a p n ⊎ one p n → (m : ℕ) × ((IsHeld b p m ⊎ two p m) × (m ≤ n))
  to_first p n low either =
      let k : HasNoMore (get_or b p None) n = no_more (λ m. IsHeld a p m ⊎ one p m) (get_or b p None) n (x.least p low) either in
      (k.m, (inl (record { is = k.is }), k.within))

  to_all : (p n : ℕ) → p < length a → IsHeld a p n ⊎ all p n → (m : ℕ) × ((IsHeld b p m ⊎ two p m) × (m ≤ n))
  to_all p n low either = elim either [
    | inl held ↦ to_first p n low (inl held)
    | inr given ↦ elim (parts p n given) [
      | inl by_one ↦ to_first p n low (inr by_one)
      | inr by_two ↦ (n, (inr by_two, omega arith))
    ]
  ]

  pub lowers_then : Lowers a c all
  lowers_then = record {
    many = y.many ∙ x.many;
    least = λ p low.
        least_of (λ m. IsHeld b p m ⊎ two p m) (λ m. IsHeld a p m ⊎ all p m) (get_or c p None)
        (λ m either. elim either [ inl held ↦ from_first p m low held | inr given ↦ inr (second p m given) ])
        (λ n either. to_all p n low either)
        (y.least p (omega (arith, x.many)));
  }

lesser_least : (old : List (Option ℕ)) (q s : ℕ) (held : Option ℕ) → get_or old q None ≡ held → IsLeast (λ m. IsHeld old q m ⊎ IsAt q s q m) (lesser_of held s)
lesser_least old q s None is = record {
  attained = inr (record { stop_is = refl; seconds_are = refl });
  least = λ m either. elim either [
    | inl was ↦ let e : ◌≡◌ {A = Option ℕ} None (Some m) = sym is ∙ was.is in cc
    | inr at ↦ omega (arith, at.seconds_are)
  ];
}
lesser_least old q s (Some h) is = record {
  attained = elim (cases_min h s) [
    | inl e ↦ inl (record { is = is ∙ ap (λ (n : ℕ). Some n) (sym e) })
    | inr e ↦ inr (record { stop_is = refl; seconds_are = sym e })
  ];
  least = λ m either. elim either [
    | inl was ↦ let e : h ≡ m = some_same h m (sym is ∙ was.is) in omega arith
    | inr at ↦ omega (arith, at.seconds_are)
  ];
}
  where
    cases_min : (a b : ℕ) → (min a b ≡ a) ⊎ (min a b ≡ b)
    cases_min a b = elim (cases_lt a b) [ inl lt ↦ inl (omega arith) | inr le ↦ inr (omega arith) ]

-- the stop q has no more than s seconds
pub lowered_at : (old : List (Option ℕ)) (q s : ℕ) (held : Option ℕ) → q < length old → get_or old q None ≡ held → Lowers old (set old q (Some (lesser_of held s))) (IsAt q s)
lowered_at old q s held low is = record {
  many = length-set old q (Some (lesser_of held s));
  least = λ p p_low. elim (cases_eq p q) [
    | inl e ↦
        subst (λ (n : ℕ). HasLeast (λ m. IsHeld old n m ⊎ IsAt q s n m) (get_or (set old q (Some (lesser_of held s))) n None)) (sym e)
        (subst (HasLeast (λ m. IsHeld old q m ⊎ IsAt q s q m)) (sym (get_or-set_same old q (Some (lesser_of held s)) None low)) (lesser_least old q s held is))
    | inr ne ↦
        held_least old (IsAt q s) p (get_or (set old q (Some (lesser_of held s))) p None) (sym (get_or-set_other old q p (Some (lesser_of held s)) None ne))
        (λ m at. ne (sym at.stop_is))
  ];
}
