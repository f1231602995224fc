-- The queue of labels by vertex.
use Rattle.std.proofs.Common.{◌≡◌, ◌≢◌, ℕ, zero, suc, ◌+◌, ◌-◌, ◌<◌, ◌≤◌, Bool, true, false, List, ◌∷◌, Option, Some, None, length, slice_set, refl, sym, ap, ◌∙◌, subst, inl, inr, is_lt, arith, add-one}
use Rattle.std.specs.Bool.{OnTrue, OnFalse}
use Rattle.std.proofs.lemmas.List.{get_or_past, get_or-set_same, get_or-set_other}
use Rattle.std.proofs.lemmas.Bool.{cases_lt}
use Rattle.walk_queue.specs.Keys.{key_at, improves, IsEmpty, IsLeast}
use Rattle.core_search.specs.declared.label.Label.{Label}
use Rattle.core_search.specs.Label.{IsUpto, label_at}
use Rattle.core_search.specs.Waiting.{HasNone, IsPut, IsTaken}
use Rattle.core_search.proofs.OrderLemmas.{label_cmp, Upto-refl, upto_less, upto_not_less, upto_equal}

pub label_low : (labels : List (Option Label)) (v : ℕ) (x : Label) → label_at labels v ≡ Some x → v < length labels
label_low labels v x is = elim (cases_lt v (length labels)) [
  | inl lt ↦ lt
  | inr past ↦ let none : None ≡ Some x = sym (get_or_past labels v None past) ∙ is in absurd (cc)
]

-- behind an entry for no vertex
pub label_shift : (queue : List (Option Label)) (p : ℕ) → label_at (None ∷ queue) (p + 1) ≡ label_at queue p
label_shift queue p = ap (label_at (None ∷ queue)) (add-one p)

module _ (queue queue' : List (Option Label)) (p : ℕ) (x : Label) (low : p < length queue) where
  others_set : (y : Option Label) → queue' ≡ slice_set queue p y → (u : ℕ) → u ≢ p + 1 → label_at (None ∷ queue') u ≡ label_at (None ∷ queue) u
  others_set y is zero ne = refl
  others_set y is (suc k) ne =
      let other : k ≢ p = λ e. ne (omega arith) in
      ap (λ (q : List (Option Label)). label_at q k) is ∙ get_or-set_other queue p k y None other

  held_set : (y : Option Label) → queue' ≡ slice_set queue p y → label_at (None ∷ queue') (p + 1) ≡ y
  held_set y is = label_shift queue' p ∙ ap (λ (q : List (Option Label)). label_at q p) is ∙ get_or-set_same queue p y None low

  put_less : (held : Option Label) → key_at queue p ≡ held → improves label_cmp x held ≡ true → queue' ≡ slice_set queue p (Some x) → (z : Label) → label_at (None ∷ queue) (p + 1) ≡ Some z → IsUpto x z
  put_less None at better is z stood = let no : None ≡ Some z = sym at ∙ sym (label_shift queue p) ∙ stood in absurd (cc)
  put_less (Some w) at better is z stood =
      let same : Some w ≡ Some z = sym at ∙ sym (label_shift queue p) ∙ stood in
      let e : w ≡ z = cc in
      subst (λ (v : Label). IsUpto x v) e (upto_less x w better)

  keep_less : (held : Option Label) → key_at queue p ≡ held → improves label_cmp x held ≡ false → queue' ≡ queue → IsPut (None ∷ queue) (None ∷ queue') (p + 1) x
  keep_less None at worse is = absurd (cc)
  keep_less (Some w) at worse is =
      let stood : label_at (None ∷ queue) (p + 1) ≡ Some w = label_shift queue p ∙ at in
      record {
        y = w;
        held = ap (λ (q : List (Option Label)). label_at (None ∷ q) (p + 1)) is ∙ stood;
        upto = upto_not_less x w worse;
        is = inr stood;
        lowered = λ z there.
            let same : Some w ≡ Some z = sym stood ∙ there in
            let e : w ≡ z = cc in
            subst (λ (v : Label). IsUpto w v) e (Upto-refl w);
        others = λ u _. ap (λ (q : List (Option Label)). label_at (None ∷ q) u) is;
        many = ap (λ (q : List (Option Label)). length (None ∷ q)) is;
      }

  put_by : (b : Bool) → b ≡ improves label_cmp x (key_at queue p) → OnTrue b (queue' ≡ slice_set queue p (Some x)) → OnFalse b (queue' ≡ queue)
      → length queue' ≡ length queue → IsPut (None ∷ queue) (None ∷ queue') (p + 1) x
  put_by true better put kept long = record {
    y = x;
    held = held_set (Some x) put;
    upto = Upto-refl x;
    is = inl refl;
    lowered = put_less (key_at queue p) refl (sym better) put;
    others = others_set (Some x) put;
    many = ap suc long;
  }
  put_by false worse put kept long = keep_less (key_at queue p) refl (sym worse) kept

  pub taken_by : queue' ≡ slice_set queue p None → IsLeast label_cmp queue p x → length queue' ≡ length queue → IsTaken (None ∷ queue) (None ∷ queue') (p + 1) x
  taken_by is least long = record {
    held = label_shift queue p ∙ least.held;
    least = least_of;
    here = held_set None is;
    others = others_set None is;
    many = ap suc long;
  }
    where
      least_of : (u : ℕ) (y : Label) → label_at (None ∷ queue) u ≡ Some y → IsUpto x y
      least_of zero y there = absurd (cc)
      least_of (suc k) y there = elim (least.least k y there) [
        | inl less ↦ upto_less x y (ap is_lt less)
        | inr same ↦ upto_equal x y same.0
      ]

pub put_is : (queue queue' : List (Option Label)) (v : ℕ) (x : Label) (b : Bool) → 1 ≤ v → v < length (None ∷ queue) → b ≡ improves label_cmp x (key_at queue (v - 1))
    → OnTrue b (queue' ≡ slice_set queue (v - 1) (Some x)) → OnFalse b (queue' ≡ queue) → length queue' ≡ length queue → IsPut (None ∷ queue) (None ∷ queue') v x
put_is queue queue' v x b from low answer put kept long =
    let e : v - 1 + 1 ≡ v = omega arith in
    let few : v - 1 < length queue = omega arith in
    subst (λ (n : ℕ). IsPut (None ∷ queue) (None ∷ queue') n x) e (put_by queue queue' (v - 1) x few b answer put kept long)

pub none_is : (queue : List (Option Label)) → IsEmpty queue → HasNone (None ∷ queue)
none_is queue empty zero = refl
none_is queue empty (suc k) = empty k
