-- Entries by vertex and then by stop.
use Rattle.std.proofs.Common.{◌≡◌, ◌≢◌, ◌∙◌, ◌+◌, ◌<◌, ◌≤◌, ◌⊎◌, ℕ, List, length, get_or, refl, sym, ap, inl, inr, arith}
use Rattle.std.specs.Prelude.{All}
use Rattle.std.specs.List.{AllAdjacentBelow, swap}
use Rattle.std.specs.List.Sorted.{IsPermutation, IsNonDecreasingBy}
use Rattle.std.proofs.lemmas.Bool.{cases_eq, cases_lt}
use Rattle.std.proofs.lemmas.List.Edits.{Swapped, swapped_from_swap, length-swap}
use Rattle.std.proofs.lemmas.List.Sorted.{IsPermutation-keeps}
use Rattle.move_model.specs.declared.network.NodeNo.{NodeNo}
use Rattle.move_model.specs.declared.network.StopNo.{StopNo}
use Rattle.bucket_walks.specs.declared.bucket.Bucket.{Bucket}
use Rattle.bucket_walks.specs.Buckets.{IsBefore}
use Rattle.bucket_walks.specs.Gathered.{IsApart, AreApart, key_of}

apart_at : (list : List Bucket) → AreApart list → (a b : ℕ) (d : Bucket) → a < length list → b < length list → a ≢ b → IsApart (get_or list a d) (get_or list b d)
apart_at list apart a b d low_a low_b ne = elim (cases_lt a b) [
  | inl lt ↦ apart a b d lt low_b
  | inr le ↦ λ same_node same_stop. apart b a d (omega arith) low_a (sym same_node) (sym same_stop)
]

-- where an element of a list with two elements swapped was before
record WasAt (list after : List Bucket) (i j k : ℕ) (d : Bucket) : Type 0 where
  at : ℕ
  low : at < length list
  is : get_or after k d ≡ get_or list at d
  place : ((k ≡ i) × (at ≡ j)) ⊎ (((k ≡ j) × (at ≡ i)) ⊎ ((k ≢ i) × (k ≢ j) × (at ≡ k)))

was_at : (list after : List Bucket) (i j k : ℕ) (d : Bucket) → i < length list → j < length list → k < length list
    → Swapped (λ n. get_or list n d) (λ n. get_or after n d) i j → WasAt list after i j k d
was_at list after i j k d low_i low_j low_k swapped = elim (cases_eq k i) [
  | inl e ↦ record { at = j; low = low_j; is = ap (λ (n : ℕ). get_or after n d) e ∙ swapped.0; place = inl (e, refl) }
  | inr ne_i ↦ elim (cases_eq k j) [
    | inl e ↦ record { at = i; low = low_i; is = ap (λ (n : ℕ). get_or after n d) e ∙ swapped.1; place = inr (inl (e, refl)) }
    | inr ne_j ↦ record { at = k; low = low_k; is = swapped.2 k ne_i ne_j; place = inr (inr (ne_i, ne_j, refl)) }
  ]
]

places_apart : (i j a b s t : ℕ) → a ≢ b
    → ((a ≡ i) × (s ≡ j)) ⊎ (((a ≡ j) × (s ≡ i)) ⊎ ((a ≢ i) × (a ≢ j) × (s ≡ a)))
    → ((b ≡ i) × (t ≡ j)) ⊎ (((b ≡ j) × (t ≡ i)) ⊎ ((b ≢ i) × (b ≢ j) × (t ≡ b)))
    → s ≢ t
places_apart i j a b s t ne (inl x) (inl y) e = ne (x.0 ∙ sym y.0)
places_apart i j a b s t ne (inl x) (inr (inl y)) e = ne (x.0 ∙ sym y.1 ∙ sym e ∙ x.1 ∙ sym y.0)
places_apart i j a b s t ne (inl x) (inr (inr y)) e = y.1 (sym y.2 ∙ sym e ∙ x.1)
places_apart i j a b s t ne (inr (inl x)) (inl y) e = ne (x.0 ∙ sym y.1 ∙ sym e ∙ x.1 ∙ sym y.0)
places_apart i j a b s t ne (inr (inl x)) (inr (inl y)) e = ne (x.0 ∙ sym y.0)
places_apart i j a b s t ne (inr (inl x)) (inr (inr y)) e = y.0 (sym y.2 ∙ sym e ∙ x.1)
places_apart i j a b s t ne (inr (inr x)) (inl y) e = x.1 (sym x.2 ∙ e ∙ y.1)
places_apart i j a b s t ne (inr (inr x)) (inr (inl y)) e = x.0 (sym x.2 ∙ e ∙ y.1)
places_apart i j a b s t ne (inr (inr x)) (inr (inr y)) e = ne (sym x.2 ∙ e ∙ y.2)

apart_swap : (list : List Bucket) (i j : ℕ) → i < length list → j < length list → AreApart list → AreApart (swap list i j)
apart_swap list i j low_i low_j apart a b d lt low_b =
    let many : length (swap list i j) ≡ length list = length-swap list i j in
    let swapped : Swapped (λ n. get_or list n d) (λ n. get_or (swap list i j) n d) i j = swapped_from_swap list (swap list i j) i j d low_i low_j refl in
    let one : WasAt list (swap list i j) i j a d = was_at list (swap list i j) i j a d low_i low_j (omega arith) swapped in
    let two : WasAt list (swap list i j) i j b d = was_at list (swap list i j) i j b d low_i low_j (omega arith) swapped in
    let ne : a ≢ b = λ e. omega (arith, e) in
    λ same_node same_stop. apart_at list apart one.at two.at d one.low two.low (places_apart i j a b one.at two.at ne one.place two.place)
    (ap (λ (entry : Bucket). entry.node) (sym one.is) ∙ same_node ∙ ap (λ (entry : Bucket). entry.node) two.is)
    (ap (λ (entry : Bucket). entry.stop) (sym one.is) ∙ same_stop ∙ ap (λ (entry : Bucket). entry.stop) two.is)

pub apart_permutation : (list after : List Bucket) → IsPermutation list after → AreApart list → AreApart after
apart_permutation list after moved apart = IsPermutation-keeps list AreApart apart apart_swap after moved

node_same : (x y : NodeNo) → x.0 ≡ y.0 → x ≡ y
node_same x y e = ap (λ n. record { 0 = n }) e

stop_same : (x y : StopNo) → x.0 ≡ y.0 → x ≡ y
stop_same x y e = ap (λ n. record { 0 = n }) e

before_by : (x y : Bucket) → key_of x ≤ key_of y → x.stop.0 < 4294967296 → y.stop.0 < 4294967296 → IsApart x y → IsBefore x y
before_by x y le small_x small_y apart = elim (cases_lt x.node.0 y.node.0) [
  | inl lt ↦ inl lt
  | inr ge ↦
      let same : x.node.0 ≡ y.node.0 = omega arith in
      elim (cases_lt x.stop.0 y.stop.0) [
        | inl lt ↦ inr (same, lt)
        | inr more ↦ absurd (apart (node_same x.node y.node same) (stop_same x.stop y.stop (omega arith)))
      ]
]

pub in_order : (list : List Bucket) → AreApart list → IsNonDecreasingBy key_of list → All (λ entry. entry.stop.0 < 4294967296) list → AllAdjacentBelow IsBefore list (length list)
in_order list apart rising small = λ k d lt.
    before_by (get_or list k d) (get_or list (k + 1) d) (rising k (k + 1) d (omega arith) lt) (small k d (omega arith)) (small (k + 1) d lt) (apart k (k + 1) d (omega arith) lt)
