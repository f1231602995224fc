-- Stops with equal entries, and the entries that are kept.
use Rattle.std.proofs.Common.{◌≡◌, ◌∙◌, ◌+◌, ◌<◌, ◌↔◌, ℕ, Bool, true, List, [], ◌∷◌, ◌++◌, length, take, drop, get_or, refl, sym, ap, subst, eqb, cond, eqb-true, eq-eqb, inl, inr, arith}
use Rattle.std.specs.Prelude.{All, Contains, filter}
use Rattle.std.specs.List.{AllAdjacentBelow}
use Rattle.std.specs.List.Sorted.{IsNonDecreasing}
use Rattle.std.proofs.lemmas.Bool.{cases_lt}
use Rattle.std.proofs.lemmas.List.{take-append-drop, get_or_append_left, get_or_push}
use Rattle.std.proofs.lemmas.List.Elements.{All-contains, All-filter, All-contains_itself, Contains-append_left, Contains-get_or, Contains-push, filter-append, filter_more, filter_passes}
use Rattle.std.proofs.lemmas.List.Kept.{IsNonDecreasingBy-filter}
use Rattle.move_model.specs.declared.network.NodeNo.{NodeNo}
use Rattle.bucket_walks.specs.declared.bucket.Bucket.{Bucket}
use Rattle.bucket_walks.specs.Starts.{nodes_of}
use Rattle.bucket_walks.specs.Buckets.{IsBefore}
use Rattle.bucket_walks.specs.Twins.{entry_of, IsTwin, kept_of, IsSame, AreSame}
use Rattle.bucket_walks.proofs.MapLemmas.{map_rises, entries_rise}

filter_has : {X : Type 0} (p : X → Bool) (xs : List X) (x : X) → Contains xs x → p x ≡ true → Contains (filter p xs) x
filter_has {X} p xs x has passes =
    let k = has.0 in
    let front : filter p (take (k + 1) xs) ≡ filter p (take k xs) ++ x ∷ [] =
    filter_more p xs k x has.1 ∙ ap (λ (y : X). filter p (take k xs) ++ cond (p y) (y ∷ []) []) has.2 ∙ ap (λ b. filter p (take k xs) ++ cond b (x ∷ []) []) passes in
    let whole : filter p xs ≡ filter p (take (k + 1) xs) ++ filter p (drop (k + 1) xs) =
    ap (filter p) (sym (take-append-drop (k + 1) xs)) ∙ filter-append p (take (k + 1) xs) (drop (k + 1) xs) in
    subst (λ (ys : List X). Contains ys x) (sym whole)
    (Contains-append_left (filter p (take (k + 1) xs)) (filter p (drop (k + 1) xs)) x
    (subst (λ (ys : List X). Contains ys x) (sym front) (Contains-push (filter p (take k xs)) x)))

module _ (twins : List ℕ) (list : List Bucket) where
  pub kept_has : (e : Bucket) → Contains (kept_of twins list) e → Contains list e × (get_or twins e.stop.0 0 ≡ e.stop.0)
  kept_has e has = (
    All-contains (Contains list) (kept_of twins list) e (All-filter (λ x. eqb (get_or twins x.stop.0 0) x.stop.0) (Contains list) list (All-contains_itself list)) has,
    eqb-true (get_or twins e.stop.0 0) e.stop.0
        (All-contains (λ (x : Bucket). eqb (get_or twins x.stop.0 0) x.stop.0 ≡ true) (kept_of twins list) e (filter_passes (λ x. eqb (get_or twins x.stop.0 0) x.stop.0) list) has),
  )

  pub kept_all : (e : Bucket) → Contains list e → get_or twins e.stop.0 0 ≡ e.stop.0 → Contains (kept_of twins list) e
  kept_all e has own =
      filter_has (λ (x : Bucket). eqb (get_or twins x.stop.0 0) x.stop.0) list e has (eq-eqb (get_or twins e.stop.0 0) e.stop.0 own)

  -- what holds of each entry holds of those that are kept
  pub kept_part : (P : Bucket → Type 0) → All P list → All P (kept_of twins list)
  kept_part P all = All-filter (λ x. eqb (get_or twins x.stop.0 0) x.stop.0) P list all

  -- they rise by vertex as all do
  pub kept_rise : AllAdjacentBelow IsBefore list (length list) → IsNonDecreasing (nodes_of (kept_of twins list))
  kept_rise in_order =
      map_rises (λ (entry : Bucket). entry.node.0) (kept_of twins list)
      (IsNonDecreasingBy-filter (λ (entry : Bucket). entry.node.0) (λ x. eqb (get_or twins x.stop.0 0) x.stop.0) list (entries_rise list in_order))

-- the entries of one stop where its row is the same as that of another
module _ (a b : List Bucket) (q p : ℕ) (at_p : (e : Bucket) → Contains b e → e.stop.0 ≡ p) (are : AreSame a b) where
  pub same_has : (v k : ℕ) → Contains a (entry_of v q k) → Contains b (entry_of v p k)
  same_has v k has =
      let x : Bucket = entry_of v q k in
      let e : Bucket = get_or b has.0 x in
      let low : has.0 < length b = omega (arith, has.1, are.many) in
      let same : IsSame (get_or a has.0 x) e = are.each has.0 x has.1 in
      let in_b : Contains b e = Contains-get_or b has.0 x low in
      let node : e.node.0 ≡ v = ap (λ (n : NodeNo). n.0) (sym same.node) ∙ ap (λ (y : Bucket). y.node.0) has.2 in
      let seconds : e.seconds ≡ k = sym same.seconds ∙ ap (λ (y : Bucket). y.seconds) has.2 in
      let is : ◌≡◌ {A = Bucket} e (entry_of v p k) =
      ap (λ n. entry_of n e.stop.0 e.seconds) node ∙ ap (λ n. entry_of v n e.seconds) (at_p e in_b) ∙ ap (λ n. entry_of v p n) seconds in
      subst (Contains b) is in_b

pub same_back : (a b : List Bucket) → AreSame a b → AreSame b a
same_back a b are = record {
  many = sym are.many;
  each = λ i d lt. let same = are.each i d (omega (arith, lt, are.many)) in record { node = sym same.node; seconds = sym same.seconds };
}

-- an earlier stop with the same row is a twin
pub twin_of_rows : (list a b : List Bucket) (q p : ℕ) → p < q → ((e : Bucket) → Contains a e ↔ (Contains list e × (e.stop.0 ≡ q)))
    → ((e : Bucket) → Contains b e ↔ (Contains list e × (e.stop.0 ≡ p))) → AreSame a b → IsTwin list q p
twin_of_rows list a b q p lt of_q of_p are = record {
  no_later = omega arith;
  same = λ v k. (
    λ has. ((of_p (entry_of v p k)).0 (same_has a b q p (λ e in_b. ((of_p e).0 in_b).1) are v k ((of_q (entry_of v q k)).1 (has, refl)))).0,
    λ has. ((of_q (entry_of v q k)).0 (same_has b a p q (λ e in_a. ((of_q e).0 in_a).1) (same_back a b are) v k ((of_p (entry_of v p k)).1 (has, refl)))).0,
  );
}

-- twins among the same entries in another order
pub twin_among : (entries list : List Bucket) (q p : ℕ) → ((e : Bucket) → Contains entries e ↔ Contains list e) → IsTwin entries q p → IsTwin list q p
twin_among entries list q p among twin = record {
  no_later = twin.no_later;
  same = λ v k. (
    λ has. (among (entry_of v p k)).0 ((twin.same v k).0 ((among (entry_of v q k)).1 has)),
    λ has. (among (entry_of v q k)).0 ((twin.same v k).1 ((among (entry_of v p k)).1 has)),
  );
}

-- one more twin
pub twins_more : (list : List Bucket) (twins after : List ℕ) (n t : ℕ) → after ≡ twins ++ t ∷ [] → length twins ≡ n → ((q : ℕ) → q < n → IsTwin list q (get_or twins q 0))
    → IsTwin list n t → (q : ℕ) → q < n + 1 → IsTwin list q (get_or after q 0)
twins_more list twins after n t is many so_far last q low = elim (cases_lt q n) [
  | inl lt ↦
      subst (IsTwin list q) (sym (ap (λ (all : List ℕ). get_or all q 0) is ∙ get_or_append_left twins (t ∷ []) 0 q (omega (arith, lt, many)))) (so_far q lt)
  | inr le ↦
      let e : q ≡ n = omega arith in
      let read : get_or after q 0 ≡ t = ap (λ (all : List ℕ). get_or all q 0) is ∙ get_or_push twins t 0 q (many ∙ sym e) in
      subst (IsTwin list q) (sym read) (subst (λ (i : ℕ). IsTwin list i t) (sym e) last)
]
