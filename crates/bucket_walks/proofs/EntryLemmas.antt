-- The entries of the first stops, and one stop on.
use Rattle.std.proofs.Common.{◌≡◌, ◌∙◌, ◌+◌, ◌<◌, ◌≤◌, ◌⊎◌, ◌↔◌, ℕ, List, Option, Some, length, get_or, sym, ap, subst, inl, inr, arith}
use Rattle.std.specs.Prelude.{All, Contains, slice_get}
use Rattle.std.proofs.lemmas.Bool.{cases_eq}
use Rattle.std.specs.List.Sorted.{IsPermutation, IsNonDecreasingBy}
use Rattle.std.proofs.lemmas.List.Elements.{Contains-get_or}
use Rattle.std.proofs.lemmas.List.Sorted.{IsPermutation-sym, Contains-permutation}
use Rattle.std.proofs.lemmas.Option.{slice_get_within, get_or_from_slice_get}
use Rattle.move_model.specs.declared.network.Stop.{Stop}
use Rattle.move_model.specs.declared.network.StopNo.{StopNo}
use Rattle.walk_hierarchy.specs.Hierarchy.{Parts, IsNode, IsHierarchy}
use Rattle.bucket_walks.specs.declared.bucket.Bucket.{Bucket}
use Rattle.bucket_walks.specs.declared.bypasses.Side.{Side}
use Rattle.bucket_walks.specs.Buckets.{IsBucket, AreBuckets}
use Rattle.bucket_walks.specs.Gathered.{IsNeededAt, IsEntryOf, IsEntryAt, AreEntries, AreApart, key_of}
use Rattle.bucket_walks.proofs.KeptLemmas.{sums_node}
use Rattle.bucket_walks.proofs.OrderLemmas.{apart_permutation, in_order}

pub record IsEntryBefore (side : Side) (h : Parts) (stops : List Stop) (n : ℕ) (entry : Bucket) : Type 0 where
  pub is : IsEntryAt side h stops entry
  pub before : entry.stop.0 < n

module _ (side : Side) (h : Parts) (stops : List Stop) where
  some_same : (a b : Stop) → ◌≡◌ {A = Option Stop} (Some a) (Some b) → a ≡ b
  some_same a b e = cc

  entry_more : (n : ℕ) (stop : Stop) (entry : Bucket) → slice_get stops n ≡ Some stop → IsEntryBefore side h stops (n + 1) entry
      → IsEntryBefore side h stops n entry ⊎ IsEntryOf side h (record { 0 = n }) stop.node.0 entry
  entry_more n stop entry at early = elim (cases_eq entry.stop.0 n) [
    | inl e ↦
        let is = early.is in
        let same : is.stop ≡ stop = some_same is.stop stop (sym is.stands ∙ ap (slice_get stops) e ∙ at) in
        inr (record {
          stop_is = ap (λ k. record { 0 = k }) e;
          needed = subst (λ (s : Stop). IsNeededAt side h s.node.0 entry.node.0 entry.seconds) same is.needed;
        })
    | inr ne ↦ inl (record { is = early.is; before = omega (arith, early.before, ne) })
  ]

  entry_here : (n : ℕ) (stop : Stop) (entry : Bucket) → slice_get stops n ≡ Some stop → IsEntryOf side h (record { 0 = n }) stop.node.0 entry
      → IsEntryBefore side h stops (n + 1) entry
  entry_here n stop entry at of =
      let e : entry.stop.0 ≡ n = ap (λ (s : StopNo). s.0) of.stop_is in
      record { is = record { stop = stop; stands = ap (slice_get stops) e ∙ at; needed = of.needed }; before = omega arith }

  -- the entries of one stop more
  pub entries_more : (old new : List Bucket) (n : ℕ) (stop : Stop) → slice_get stops n ≡ Some stop
      → ((entry : Bucket) → Contains old entry ↔ IsEntryBefore side h stops n entry)
      → ((entry : Bucket) → Contains new entry ↔ (Contains old entry ⊎ IsEntryOf side h (record { 0 = n }) stop.node.0 entry))
      → (entry : Bucket) → Contains new entry ↔ IsEntryBefore side h stops (n + 1) entry
  entries_more old new n stop at before more entry = (
    λ has. elim ((more entry).0 has) [
      | inl was ↦ let early = (before entry).0 was in record { is = early.is; before = omega (arith, early.before) }
      | inr here ↦ entry_here n stop entry at here
    ],
    λ early. (more entry).1 (elim (entry_more n stop entry at early) [ inl was ↦ inl ((before entry).1 was) | inr here ↦ inr here ]),
  )

  pub entries_earlier : (list : List Bucket) (n : ℕ) → ((entry : Bucket) → Contains list entry ↔ IsEntryBefore side h stops n entry)
      → All (λ entry. entry.stop.0 < n) list
  entries_earlier list n are = λ k d low. ((are (get_or list k d)).0 (Contains-get_or list k d low)).before

  pub entries_all : (list : List Bucket) → ((entry : Bucket) → Contains list entry ↔ IsEntryBefore side h stops (length stops) entry) → AreEntries side h stops list
  entries_all list are entry = (
    λ has. ((are entry).0 has).is,
    λ is. (are entry).1 (record { is = is; before = slice_get_within stops entry.stop.0 is.stop is.stands }),
  )

  -- entries keep the rules
  pub each_bucket : (list : List Bucket) → IsHierarchy h → All (λ stop. IsNode h stop.node) stops → AreEntries side h stops list
      → All (IsBucket (length h.ranks) (length stops)) list
  each_bucket list rules stand are = λ k d low.
      let entry = get_or list k d in
      let is : IsEntryAt side h stops entry = (are entry).0 (Contains-get_or list k d low) in
      let within : entry.stop.0 < length stops = slice_get_within stops entry.stop.0 is.stop is.stands in
      let at : IsNode h is.stop.node = subst (λ (s : Stop). IsNode h s.node) (get_or_from_slice_get stops entry.stop.0 is.stop is.stop is.stands) (stand entry.stop.0 is.stop within) in
      let node : IsNode h entry.node = sums_node side h is.stop.node.0 entry.node.0 entry.seconds rules at is.needed.least.attained in
      record { from_one = node.from_one; to_nodes = node.to_nodes; stop = within; short = is.needed.short }

  -- in another order
  pub entries_moved : (list after : List Bucket) → IsPermutation list after → AreEntries side h stops list → AreEntries side h stops after
  entries_moved list after moved are entry = (
    λ has. (are entry).0 (Contains-permutation after list entry (IsPermutation-sym list after moved) has),
    λ is. Contains-permutation list after entry moved ((are entry).1 is),
  )

  pub rules_of : IsHierarchy h → All (λ stop. IsNode h stop.node) stops → length stops ≤ 200000 → (list after : List Bucket) → IsPermutation list after
      → AreEntries side h stops list → AreApart list → IsNonDecreasingBy key_of after → AreBuckets (length h.ranks) (length stops) after
  rules_of rules stand few list after moved are apart rise =
      let each : All (IsBucket (length h.ranks) (length stops)) after = each_bucket after rules stand (entries_moved list after moved are) in
      record {
        each = each;
        in_order = in_order after (apart_permutation list after moved apart) rise (λ k d low. omega (arith, (each k d low).stop));
      }
