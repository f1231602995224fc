-- The entries of a stop, one settled vertex on.
use Rattle.std.proofs.Common.{◌≡◌, ◌≢◌, ◌∙◌, ◌+◌, ◌<◌, ◌≤◌, ◌⊎◌, ◌↔◌, ℕ, List, [], ◌∷◌, ◌++◌, Option, length, take, get_or, refl, sym, ap, subst, inl, inr, arith}
use Rattle.std.specs.Prelude.{All, AllPairs, Contains}
use Rattle.std.proofs.lemmas.List.{get_or-take, get_or_default, length-take-le, take_all}
use Rattle.std.proofs.lemmas.List.Elements.{Contains-get_or, Contains-push, Contains-push_cases, Contains-append_left, All-contains}
use Rattle.std.proofs.lemmas.List.Quantifiers.{all_pairs_push}
use Rattle.move_model.specs.declared.network.StopNo.{StopNo}
use Rattle.walk_hierarchy.specs.declared.settled.Settled.{Settled}
use Rattle.bucket_walks.specs.declared.bucket.Bucket.{Bucket}
use Rattle.bucket_walks.specs.declared.bypasses.Bypass.{Bypass}
use Rattle.bucket_walks.specs.Gathered.{IsDirect, IsKept, IsApart, AreApart}
use Rattle.bucket_walks.proofs.ListLemmas.{taken_cases, taken_before, taken_last, none_taken}

abbrev pub entry_of : StopNo → Settled → Bucket
entry_of stop there = record { node = there.node; stop = stop; seconds = there.seconds }

abbrev there_of : Bucket → Settled
there_of entry = record { node = entry.node; seconds = entry.seconds }

-- the list has the entries that stood in it, and those of the first settled vertices
pub record AreKept (stop : StopNo) (settled : List Settled) (arcs : List Bypass) (marks : List (Option ℕ)) (old list : List Bucket) : Type 0 where
  pub entries : (entry : Bucket) → Contains list entry ↔ (Contains old entry ⊎ IsKept stop settled arcs marks entry)

pub kept_none : (stop : StopNo) (settled : List Settled) (arcs : List Bypass) (marks : List (Option ℕ)) (old : List Bucket) → AreKept stop (take 0 settled) arcs marks old old
kept_none stop settled arcs marks old = record {
  entries = λ entry. (λ has. inl has, λ either. elim either [ inl was ↦ was | inr kept ↦ absurd (none_taken settled (there_of entry) kept.comes) ]);
}

module _ (stop : StopNo) (settled : List Settled) (arcs : List Bypass) (marks : List (Option ℕ)) (old list : List Bucket) (i : ℕ) (x : Settled)
    (lt : i < length settled) (is : x ≡ get_or settled i x) (are : AreKept stop (take i settled) arcs marks old list) where
  kept_cases : (entry : Bucket) → IsKept stop (take (i + 1) settled) arcs marks entry
      → IsKept stop (take i settled) arcs marks entry ⊎ ((entry_of stop x ≡ entry) × IsDirect arcs marks x)
  kept_cases entry kept = elim (taken_cases settled i x (there_of entry) lt is kept.comes) [
    | inl before ↦ inl (record { stop_is = kept.stop_is; comes = before; direct = kept.direct })
    | inr e ↦
        inr (
          ap (λ (there : Settled). entry_of stop there) e ∙ ap (λ (s : StopNo). record { node = entry.node; stop = s; seconds = entry.seconds }) (sym kept.stop_is),
          subst (λ (there : Settled). IsDirect arcs marks there) (sym e) kept.direct,
        )
  ]

  kept_before : (entry : Bucket) → IsKept stop (take i settled) arcs marks entry → IsKept stop (take (i + 1) settled) arcs marks entry
  kept_before entry kept = record { stop_is = kept.stop_is; comes = taken_before settled i x (there_of entry) lt is kept.comes; direct = kept.direct }

  pub kept_pushed : IsDirect arcs marks x → AreKept stop (take (i + 1) settled) arcs marks old (list ++ entry_of stop x ∷ [])
  kept_pushed direct = record {
    entries = λ entry. (
      λ has. elim (Contains-push_cases list (entry_of stop x) entry has) [
        | inl had ↦ elim ((are.entries entry).0 had) [ inl was ↦ inl was | inr kept ↦ inr (kept_before entry kept) ]
        | inr e ↦
            inr (subst (λ (b : Bucket). IsKept stop (take (i + 1) settled) arcs marks b) e
            (record { stop_is = refl; comes = taken_last settled i x lt is; direct = direct }))
      ],
      λ either. elim either [
        | inl was ↦ Contains-append_left list (entry_of stop x ∷ []) entry ((are.entries entry).1 (inl was))
        | inr kept ↦ elim (kept_cases entry kept) [
          | inl before ↦ Contains-append_left list (entry_of stop x ∷ []) entry ((are.entries entry).1 (inr before))
          | inr here ↦ subst (λ (b : Bucket). Contains (list ++ entry_of stop x ∷ []) b) here.0 (Contains-push list (entry_of stop x))
        ]
      ],
    );
  }

  pub kept_passed : (IsDirect arcs marks x → ⊥) → AreKept stop (take (i + 1) settled) arcs marks old list
  kept_passed indirect = record {
    entries = λ entry. (
      λ has. elim ((are.entries entry).0 has) [ inl was ↦ inl was | inr kept ↦ inr (kept_before entry kept) ],
      λ either. elim either [
        | inl was ↦ (are.entries entry).1 (inl was)
        | inr kept ↦ elim (kept_cases entry kept) [
          | inl before ↦ (are.entries entry).1 (inr before)
          | inr here ↦ absurd (indirect here.1)
        ]
      ],
    );
  }

  module _ (once : AllPairs (λ there other. there.node ≢ other.node) settled) (earlier : All (λ entry. entry.stop.0 < stop.0) old) where
    apart_from : (entry : Bucket) → Contains list entry → IsApart entry (entry_of stop x)
    apart_from entry has same_node same_stop = elim ((are.entries entry).0 has) [
      | inl was ↦
          absurd (omega (arith, All-contains (λ (b : Bucket). b.stop.0 < stop.0) old entry earlier was, ap (λ (s : StopNo). s.0) same_stop))
      | inr kept ↦
          let j = kept.comes.0 in
          let low : j < i = omega (arith, kept.comes.1, length-take-le i settled (omega arith)) in
          let there : get_or settled j x ≡ there_of entry =
          sym (get_or-take i settled j x low) ∙ get_or_default (take i settled) j x (there_of entry) kept.comes.1 ∙ kept.comes.2 in
          once j i x low lt (ap (λ (t : Settled). t.node) there ∙ same_node ∙ ap (λ (t : Settled). t.node) is)
    ]

    pub apart_pushed : AreApart list → AreApart (list ++ entry_of stop x ∷ [])
    apart_pushed apart = all_pairs_push IsApart list (entry_of stop x) apart (λ k d low. apart_from (get_or list k d) (Contains-get_or list k d low))

pub kept_all : (stop : StopNo) (settled : List Settled) (arcs : List Bypass) (marks : List (Option ℕ)) (old list : List Bucket) (i : ℕ) → length settled ≤ i
    → AreKept stop (take i settled) arcs marks old list → (entry : Bucket) → Contains list entry ↔ (Contains old entry ⊎ IsKept stop settled arcs marks entry)
kept_all stop settled arcs marks old list i le are =
    (subst (λ (all : List Settled). AreKept stop all arcs marks old list) (take_all i settled le) are).entries
