-- Marks, one settled vertex on.
use Rattle.std.proofs.Common.{◌≡◌, ◌∙◌, ◌+◌, ◌<◌, ℕ, List, [], Option, Some, None, length, take, get_or, set, refl, sym, ap, subst, inl, inr, arith}
use Rattle.std.specs.Prelude.{Contains}
use Rattle.std.proofs.lemmas.Bool.{cases_eq}
use Rattle.std.proofs.lemmas.List.{get_or-set_same, get_or-set_other}
use Rattle.walk_hierarchy.specs.declared.settled.Settled.{Settled}
use Rattle.bucket_walks.specs.Gathered.{AreMarked, HasOneEach, IsUnmarked}
use Rattle.bucket_walks.proofs.ListLemmas.{taken_cases, taken_before, taken_last, taken_from}

some_same : (a b : ℕ) → ◌≡◌ {A = Option ℕ} (Some a) (Some b) → a ≡ b
some_same a b e = cc

none_some : (m : ℕ) → ◌≡◌ {A = Option ℕ} None (Some m) → ⊥
none_some m e = cc

module _ (settled : List Settled) (marks : List (Option ℕ)) (i : ℕ) (x : Settled) (lt : i < length settled) (is : x ≡ get_or settled i x) (low : x.node.0 < length marks) where
  x_stands : Contains settled x
  x_stands = (i, lt, sym is)

  -- the vertex of x is marked with its seconds
  pub marked_more : HasOneEach settled → AreMarked (take i settled) marks → AreMarked (take (i + 1) settled) (set marks x.node.0 (Some x.seconds))
  marked_more one marked = record {
    all = λ v m has. elim (taken_cases settled i x (record { node = record { 0 = v }; seconds = m }) lt is has) [
      | inl before ↦ elim (cases_eq v x.node.0) [
        | inl e ↦
            let here : Contains settled (record { node = record { 0 = x.node.0 }; seconds = m }) =
            subst (λ (n : ℕ). Contains settled (record { node = record { 0 = n }; seconds = m })) e (taken_from settled i _ (omega arith) before) in
            let same : x.seconds ≡ m = one.one x.node.0 x.seconds m x_stands here in
            ap (λ (n : ℕ). get_or (set marks x.node.0 (Some x.seconds)) n None) e ∙ get_or-set_same marks x.node.0 (Some x.seconds) None low ∙ ap (λ (n : ℕ). Some n) same
        | inr ne ↦ get_or-set_other marks x.node.0 v (Some x.seconds) None ne ∙ marked.all v m before
      ]
      | inr e ↦
          ap (λ (n : ℕ). get_or (set marks x.node.0 (Some x.seconds)) n None) (sym (ap (λ (t : Settled). t.node.0) e))
          ∙ get_or-set_same marks x.node.0 (Some x.seconds) None low
          ∙ ap (λ (t : Settled). Some t.seconds) e
    ];
    only = λ v m held. elim (cases_eq v x.node.0) [
      | inl e ↦
          let same : x.seconds ≡ m =
          some_same x.seconds m (sym (get_or-set_same marks x.node.0 (Some x.seconds) None low) ∙ ap (λ (n : ℕ). get_or (set marks x.node.0 (Some x.seconds)) n None) (sym e) ∙ held) in
          let there : ◌≡◌ {A = Settled} x (record { node = record { 0 = v }; seconds = m }) =
          ap (λ (n : ℕ). record { node = record { 0 = n }; seconds = x.seconds }) (sym e) ∙ ap (λ (n : ℕ). record { node = record { 0 = v }; seconds = n }) same in
          subst (λ (t : Settled). Contains (take (i + 1) settled) t) there (taken_last settled i x lt is)
      | inr ne ↦
          taken_before settled i x _ lt is (marked.only v m (sym (get_or-set_other marks x.node.0 v (Some x.seconds) None ne) ∙ held))
    ];
  }

  pub kept_more : (v m : ℕ) → get_or (set marks x.node.0 None) v None ≡ Some m → get_or marks v None ≡ Some m
  kept_more v m held = elim (cases_eq v x.node.0) [
    | inl e ↦
        absurd (none_some m (sym (get_or-set_same marks x.node.0 None None low) ∙ ap (λ (n : ℕ). get_or (set marks x.node.0 None) n None) (sym e) ∙ held))
    | inr ne ↦ sym (get_or-set_other marks x.node.0 v None None ne) ∙ held
  ]

  gone_here : (v : ℕ) → v ≡ x.node.0 → get_or (set marks x.node.0 None) v None ≡ None
  gone_here v e = ap (λ (n : ℕ). get_or (set marks x.node.0 None) n None) e ∙ get_or-set_same marks x.node.0 None None low

  pub gone_more : ((there : Settled) → Contains (take i settled) there → get_or marks there.node.0 None ≡ None)
      → (there : Settled) → Contains (take (i + 1) settled) there → get_or (set marks x.node.0 None) there.node.0 None ≡ None
  gone_more gone there has = elim (taken_cases settled i x there lt is has) [
    | inl before ↦ elim (cases_eq there.node.0 x.node.0) [
      | inl e ↦ gone_here there.node.0 e
      | inr ne ↦ get_or-set_other marks x.node.0 there.node.0 None None ne ∙ gone there before
    ]
    | inr e ↦ gone_here there.node.0 (sym (ap (λ (t : Settled). t.node.0) e))
  ]

pub none_marked : (marks : List (Option ℕ)) → IsUnmarked marks → AreMarked [] marks
none_marked marks none = record { all = λ v m has. absurd (omega (arith, has.1)); only = λ v m held. absurd (none_some m (sym (none v) ∙ held)) }

none_left_at : (settled : List Settled) (old marks : List (Option ℕ)) (v : ℕ) (r : Option ℕ) → AreMarked settled old
    → ((v m : ℕ) → get_or marks v None ≡ Some m → get_or old v None ≡ Some m)
    → ((there : Settled) → Contains settled there → get_or marks there.node.0 None ≡ None)
    → get_or marks v None ≡ r → r ≡ None
none_left_at settled old marks v None marked kept gone is = refl
none_left_at settled old marks v (Some m) marked kept gone is =
    absurd (none_some m (sym (gone (record { node = record { 0 = v }; seconds = m }) (marked.only v m (kept v m is))) ∙ is))

pub none_left : (settled : List Settled) (old marks : List (Option ℕ)) → AreMarked settled old
    → ((v m : ℕ) → get_or marks v None ≡ Some m → get_or old v None ≡ Some m)
    → ((there : Settled) → Contains settled there → get_or marks there.node.0 None ≡ None) → IsUnmarked marks
none_left settled old marks marked kept gone v = none_left_at settled old marks v (get_or marks v None) marked kept gone refl
