-- Ranks that were seen.
--     AreSeen ranks seen i       the marks are those of the first i ranks, each of which stands once
use Rattle.std.proofs.Common.{◌≡◌, ◌∙◌, ℕ, ◌+◌, ◌<◌, ◌≤◌, Bool, true, false, List, [], ◌∷◌, ◌++◌, length, take, get_or, refl, sym, ap, subst, inl, inr, ◌⊎◌, arith}
use Rattle.std.specs.Prelude.{◌≢◌, All, AllPairs, slice_set}
use Rattle.std.proofs.lemmas.Bool.{cases_eq}
use Rattle.std.proofs.lemmas.List.{take_all, take_more, length-set, length-take, get_or-take, get_or-set_same, get_or-set_other, get_or_default}
use Rattle.std.proofs.lemmas.List.Elements.{All-more}
use Rattle.std.proofs.lemmas.List.Quantifiers.{all_pairs_push}
use Rattle.walk_hierarchy.specs.Hierarchy.{AreRanks}

pub record AreSeen (ranks : List ℕ) (seen : List Bool) (i : ℕ) : Type 0 where
  pub many : length seen ≡ length ranks
  pub below : All (λ rank. rank < length ranks) (take i ranks)
  pub once : AllPairs (λ rank other. rank ≢ other) (take i ranks)
  pub marked : (j : ℕ) → j < i → get_or seen (get_or ranks j 0) false ≡ true
  pub met : (rank : ℕ) → get_or seen rank false ≡ true → (j : ℕ) × ((j < i) × (get_or ranks j 0 ≡ rank))

pub seen-more : (ranks : List ℕ) (seen : List Bool) (i rank : ℕ) → i < length ranks → get_or ranks i 0 ≡ rank → rank < length seen → get_or seen rank false ≡ false
    → AreSeen ranks seen i → AreSeen ranks (slice_set seen rank true) (i + 1)
seen-more ranks seen i rank within is low fresh old = record {
  many = length-set seen rank true ∙ old.many;
  below = All-more (λ (r : ℕ). r < length ranks) ranks i 0 within old.below (omega (arith, old.many));
  once = rw (take_more ranks i 0 within, is) (all_pairs_push (λ (r s : ℕ). r ≢ s) (take i ranks) rank old.once
      (λ k d lt same.
      let earlier : k < i = omega (arith, length-take i ranks) in
      let there : get_or (take i ranks) k d ≡ get_or ranks k 0 = get_or-take i ranks k d earlier ∙ get_or_default ranks k d 0 (omega (arith, length-take i ranks)) in
      let mark : get_or seen rank false ≡ true = subst (λ (r : ℕ). get_or seen r false ≡ true) (sym there ∙ same) (old.marked k earlier) in
      absurd cc));
  marked = λ j lt. elim (cases_eq (get_or ranks j 0) rank) [
    | inl same ↦ rw same (get_or-set_same seen rank true false low)
    | inr other ↦
        let earlier : j < i = elim (cases_eq j i) [
          | inl here ↦ absurd (other (rw here is))
          | inr not ↦ omega (arith, not)
        ] in
        get_or-set_other seen rank (get_or ranks j 0) true false other ∙ old.marked j earlier
  ];
  met = λ r mark. elim (cases_eq r rank) [
    | inl same ↦ (i, (omega arith, is ∙ sym same))
    | inr other ↦
        let before = old.met r (sym (get_or-set_other seen rank r true false other) ∙ mark) in
        (before.0, (omega (arith, before.1.0), before.1.1))
  ];
}

pub all-seen : (ranks : List ℕ) (seen : List Bool) (i : ℕ) → length ranks ≤ i → AreSeen ranks seen i → AreRanks ranks
all-seen ranks seen i end h = record {
  below = subst (All (λ (rank : ℕ). rank < length ranks)) (take_all i ranks end) h.below;
  once = subst (AllPairs (λ (rank other : ℕ). rank ≢ other)) (take_all i ranks end) h.once;
}

-- a rank that was met before
pub seen-twice : (ranks : List ℕ) (seen : List Bool) (i : ℕ) → i < length ranks → AreSeen ranks seen i → get_or seen (get_or ranks i 0) false ≡ true → AreRanks ranks → ⊥
seen-twice ranks seen i within h mark are =
    let before = h.met (get_or ranks i 0) mark in
    are.once before.0 i 0 before.1.0 within before.1.1
