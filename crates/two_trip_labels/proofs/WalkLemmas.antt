-- Labels that fall.
use Rattle.std.proofs.Common.{◌≡◌, ℕ, ◌+◌, ◌<◌, ◌≤◌, ◌⊎◌, inl, inr, List, length, refl, sym, subst, ◌∙◌, arith}
use Rattle.std.specs.Prelude.{slice_index}
use Rattle.move_model.specs.Shortcut.{IsLess}
use Rattle.std.proofs.lemmas.Bool.{cases_lt}
use Rattle.pareto_laws.proofs.Lexicographic.{IsLess-irreflexive}
use Rattle.piece_laws.specs.declared.labels.Ready.{Ready}
use Rattle.piece_laws.specs.Pieces.{ready_entries}
use Rattle.piece_laws.proofs.Entries.{not_less-trans}
use Rattle.two_trip_rides.specs.Second.{ready_at}
use Rattle.two_trip_labels.specs.Walks.{ReadyFall, AreCuts, walked_label, IsWalkLabel, IsWalkedTo}

pub ready_none : (xs : List Ready) → ReadyFall xs xs
ready_none xs = record { as_many = refl; each = λ p. IsLess-irreflexive (ready_entries (ready_at xs p)) }

pub ready_on : (xs ys zs : List Ready) → ReadyFall xs ys → ReadyFall ys zs → ReadyFall xs zs
ready_on xs ys zs f g = record {
  as_many = g.as_many ∙ f.as_many;
  each = λ p. not_less-trans (ready_entries (ready_at zs p)) (ready_entries (ready_at ys p)) (ready_entries (ready_at xs p)) refl (g.each p) (f.each p);
}

pub walked_falls : (row foot : List ℕ) (z a1 c : ℕ) (xs ys : List Ready) (p : ℕ) → ReadyFall xs ys → IsWalkedTo row foot z a1 c xs p → IsWalkedTo row foot z a1 c ys p
walked_falls row foot z a1 c xs ys p falls was low = elim (was low) [
  | inl f ↦ inl f
  | inr l ↦ inr (not_less-trans (ready_entries (ready_at ys p)) (ready_entries (ready_at xs p)) (ready_entries (walked_label row a1 c p)) refl (falls.each p) l)
]

pub walked_more : (row foot : List ℕ) (z a1 c : ℕ) (xs ys : List Ready) (m : ℕ) → ReadyFall xs ys → ((p : ℕ) → p < m → IsWalkedTo row foot z a1 c xs p)
    → IsWalkedTo row foot z a1 c ys m → (p : ℕ) → p < m + 1 → IsWalkedTo row foot z a1 c ys p
walked_more row foot z a1 c xs ys m falls was this p low = elim (cases_lt p m) [
  | inl l ↦ walked_falls row foot z a1 c xs ys p falls (was p l)
  | inr g ↦ subst (λ (k : ℕ). IsWalkedTo row foot z a1 c ys k) (let e : m ≡ p = omega arith in e) this
]

pub changed_on : (row : List ℕ) (a1 c : ℕ) (xs ys zs : List Ready) (p : ℕ) → (ready_at ys p ≡ ready_at xs p) ⊎ IsWalkLabel row a1 c p (ready_at ys p)
    → (ready_at zs p ≡ ready_at ys p) ⊎ IsWalkLabel row a1 c p (ready_at zs p) → (ready_at zs p ≡ ready_at xs p) ⊎ IsWalkLabel row a1 c p (ready_at zs p)
changed_on row a1 c xs ys zs p before (inr new) = inr new
changed_on row a1 c xs ys zs p (inl old) (inl same) = inl (same ∙ old)
changed_on row a1 c xs ys zs p (inr was) (inl same) = inr (subst (λ (l : Ready). IsWalkLabel row a1 c p l) (sym same) was)

-- a label that isn't greater has no greater second
fallen : (l m : Ready) → ¬ (IsLess (ready_entries l) (ready_entries m)) → m.ready ≤ l.ready
fallen l m low = elim (cases_lt l.ready m.ready) [ inl less ↦ absurd (low (inl less)) | inr g ↦ omega arith ]

pub cuts_last : (foot : List ℕ) (z : ℕ) (ready ready' : List Ready) (cuts : List ℕ) → ReadyFall ready ready' → AreCuts foot z ready cuts → AreCuts foot z ready' cuts
cuts_last foot z ready ready' cuts falls are = record {
  as_many = are.as_many ∙ sym falls.as_many;
  each = λ p a within late. elim (are.each p a (omega (arith, within, falls.as_many)) late) [
    | inl f ↦ inl f
    | inr l ↦ inr (omega (arith, l, fallen (ready_at ready p) (ready_at ready' p) (falls.each p)))
  ];
}

pub walked_cut : (row foot : List ℕ) (z a1 c : ℕ) (ready : List Ready) (cuts : List ℕ) (p : ℕ) → AreCuts foot z ready cuts → p < length ready
    → slice_index cuts p < a1 + slice_index row p → IsWalkedTo row foot z a1 c ready p
walked_cut row foot z a1 c ready cuts p are within late soon = elim (are.each p (a1 + slice_index row p) within late) [
  | inl f ↦ inl f
  | inr l ↦ inr (not_less (ready_at ready p) l)
]
  where
    not_less : (m : Ready) → m.ready < a1 + slice_index row p → ¬ (IsLess (ready_entries (walked_label row a1 c p)) (ready_entries m))
    not_less m low (inl l) = omega (arith, low, l)
    not_less m low (inr (e, l)) = omega (arith, low, e)

pub walked_some : (row foot : List ℕ) (z a1 c : ℕ) (xs ys : List Ready) (from m : ℕ) → ReadyFall xs ys → ((p : ℕ) → from ≤ p → p < m → IsWalkedTo row foot z a1 c xs p)
    → IsWalkedTo row foot z a1 c ys m → (p : ℕ) → from ≤ p → p < m + 1 → IsWalkedTo row foot z a1 c ys p
walked_some row foot z a1 c xs ys from m falls was this p above low = elim (cases_lt p m) [
  | inl l ↦ walked_falls row foot z a1 c xs ys p falls (was p above l)
  | inr g ↦ subst (λ (k : ℕ). IsWalkedTo row foot z a1 c ys k) (let e : m ≡ p = omega arith in e) this
]

pub walked_block : (row foot : List ℕ) (z a1 c : ℕ) (xs ys : List Ready) (from to : ℕ) → ReadyFall xs ys → ((p : ℕ) → p < from → IsWalkedTo row foot z a1 c xs p)
    → ((p : ℕ) → from ≤ p → p < to → IsWalkedTo row foot z a1 c ys p) → (p : ℕ) → p < to → IsWalkedTo row foot z a1 c ys p
walked_block row foot z a1 c xs ys from to falls was these p low = elim (cases_lt p from) [
  | inl l ↦ walked_falls row foot z a1 c xs ys p falls (was p l)
  | inr g ↦ these p (omega arith) low
]
