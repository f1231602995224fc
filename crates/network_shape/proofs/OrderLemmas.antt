-- Arcs in their order, from the vertex where they begin and then that at their end.
use Rattle.std.proofs.Common.{◌≡◌, ◌∙◌, ℕ, zero, suc, ◌+◌, ◌-◌, ◌<◌, ◌≤◌, List, length, Contains, refl, sym, ap, subst, inl, inr, arith}
use Rattle.std.specs.Prelude.{slice_index_or}
use Rattle.std.proofs.lemmas.Bool.{cases_lt}
use Rattle.std.proofs.lemmas.List.{get_or_default}
use Rattle.move_model.specs.declared.network.NodeNo.{NodeNo}
use Rattle.walk_hierarchy.specs.declared.arcs.UpDown.{UpDown}
use Rattle.walk_hierarchy.specs.Hierarchy.{IsBefore, HasArc}
use Rattle.network_rules.specs.Rules.{AreInOrder}
use Rattle.network_shape.specs.Search.{HasEnds, IsEarlier, IsBetween, StandsAt, HasNone}

-- an arc of zeros
abbrev pub no_arc : UpDown
no_arc = record { from = record { 0 = 0 }; to = record { 0 = 0 }; seconds = 0; middle = record { 0 = 0 } }

trans : (x y : UpDown) (from to : NodeNo) → IsBefore x y → IsEarlier y from to → IsEarlier x from to
trans x y from to (inl lt) (inl mt) = inl (omega arith)
trans x y from to (inl lt) (inr mt) = inl (omega (arith, mt.0))
trans x y from to (inr lt) (inl mt) = inl (omega (arith, lt.0))
trans x y from to (inr lt) (inr mt) = inr (omega (arith, lt.0, mt.0), omega (arith, lt.1, mt.1))

far : (arcs : List UpDown) → AreInOrder arcs → (n i j : ℕ) (d : UpDown) → j ≡ i + n + 1 → j < length arcs → IsBefore (slice_index_or arcs i d) (slice_index_or arcs j d)
far arcs rises zero i j d e lt =
    subst (λ (k : ℕ). IsBefore (slice_index_or arcs i d) (slice_index_or arcs k d)) (sym (let f : j ≡ i + 1 = omega arith in f)) (rises i d (omega arith))
far arcs rises (suc n) i j d e lt =
    let one : IsBefore (slice_index_or arcs i d) (slice_index_or arcs (i + n + 1) d) = far arcs rises n i (i + n + 1) d refl (omega arith) in
    let two : IsBefore (slice_index_or arcs (i + n + 1) d) (slice_index_or arcs (i + n + 1 + 1) d) = rises (i + n + 1) d (omega arith) in
    let to : UpDown = slice_index_or arcs (i + n + 1 + 1) d in
    subst (λ (k : ℕ). IsBefore (slice_index_or arcs i d) (slice_index_or arcs k d)) (sym (let f : j ≡ i + n + 1 + 1 = omega arith in f))
    (trans (slice_index_or arcs i d) (slice_index_or arcs (i + n + 1) d) to.from to.to one two)

rises : (arcs : List UpDown) → AreInOrder arcs → (i j : ℕ) (d : UpDown) → i < j → j < length arcs → IsBefore (slice_index_or arcs i d) (slice_index_or arcs j d)
rises arcs in_order i j d lt within = far arcs in_order (j - i - 1) i j d (omega arith) within

-- whatever stands past the end
at_any : (arcs : List UpDown) (P : UpDown → Type 0) (k : ℕ) (d e : UpDown) → k < length arcs → P (slice_index_or arcs k d) → P (slice_index_or arcs k e)
at_any arcs P k d e lt h = subst P (get_or_default arcs k d e lt) h

pub upper : (arcs : List UpDown) (from to : NodeNo) (low half high : ℕ) (d : UpDown) → AreInOrder arcs → IsBetween arcs from to low high → low ≤ half → half < high
    → IsEarlier (slice_index_or arcs half d) from to → IsBetween arcs from to (half + 1) high
upper arcs from to low half high d in_order h above below before = record {
  order = omega arith;
  within = h.within;
  before = λ k e lt.
      let at_half : IsEarlier (slice_index_or arcs half e) from to = at_any arcs (λ (x : UpDown). IsEarlier x from to) half d e (omega (arith, h.within)) before in
      elim (cases_lt k half) [
        | inl earlier ↦ trans (slice_index_or arcs k e) (slice_index_or arcs half e) from to (rises arcs in_order k half e earlier (omega (arith, h.within))) at_half
        | inr later ↦
            let here : half ≡ k = omega arith in
            subst (λ (n : ℕ). IsEarlier (slice_index_or arcs n e) from to) here at_half
      ];
  behind = h.behind;
}

pub lower : (arcs : List UpDown) (from to : NodeNo) (low half high : ℕ) (d : UpDown) → AreInOrder arcs → IsBetween arcs from to low high → low ≤ half → half < high
    → ¬ (IsEarlier (slice_index_or arcs half d) from to) → IsBetween arcs from to low half
lower arcs from to low half high d in_order h above below not = record {
  order = above;
  within = omega (arith, h.within);
  before = h.before;
  behind = λ k e le within before.
      let at_half : ¬ (IsEarlier (slice_index_or arcs half e) from to) = at_any arcs (λ (x : UpDown). ¬ (IsEarlier x from to)) half d e (omega (arith, h.within)) not in
      elim (cases_lt half k) [
        | inl later ↦ at_half (trans (slice_index_or arcs half e) (slice_index_or arcs k e) from to (rises arcs in_order half k e later within) before)
        | inr earlier ↦
            let here : k ≡ half = omega arith in
            at_half (subst (λ (n : ℕ). IsEarlier (slice_index_or arcs n e) from to) here before)
      ];
}

not_equal : (x : UpDown) (from to : NodeNo) → IsEarlier x from to → HasEnds x from to → ⊥
not_equal x from to (inl lt) ends = omega (arith, ends.0)
not_equal x from to (inr lt) ends = omega (arith, ends.1, lt.1)

before_ends : (x y : UpDown) (from to : NodeNo) → IsBefore x y → HasEnds y from to → IsEarlier x from to
before_ends x y from to (inl lt) ends = inl (omega (arith, ends.0))
before_ends x y from to (inr lt) ends = inr (omega (arith, lt.0, ends.0), omega (arith, lt.1, ends.1))

-- an arc with these ends stands at the place where the earlier ones end
stands_at : (arcs : List UpDown) (from to : NodeNo) (at k : ℕ) (d : UpDown) → AreInOrder arcs → IsBetween arcs from to at at → k < length arcs → HasEnds (slice_index_or arcs k d) from to → k ≡ at
stands_at arcs from to at k d in_order h within ends =
    elim (cases_lt k at) [
      | inl lt ↦ absurd (not_equal (slice_index_or arcs k d) from to (h.before k d lt) ends)
      | inr ge ↦ elim (cases_lt at k) [
        | inl more ↦ absurd (h.behind at d (omega arith) (omega arith) (before_ends (slice_index_or arcs at d) (slice_index_or arcs k d) from to (rises arcs in_order at k d more within) ends))
        | inr same ↦ omega arith
      ]
    ]

pub none_at : (arcs : List UpDown) (from to : NodeNo) (at : ℕ) (d : UpDown) → AreInOrder arcs → IsBetween arcs from to at at → (at < length arcs → ¬ (HasEnds (slice_index_or arcs at d) from to)) → HasNone arcs from to
none_at arcs from to at d in_order h not = λ k e lt ends.
    let here : k ≡ at = stands_at arcs from to at k e in_order h lt ends in
    let there : HasEnds (slice_index_or arcs at e) from to = subst (λ (n : ℕ). HasEnds (slice_index_or arcs n e) from to) here ends in
    let low : at < length arcs = omega arith in
    not low (at_any arcs (λ (x : UpDown). HasEnds x from to) at e d low there)

pub found_at : (arcs : List UpDown) (from to : NodeNo) (at : ℕ) (d : UpDown) → at < length arcs → HasEnds (slice_index_or arcs at d) from to → StandsAt arcs from to at
found_at arcs from to at d within ends = record { within = within; ends = λ e. at_any arcs (λ (x : UpDown). HasEnds x from to) at d e within ends }

-- no other arc has the same ends
pub one_place : (arcs : List UpDown) (from to : NodeNo) (i j : ℕ) (d : UpDown) → AreInOrder arcs → StandsAt arcs from to i → j < length arcs → HasEnds (slice_index_or arcs j d) from to → j ≡ i
one_place arcs from to i j d in_order at within ends =
    elim (cases_lt i j) [
      | inl lt ↦ absurd (not_equal (slice_index_or arcs i d) from to (before_ends (slice_index_or arcs i d) (slice_index_or arcs j d) from to (rises arcs in_order i j d lt within) ends) (at.ends d))
      | inr ge ↦ elim (cases_lt j i) [
        | inl more ↦ absurd (not_equal (slice_index_or arcs j d) from to (before_ends (slice_index_or arcs j d) (slice_index_or arcs i d) from to (rises arcs in_order j i d more at.within) (at.ends d)) ends)
        | inr same ↦ omega arith
      ]
    ]

-- an arc by its numbers
with_numbers : (x : UpDown) (from to : NodeNo) → HasEnds x from to → x ≡ record { from = record { 0 = from.0 }; to = record { 0 = to.0 }; seconds = x.seconds; middle = x.middle }
with_numbers x from to ends =
    ap (λ (n : ℕ). let y : UpDown = record { from = record { 0 = n }; to = x.to; seconds = x.seconds; middle = x.middle } in y) ends.0
    ∙ ap (λ (n : ℕ). let y : UpDown = record { from = record { 0 = from.0 }; to = record { 0 = n }; seconds = x.seconds; middle = x.middle } in y) ends.1

pub has_arc : (arcs : List UpDown) (from to : NodeNo) (at : ℕ) (d : UpDown) → StandsAt arcs from to at → HasArc arcs from.0 to.0 (slice_index_or arcs at d).seconds
has_arc arcs from to at d h =
    let x : UpDown = slice_index_or arcs at d in
    let stands : Contains arcs x = (at, h.within, get_or_default arcs at x d h.within) in
    (x.middle, subst (Contains arcs) (with_numbers x from to (h.ends d)) stands)

pub only_arc : (arcs : List UpDown) (from to : NodeNo) (at : ℕ) (d : UpDown) (l : ℕ) → AreInOrder arcs → StandsAt arcs from to at → HasArc arcs from.0 to.0 l → l ≡ (slice_index_or arcs at d).seconds
only_arc arcs from to at d l in_order h (middle, (k, lt, is)) =
    let arc : UpDown = record { from = record { 0 = from.0 }; to = record { 0 = to.0 }; seconds = l; middle = middle } in
    let here : k ≡ at = one_place arcs from to at k arc in_order h lt (ap (λ (x : UpDown). x.from.0) is, ap (λ (x : UpDown). x.to.0) is) in
    let there : slice_index_or arcs at d ≡ arc = get_or_default arcs at d arc h.within ∙ subst (λ (n : ℕ). slice_index_or arcs n arc ≡ arc) here is in
    sym (ap (λ (x : UpDown). x.seconds) there)

pub no_arc_between : (arcs : List UpDown) (from to : NodeNo) (l : ℕ) → HasNone arcs from to → HasArc arcs from.0 to.0 l → ⊥
no_arc_between arcs from to l none (middle, (k, lt, is)) =
    let arc : UpDown = record { from = record { 0 = from.0 }; to = record { 0 = to.0 }; seconds = l; middle = middle } in
    none k arc lt (ap (λ (x : UpDown). x.from.0) is, ap (λ (x : UpDown). x.to.0) is)
