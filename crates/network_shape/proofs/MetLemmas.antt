-- Marks of arcs that have the seconds of a street arc.
use Rattle.std.proofs.Common.{◌≡◌, ◌∙◌, ℕ, ◌+◌, ◌<◌, ◌≤◌, Bool, true, false, List, length, Contains, refl, sym, ap, subst, inl, inr, arith}
use Rattle.std.specs.Prelude.{slice_index_or, slice_set, All}
use Rattle.std.proofs.lemmas.Bool.{cases_lt, cases_eq}
use Rattle.std.proofs.lemmas.List.{get_or_default, length-set, get_or-set_same, get_or-set_other}
use Rattle.move_model.specs.declared.network.NodeNo.{NodeNo}
use Rattle.move_model.specs.declared.network.Arc.{Arc}
use Rattle.walk_hierarchy.specs.declared.arcs.UpDown.{UpDown}
use Rattle.network_rules.specs.Rules.{AreInOrder}
use Rattle.network_shape.specs.Search.{HasEnds, StandsAt}
use Rattle.network_shape.specs.Met.{IsLeastOf, IsStreet, AreMet}
use Rattle.network_shape.proofs.OrderLemmas.{one_place}

-- a street arc of zeros
abbrev pub no_street : Arc
no_street = record { from = record { 0 = 0 }; to = record { 0 = 0 }; seconds = 0 }

node_eq : (a b : NodeNo) → a.0 ≡ b.0 → a ≡ b
node_eq a b e = ap (λ (k : ℕ). let v : NodeNo = record { 0 = k } in v) e

abbrev street_of : UpDown → ℕ → Arc
street_of arc m = record { from = arc.from; to = arc.to; seconds = m }

-- a street arc by the numbers of an arc
street_is : (s : Arc) (arc : UpDown) (m : ℕ) → HasEnds arc s.from s.to → s.seconds ≡ m → s ≡ street_of arc m
street_is s arc m ends seconds =
    ap (λ (v : NodeNo). let x : Arc = record { from = v; to = s.to; seconds = s.seconds } in x) (sym (node_eq arc.from s.from ends.0))
    ∙ ap (λ (v : NodeNo). let x : Arc = record { from = arc.from; to = v; seconds = s.seconds } in x) (sym (node_eq arc.to s.to ends.1))
    ∙ ap (λ (n : ℕ). let x : Arc = record { from = arc.from; to = arc.to; seconds = n } in x) seconds

stands : (streets : List Arc) (i : ℕ) (t : Arc) (arc : UpDown) (m : ℕ) → i < length streets → HasEnds arc (slice_index_or streets i t).from (slice_index_or streets i t).to → (slice_index_or streets i t).seconds ≡ m
    → Contains streets (street_of arc m)
stands streets i t arc m within ends seconds =
    (i, within, get_or_default streets i (street_of arc m) t within ∙ street_is (slice_index_or streets i t) arc m ends seconds)

more : (streets : List Arc) (arcs : List UpDown) (met : List Bool) (i : ℕ) (t : Arc) → i < length streets → AreMet streets arcs met i
    → ((j : ℕ) (d : UpDown) → j < length arcs → IsStreet (slice_index_or arcs j d) (slice_index_or streets i t) → (slice_index_or arcs j d).seconds ≤ (slice_index_or streets i t).seconds)
    → ((j : ℕ) (d : UpDown) → j < length arcs → IsStreet (slice_index_or arcs j d) (slice_index_or streets i t) → (slice_index_or arcs j d).seconds ≡ (slice_index_or streets i t).seconds → slice_index_or met j false ≡ true)
    → AreMet streets arcs met (i + 1)
more streets arcs met i t in_streets h least marked = record {
  one_each = h.one_each;
  attained = h.attained;
  least = λ k j s d lt within. elim (cases_lt k i) [
    | inl earlier ↦ h.least k j s d earlier within
    | inr later ↦
        let P : Arc → Type 0 = λ x. IsStreet (slice_index_or arcs j d) x → (slice_index_or arcs j d).seconds ≤ x.seconds in
        subst P (here k s lt later) (least j d within)
  ];
  marked = λ k j s d lt within. elim (cases_lt k i) [
    | inl earlier ↦ h.marked k j s d earlier within
    | inr later ↦
        let P : Arc → Type 0 = λ x. IsStreet (slice_index_or arcs j d) x → (slice_index_or arcs j d).seconds ≡ x.seconds → slice_index_or met j false ≡ true in
        subst P (here k s lt later) (marked j d within)
  ];
}
  where
    here : (k : ℕ) (s : Arc) → k < i + 1 → i ≤ k → slice_index_or streets i t ≡ slice_index_or streets k s
    here k s lt later = get_or_default streets i t s in_streets ∙ ap (λ (n : ℕ). slice_index_or streets n s) (let f : i ≡ k = omega arith in f)

-- the arcs at the place of a street arc and at another place with the same ends
pub met-added : (streets : List Arc) (arcs : List UpDown) (met : List Bool) (i at : ℕ) (t : Arc) (d : UpDown) → i < length streets → AreInOrder arcs → AreMet streets arcs met i
    → StandsAt arcs (slice_index_or streets i t).from (slice_index_or streets i t).to at → ((slice_index_or arcs at d).middle.0 ≡ 0 → ⊥) → AreMet streets arcs met (i + 1)
met-added streets arcs met i at t d within in_order h stands_there added =
    let never : (j : ℕ) (e : UpDown) → j < length arcs → IsStreet (slice_index_or arcs j e) (slice_index_or streets i t) → ⊥ = λ j e lt is.
    let here : j ≡ at = one_place arcs (slice_index_or streets i t).from (slice_index_or streets i t).to at j e in_order stands_there lt is.1 in
    let there : slice_index_or arcs j e ≡ slice_index_or arcs at d = get_or_default arcs j e d lt ∙ ap (λ (n : ℕ). slice_index_or arcs n d) here in
    added (sym (ap (λ (x : UpDown). x.middle.0) there) ∙ is.0) in
    more streets arcs met i t within h (λ j e lt is. absurd (never j e lt is)) (λ j e lt is same. absurd (never j e lt is))

pub met-longer : (streets : List Arc) (arcs : List UpDown) (met : List Bool) (i at : ℕ) (t : Arc) (d : UpDown) → i < length streets → AreInOrder arcs → AreMet streets arcs met i
    → StandsAt arcs (slice_index_or streets i t).from (slice_index_or streets i t).to at → (slice_index_or arcs at d).seconds < (slice_index_or streets i t).seconds → AreMet streets arcs met (i + 1)
met-longer streets arcs met i at t d within in_order h stands_there longer =
    let shorter : (j : ℕ) (e : UpDown) → j < length arcs → IsStreet (slice_index_or arcs j e) (slice_index_or streets i t) → (slice_index_or arcs j e).seconds < (slice_index_or streets i t).seconds = λ j e lt is.
    let here : j ≡ at = one_place arcs (slice_index_or streets i t).from (slice_index_or streets i t).to at j e in_order stands_there lt is.1 in
    let there : slice_index_or arcs at d ≡ slice_index_or arcs j e = sym (get_or_default arcs j e d lt ∙ ap (λ (n : ℕ). slice_index_or arcs n d) here) in
    subst (λ (x : UpDown). x.seconds < (slice_index_or streets i t).seconds) there longer in
    more streets arcs met i t within h (λ j e lt is. omega (arith, shorter j e lt is)) (λ j e lt is same. absurd (omega (arith, shorter j e lt is, same)))

pub met-equal : (streets : List Arc) (arcs : List UpDown) (met : List Bool) (i at : ℕ) (t : Arc) (d : UpDown) → i < length streets → AreInOrder arcs → AreMet streets arcs met i
    → StandsAt arcs (slice_index_or streets i t).from (slice_index_or streets i t).to at → (slice_index_or streets i t).seconds ≡ (slice_index_or arcs at d).seconds
    → AreMet streets arcs (slice_set met at true) (i + 1)
met-equal streets arcs met i at t d within in_order h stands_there equal =
    let low : at < length met = omega (arith, h.one_each, stands_there.within) in
    let marks : AreMet streets arcs (slice_set met at true) i = record {
      one_each = length-set met at true ∙ h.one_each;
      attained = λ j e lt mark. elim (cases_eq j at) [
        | inl here ↦
            let same : slice_index_or arcs at d ≡ slice_index_or arcs j e = sym (get_or_default arcs j e d lt ∙ ap (λ (n : ℕ). slice_index_or arcs n d) here) in
            subst (λ (x : UpDown). Contains streets (street_of x x.seconds)) same
            (stands streets i t (slice_index_or arcs at d) (slice_index_or arcs at d).seconds within (stands_there.ends d) equal)
        | inr other ↦ h.attained j e lt (sym (get_or-set_other met at j true false other) ∙ mark)
      ];
      least = h.least;
      marked = λ k j s e lt in_arcs is same. elim (cases_eq j at) [
        | inl here ↦ ap (λ (n : ℕ). slice_index_or (slice_set met at true) n false) here ∙ get_or-set_same met at true false low
        | inr other ↦ get_or-set_other met at j true false other ∙ h.marked k j s e lt in_arcs is same
      ];
    } in
    let one : (j : ℕ) (e : UpDown) → j < length arcs → IsStreet (slice_index_or arcs j e) (slice_index_or streets i t) → j ≡ at = λ j e lt is.
    one_place arcs (slice_index_or streets i t).from (slice_index_or streets i t).to at j e in_order stands_there lt is.1 in
    more streets arcs (slice_set met at true) i t within marks
    (λ j e lt is.
    let there : slice_index_or arcs j e ≡ slice_index_or arcs at d = get_or_default arcs j e d lt ∙ ap (λ (n : ℕ). slice_index_or arcs n d) (one j e lt is) in
    omega (arith, ap (λ (x : UpDown). x.seconds) there, equal))
    (λ j e lt is same. ap (λ (n : ℕ). slice_index_or (slice_set met at true) n false) (one j e lt is) ∙ get_or-set_same met at true false low)

pub shorter : (streets : List Arc) (arcs : List UpDown) (i at : ℕ) (t : Arc) (d : UpDown) → i < length streets
    → StandsAt arcs (slice_index_or streets i t).from (slice_index_or streets i t).to at → (slice_index_or arcs at d).middle.0 ≡ 0 → (slice_index_or streets i t).seconds < (slice_index_or arcs at d).seconds
    → All (IsLeastOf streets) arcs → ⊥
shorter streets arcs i at t d within stands_there middle less all =
    let least = all at d stands_there.within middle in
    omega (arith, least.least (slice_index_or streets i t).seconds (stands streets i t (slice_index_or arcs at d) (slice_index_or streets i t).seconds within (stands_there.ends d) refl))
