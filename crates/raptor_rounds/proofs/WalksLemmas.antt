-- Transfers.
use Rattle.std.proofs.Common.{◌≡◌, ◌≢◌, ℕ, ◌+◌, ◌<◌, inl, inr, List, length, set, get_or, subst, sym, ap, ◌∙◌, arith, Some, get_or-set_same, get_or-set_other}
use Rattle.std.specs.Prelude.{slice_get}
use Rattle.std.proofs.lemmas.Option.{slice_get-get_or, slice_get_past, get_or_from_slice_get}
use Rattle.std.proofs.lemmas.Bool.{cases_lt, cases_eq}
use Rattle.std.proofs.lemmas.List.{length-set}
use Rattle.raptor_rounds.specs.declared.labels.Step.{Step}
use Rattle.raptor_rounds.specs.declared.labels.Ready.{Ready}
use Rattle.raptor_rounds.specs.Labels.{ReadyFalls}
use Rattle.raptor_rounds.proofs.RidesLemmas.{was_false}

pub ready_falls_on : (a b c : Ready) → ReadyFalls a b → ReadyFalls b c → ReadyFalls a c
ready_falls_on a b c ab bc = record {
  stops = bc.stops ∙ ab.stops;
  slots = bc.slots ∙ ab.slots;
  marks = bc.marks ∙ ab.marks;
  seconds = λ x. omega (arith, ab.seconds x, bc.seconds x);
  better_stays = λ x e. bc.better_stays x (ab.better_stays x e);
  others_stay = λ x e. bc.others_stay x e ∙ ab.others_stay x (was_false _ _ (bc.better_stays x) e);
}

-- what holds of the items below a place, and of the one there
pub below_more : {X : Type 0} (d : X) (xs : List X) (n : ℕ) (P : X → Type 0) → n < length xs → ((i : ℕ) (x : X) → i < n → slice_get xs i ≡ Some x → P x) → P (get_or xs n d)
    → (i : ℕ) (x : X) → i < n + 1 → slice_get xs i ≡ Some x → P x
below_more d xs n P here below now i x lt at = elim (cases_lt i n) [
  | inl less ↦ below i x less at
  | inr ge ↦ let same : n ≡ i = omega arith in
      subst P (ap (λ k. get_or xs k d) same ∙ get_or_from_slice_get xs i x d at) now
]

-- a place that is not written stays
pub set_elsewhere : {X : Type 0} (xs : List X) (at i : ℕ) (v : X) → i ≢ at → slice_get (set xs at v) i ≡ slice_get xs i
set_elsewhere xs at i v other = elim (cases_lt i (length xs)) [
  | inl lt ↦ slice_get-get_or (set xs at v) i v (omega (arith, lt, length-set xs at v)) ∙ ap Some (get_or-set_other xs at i v v other) ∙ sym (slice_get-get_or xs i v lt)
  | inr ge ↦ slice_get_past (set xs at v) i (omega (arith, ge, length-set xs at v)) ∙ sym (slice_get_past xs i ge)
]

-- a step more is kept
pub keep_more : (slots steps : List Step) (base at : ℕ) (v : Step) → base + at < length slots → slice_get steps at ≡ Some v
    → (y : ℕ) → (y ≢ at → slice_get slots (base + y) ≡ slice_get steps y) → slice_get (set slots (base + at) v) (base + y) ≡ slice_get steps y
keep_more slots steps base at v room is y before = elim (cases_eq y at) [
  | inl same ↦ subst (λ k. slice_get (set slots (base + at) v) (base + k) ≡ slice_get steps k) (sym same)
      (slice_get-get_or (set slots (base + at) v) (base + at) v (omega (arith, room, length-set slots (base + at) v)) ∙ ap Some (get_or-set_same slots (base + at) v v room) ∙ sym is)
  | inr other ↦
      let apart : base + y ≢ base + at = λ e. other (omega (arith, e)) in
      set_elsewhere slots (base + at) (base + y) v apart ∙ before other
]
