-- What a search leaves at the places.
use Rattle.std.proofs.Common.{◌≡◌, ℕ, ◌+◌, ◌<◌, ◌≤◌, Bool, true, false, cond, List, Option, Some, None, length, slice_set, refl, sym, ap, ◌∙◌, subst, inl, inr, arith}
use Rattle.std.specs.Prelude.{nat_le}
use Rattle.std.proofs.lemmas.Bool.{cases_eq}
use Rattle.std.proofs.lemmas.Bool.Decides.{nat_tests}
use Rattle.std.proofs.lemmas.List.{get_or-set_same, get_or-set_other}
use Rattle.move_model.specs.declared.network.NodeNo.{NodeNo}
use Rattle.move_model.specs.Streets.{Streets, IsDistance}
use Rattle.core_search.specs.declared.label.Label.{Label}
use Rattle.core_search.specs.Label.{after, label_at}
use Rattle.core_search.specs.Waiting.{HasNone}
use Rattle.core_search.specs.Spread.{Comes, HasLeastLabel, IsApart}
use Rattle.stop_rows.specs.Rows.{never, last_second, IsEntry}
use Rattle.stop_rows.specs.Row.{start, entry_of}

one_distance : (g : Streets) (a b : NodeNo) (m k : ℕ) → IsDistance g a b m → IsDistance g a b k → m ≡ k
one_distance g a b m k d e =
    let le = d.least e.attained.0 k e.attained.1 in
    let ge = e.least d.attained.0 m d.attained.1 in
    omega (arith, le, ge)

-- the one label that stands
pub one_stands : (labels : List (Option Label)) (from v : ℕ) (x : Label) → HasNone labels → from < length labels
    → label_at (slice_set labels from (Some start)) v ≡ Some x → (v ≡ from) × (x ≡ start)
one_stands labels from v x none low is = elim (cases_eq v from) [
  | inl e ↦
      let same : Some x ≡ Some start = sym is ∙ ap (label_at (slice_set labels from (Some start))) e ∙ get_or-set_same labels from (Some start) None low in
      (e, cc)
  | inr ne ↦
      let no : None ≡ Some x = sym (none v) ∙ sym (get_or-set_other labels from v (Some start) None ne) ∙ is in
      absurd (cc)
]

module _ (graph : Streets) (labels : List (Option Label)) (from b : NodeNo) (none : HasNone labels) (low : from.0 < length labels) where
  stood : List (Option Label)
  stood = slice_set labels from.0 (Some start)

  -- a label that comes has the distance
  come_distance : (y : Label) → Comes (IsApart graph) (slice_set labels from.0 (Some start)) b.0 y → IsDistance graph from b y.seconds
  come_distance y comes =
      let one = one_stands labels from.0 comes.from comes.x none low comes.stood in
      let there : IsDistance graph from b comes.m = subst (λ (n : ℕ). IsDistance graph (record { 0 = n }) b comes.m) one.0 comes.leads in
      let seconds : comes.m ≡ y.seconds = sym (ap (λ (z : Label). z.seconds) comes.is ∙ ap (λ (z : Label). z.seconds + comes.m) one.1 ∙ omega arith) in
      subst (λ (n : ℕ). IsDistance graph from b n) seconds there

  distance_comes : (k : ℕ) → IsDistance graph from b k → Comes (IsApart graph) (slice_set labels from.0 (Some start)) b.0 (after start k)
  distance_comes k d = record { from = from.0; x = start; m = k; stood = get_or-set_same labels from.0 (Some start) None low; leads = d; is = refl }

  entry_by : (y : Label) (test : Bool) → nat_le y.seconds last_second ≡ test → IsDistance graph from b y.seconds → IsEntry graph from b (cond test y.seconds never)
  entry_by y true test d = record {
    exact = λ k. (
      λ h. (subst (λ (n : ℕ). IsDistance graph from b n) h.0 d, (let le : y.seconds ≤ last_second = grind (arith, nat_tests) in omega (arith, le, h.0))),
      λ h.
          let same = one_distance graph from b y.seconds k d h.0 in
          (same, λ e. omega (arith, same, h.1, e)),
    );
  }
  entry_by y false test d = record {
    exact = λ k. (
      λ h. absurd (h.1 refl),
      λ h.
          let same = one_distance graph from b y.seconds k d h.0 in
          let gt : last_second < y.seconds = grind (arith, nat_tests) in
          absurd (omega (arith, same, h.1, gt)),
    );
  }

  pub entry_is : (r : Option Label) → HasLeastLabel (IsApart graph) (slice_set labels from.0 (Some start)) b.0 r → IsEntry graph from b (entry_of r)
  entry_is None no_label = record {
    exact = λ k. (λ h. absurd (h.1 refl), λ h. absurd (no_label (after start k) (distance_comes k h.0)));
  }
  entry_is (Some y) least = entry_by y (nat_le y.seconds last_second) refl (come_distance y least.attained)
