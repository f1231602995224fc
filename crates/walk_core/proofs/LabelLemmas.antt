-- Labels that are written.
use Rattle.std.proofs.Common.{◌≡◌, ◌≢◌, ℕ, ◌+◌, ◌<◌, List, [], length, slice_index_or, slice_set, arith, sym, ap, subst, inl, inr, ◌∙◌}
use Rattle.std.specs.Prelude.{Contains, All}
use Rattle.std.proofs.lemmas.Bool.{cases_eq}
use Rattle.std.proofs.lemmas.List.Elements.{Contains-get_or}
use Rattle.std.proofs.lemmas.List.{get_or-set_same, get_or-set_other, length-set}
use Rattle.walk_laws.specs.declared.CoreArc.{CoreArc}
use Rattle.walk_laws.specs.Sums.IsSum.{none}
use Rattle.walk_laws.proofs.SumLemmas.{IsSum-append, IsSum-one}
use Rattle.walk_core.specs.declared.search.Label.{Label}
use Rattle.walk_core.specs.Row.{is_last}
use Rattle.walk_core.specs.Search.{Avoids, IsLabel, AllLabels}
use Rattle.walk_core.specs.Bridge.{view_of, Spans}

-- one more label
pub AllLabels-set : (out : List (List CoreArc)) (rank : List ℕ) (avoid from : ℕ) (labels : List Label) (run v l : ℕ)
    → v < length labels → IsLabel out rank avoid from v l → AllLabels out rank avoid from labels run
    → AllLabels out rank avoid from (slice_set labels v (record { seconds = l; run = run })) run
AllLabels-set out rank avoid from labels run v l lt label all = record {
  each = λ u d low is. elim (cases_eq u v) [
    | inl e ↦
        let at : slice_index_or (slice_set labels v (record { seconds = l; run = run })) u d ≡ record { seconds = l; run = run } =
        ap (λ (x : ℕ). slice_index_or (slice_set labels v (record { seconds = l; run = run })) x d) e ∙ get_or-set_same labels v (record { seconds = l; run = run }) d lt in
        subst (λ (x : ℕ). IsLabel out rank avoid from u x) (ap (λ (x : Label). x.seconds) (sym at)) (subst (λ (x : ℕ). IsLabel out rank avoid from x l) (sym e) label)
    | inr ne ↦
        let at : slice_index_or (slice_set labels v (record { seconds = l; run = run })) u d ≡ slice_index_or labels u d =
        get_or-set_other labels v u (record { seconds = l; run = run }) d ne in
        subst (λ (x : Label). IsLabel out rank avoid from u x.seconds) (sym at)
        (all.each u d (subst (λ (n : ℕ). u < n) (length-set labels v (record { seconds = l; run = run })) low) (ap (λ (x : Label). x.run) (sym at) ∙ is))
  ];
}

-- along one more arc
pub IsLabel-more : (out : List (List CoreArc)) (rank : List ℕ) (avoid from v l : ℕ) (arc : CoreArc)
    → IsLabel out rank avoid from v l → Contains (slice_index_or out v []) arc → is_last rank arc.to.0 → arc.to.0 ≢ avoid
    → IsLabel out rank avoid from arc.to.0 (l + arc.seconds)
IsLabel-more out rank avoid from v l arc label stands left other =
    let one : Avoids out rank avoid v arc.to.0 arc.seconds =
    record { from_left = label.left; to_left = left; from_other = label.other; to_other = other; stands = (arc.middle.0, stands) } in
    record { left = left; other = other; sum = IsSum-append label.sum (IsSum-one one) }

pub IsLabel-start : (out : List (List CoreArc)) (rank : List ℕ) (avoid from : ℕ) → is_last rank from → from ≢ avoid → IsLabel out rank avoid from from 0
IsLabel-start out rank avoid from left other = record { left = left; other = other; sum = none }

-- no label of an earlier run counts
pub AllLabels-none : (out : List (List CoreArc)) (rank : List ℕ) (avoid from : ℕ) (labels : List Label) (run : ℕ)
    → All (λ label. label.run < run) labels → AllLabels out rank avoid from labels run
AllLabels-none out rank avoid from labels run all = record {
  each = λ v d low is. absurd (omega (arith, all v d low, is));
}

pub row_arc : (out : List (List CoreArc)) (row : List CoreArc) (v i : ℕ) (d : CoreArc) → row ≡ slice_index_or out v [] → i < length row
    → Contains (slice_index_or out v []) (slice_index_or row i d)
row_arc out row v i d e lt = subst (λ (r : List CoreArc). Contains r (slice_index_or row i d)) e (Contains-get_or row i d lt)

pub label_read : (out : List (List CoreArc)) (rank : List ℕ) (avoid from : ℕ) (labels : List Label) (run v l : ℕ)
    → AllLabels out rank avoid from labels run → v < length labels
    → ((d : Label) → ((slice_index_or labels v d).run ≡ run) × ((slice_index_or labels v d).seconds ≡ l))
    → IsLabel out rank avoid from v l
label_read out rank avoid from labels run v l all low read =
    let d : Label = record { seconds = 0; run = 0 } in
    subst (λ (x : ℕ). IsLabel out rank avoid from v x) (read d).1 (all.each v d low (read d).0)

pub AllLabels-start : (out : List (List CoreArc)) (rank : List ℕ) (avoid from : ℕ) (labels : List Label) (run : ℕ)
    → from < length labels → is_last rank from → from ≢ avoid → All (λ label. label.run < run) labels
    → AllLabels out rank avoid from (slice_set labels from (record { seconds = 0; run = run })) run
AllLabels-start out rank avoid from labels run low left other all =
    AllLabels-set out rank avoid from labels run from 0 low (IsLabel-start out rank avoid from left other) (AllLabels-none out rank avoid from labels run all)

-- a label stands for a list round the vertex
pub Spans-from_label : (out into : List (List CoreArc)) (rank : List ℕ) (m p q l : ℕ) → IsLabel out rank m p q l → Spans (view_of out into rank) m p q l
Spans-from_label out into rank m p q l label = record { l = l; sum = label.sum; within = omega arith }
