-- The files GR and CO have one first broken rule.
use Rattle.std.proofs.Common.{◌≡◌, ℕ, zero, suc, ◌<◌, List, [], ◌∷◌, length, take, true, false, Option, Some, None, refl, arith, inl, inr}
use Rattle.std.specs.Prelude.{slice_get}
use Rattle.std.specs.List.{list_any}
use Rattle.std.proofs.lemmas.Bool.{cases_order}
use Rattle.std.proofs.Math.Seq.{take-length}
use Rattle.std.proofs.lemmas.Option.{slice_get_within, get_or_from_slice_get}
use Rattle.move_model.specs.declared.refusal.Cause.{Cause}
use Rattle.refusals.proofs.RefusalLemmas.{not_both, one_refusal}
use Rattle.street_graph.specs.Gr as gr
use Rattle.street_graph.specs.Gr.{problem_by, gr_lines, gr_rules, form_broken, spot_at, size_of, first_some, size_in, IsSizeRow, LinesHold, IsGrRefused}
use Rattle.street_graph.specs.Co as co
use Rattle.street_graph.specs.Co.{size_by, co_lines, co_rules, co_form_broken, co_spot_at, is_size, IsCoSizeRow, CoLinesHold, IsCoRefused}
use Rattle.top_call.proofs.ListLemmas.{any_before}

later-none : {X : Type 0} (o p : Option X) → first_some o p ≡ None → p ≡ None
later-none None p e = e
later-none (Some x) p e = cc e

-- a line that gives a size is behind no place without one
size-before : (lines : _) (m i n k : ℕ) → i < m → slice_get lines i ≡ Some (problem_by (Some n) (Some k)) → size_of (take m lines) ≡ None → ⊥
size-before lines zero i n k lt at none = omega arith
size-before [] (suc m) i n k lt at none = cc at
size-before (line ∷ lines) (suc m) zero n k lt at none =
    let same : line ≡ problem_by (Some n) (Some k) = cc at in
    let some : first_some (size_in (problem_by (Some n) (Some k))) (size_of (take m lines)) ≡ None = rw same at none in cc some
size-before (line ∷ lines) (suc m) (suc i) n k lt at none = size-before lines m i n k (omega arith) at (later-none (size_in line) (size_of (take m lines)) none)

form-rule : (lines : _) (i : ℕ) → LinesHold lines → i < length lines → form_broken (spot_at lines i).given (spot_at lines i).line ≡ None
unfolding gr_rules
form-rule lines i hold lt = (hold i lt).0

none-given : (given : _) (n k : ℕ) → form_broken given (problem_by (Some n) (Some k)) ≡ None → given ≡ None
unfolding form_broken
none-given None n k e = refl
none-given (Some size) n k e = cc e

two-sizes : (lines : _) (i j n k m l : ℕ) → LinesHold lines → slice_get lines i ≡ Some (problem_by (Some n) (Some k)) → slice_get lines j ≡ Some (problem_by (Some m) (Some l)) → i < j → ⊥
two-sizes lines i j n k m l hold a b lt =
    let rule = rw (get_or_from_slice_get lines j (problem_by (Some m) (Some l)) _ b) at (form-rule lines j hold (slice_get_within lines j (problem_by (Some m) (Some l)) b)) in
    size-before lines j i n k lt a (none-given (size_of (take j lines)) m l rule)

one-size : (lines : _) (row other : ℕ) (s t : _) → LinesHold lines → IsSizeRow lines row s → IsSizeRow lines other t → row ≡ other
one-size lines row other s t hold a b =
    elim (cases_order a.place b.place) [
      | inl same ↦ omega (arith, a.number, b.number, same)
      | inr (inl lt) ↦ absurd (two-sizes lines a.place b.place _ _ _ _ hold a.announced b.announced lt)
      | inr (inr gt) ↦ absurd (two-sizes lines b.place a.place _ _ _ _ hold b.announced a.announced gt)
    ]

pub gr_once : (text : List ℕ) (row other : ℕ) (because another : Cause) → IsGrRefused text row because → IsGrRefused text other another → (row ≡ other) × (because ≡ another)
gr_once text row other because another (gr.by_line r) (gr.by_line s) = one_refusal gr_rules (spot_at (gr_lines text)) (length (gr_lines text)) _ _ _ _ r s
gr_once text row other because another (gr.by_line r) (gr.no_size hold none) = absurd (not_both gr_rules (spot_at (gr_lines text)) (length (gr_lines text)) _ _ hold r)
gr_once text row other because another (gr.by_line r) (gr.miscounted hold given at wrong) = absurd (not_both gr_rules (spot_at (gr_lines text)) (length (gr_lines text)) _ _ hold r)
gr_once text row other because another (gr.no_size hold none) (gr.by_line s) = absurd (not_both gr_rules (spot_at (gr_lines text)) (length (gr_lines text)) _ _ hold s)
gr_once text row other because another (gr.no_size hold none) (gr.no_size hold' none') = (refl, refl)
gr_once text row other because another (gr.no_size hold none) (gr.miscounted hold' given at wrong) = cc (none, given)
gr_once text row other because another (gr.miscounted hold given at wrong) (gr.by_line s) = absurd (not_both gr_rules (spot_at (gr_lines text)) (length (gr_lines text)) _ _ hold s)
gr_once text row other because another (gr.miscounted hold given at wrong) (gr.no_size hold' none) = cc (none, given)
gr_once text row other because another (gr.miscounted hold given at wrong) (gr.miscounted hold' given' at' wrong') = (one-size (gr_lines text) _ _ _ _ hold at at', refl)

co-form-rule : (nodes : ℕ) (lines : _) (i : ℕ) → CoLinesHold nodes lines → i < length lines
    → co_form_broken (list_any is_size (co_spot_at lines i).before) (co_spot_at lines i).line ≡ None
unfolding co_rules
co-form-rule nodes lines i hold lt = (hold i lt).0

two-co-sizes : (nodes : ℕ) (lines : _) (i j n m : ℕ) → CoLinesHold nodes lines → slice_get lines i ≡ Some (size_by (Some n)) → slice_get lines j ≡ Some (size_by (Some m)) → i < j → ⊥
unfolding co_form_broken
two-co-sizes nodes lines i j n m hold a b lt =
    let rule = rw (get_or_from_slice_get lines j (size_by (Some m)) _ b) at (co-form-rule nodes lines j hold (slice_get_within lines j (size_by (Some m)) b)) in
    let seen : list_any is_size (take j lines) ≡ true = any_before is_size lines j i (size_by (Some n)) lt a refl in
    let broken = rw seen at rule in cc broken

one-co-size : (nodes : ℕ) (lines : _) (row other : ℕ) → CoLinesHold nodes lines → IsCoSizeRow lines row → IsCoSizeRow lines other → row ≡ other
one-co-size nodes lines row other hold a b =
    elim (cases_order a.place b.place) [
      | inl same ↦ omega (arith, a.number, b.number, same)
      | inr (inl lt) ↦ absurd (two-co-sizes nodes lines a.place b.place _ _ hold a.announced b.announced lt)
      | inr (inr gt) ↦ absurd (two-co-sizes nodes lines b.place a.place _ _ hold b.announced a.announced gt)
    ]

both-sized : (lines : _) (row : ℕ) → IsCoSizeRow lines row → list_any is_size lines ≡ false → ⊥
both-sized lines row a none =
    let seen : list_any is_size (take (length lines) lines) ≡ true =
    any_before is_size lines (length lines) a.place (size_by (Some a.size)) (slice_get_within lines a.place (size_by (Some a.size)) a.announced) a.announced refl in
    let same = rw (take-length lines) at seen in cc (same, none)

pub co_once : (nodes : ℕ) (text : List ℕ) (row other : ℕ) (because another : Cause) → IsCoRefused nodes text row because → IsCoRefused nodes text other another → (row ≡ other) × (because ≡ another)
co_once nodes text row other because another (co.by_line r) (co.by_line s) = one_refusal (co_rules nodes) (co_spot_at (co_lines text)) (length (co_lines text)) _ _ _ _ r s
co_once nodes text row other because another (co.by_line r) (co.no_size hold none) = absurd (not_both (co_rules nodes) (co_spot_at (co_lines text)) (length (co_lines text)) _ _ hold r)
co_once nodes text row other because another (co.by_line r) (co.miscounted hold at wrong) = absurd (not_both (co_rules nodes) (co_spot_at (co_lines text)) (length (co_lines text)) _ _ hold r)
co_once nodes text row other because another (co.no_size hold none) (co.by_line s) = absurd (not_both (co_rules nodes) (co_spot_at (co_lines text)) (length (co_lines text)) _ _ hold s)
co_once nodes text row other because another (co.no_size hold none) (co.no_size hold' none') = (refl, refl)
co_once nodes text row other because another (co.no_size hold none) (co.miscounted hold' at wrong) = absurd (both-sized (co_lines text) _ at none)
co_once nodes text row other because another (co.miscounted hold at wrong) (co.by_line s) = absurd (not_both (co_rules nodes) (co_spot_at (co_lines text)) (length (co_lines text)) _ _ hold s)
co_once nodes text row other because another (co.miscounted hold at wrong) (co.no_size hold' none) = absurd (both-sized (co_lines text) _ at none)
co_once nodes text row other because another (co.miscounted hold at wrong) (co.miscounted hold' at' wrong') = (one-co-size nodes (co_lines text) _ _ hold at at', refl)
