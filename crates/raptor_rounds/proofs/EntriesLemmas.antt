-- The entries of a stop.
use Rattle.std.proofs.Common.{◌≡◌, ◌≢◌, ℕ, ◌+◌, ◌-◌, ◌^◌, ◌<◌, ◌≤◌, ◌⊎◌, inl, inr, List, length, take, drop, set, get_or, length-drop, subst, sym, ap, ◌∙◌, arith, Some, get_or-set_same, get_or-set_other}
use Rattle.std.specs.Prelude.{Contains, All, slice_get, slice_index}
use Rattle.std.proofs.lemmas.List.{length-take-le, get_or-take, get_or-drop}
use Rattle.std.proofs.lemmas.List.Elements.{All-get_or, Contains-get_or}
use Rattle.std.proofs.lemmas.Bool.{cases_lt, cases_eq}
use Rattle.std.proofs.lemmas.Option.{slice_get-get_or, same_Some}
use Rattle.move_model.specs.declared.network.StopNo.{StopNo}
use Rattle.move_model.specs.declared.journey.Shortcut.{Shortcut}
use Rattle.raptor_rounds.specs.declared.entries.Spans.{Spans}
use Rattle.raptor_rounds.specs.Answers.{IsEntryWithin}
use Rattle.raptor_rounds.specs.Labels.{AreSpans}

pub contains_range : (xs : List Shortcut) (a b i : ℕ) (e : Shortcut) → a ≤ i → i < b → b ≤ length xs → get_or xs i e ≡ e → Contains (take (b - a) (drop a xs)) e
contains_range xs a b i e from to within is =
    let k : ℕ = i - a in
    let back : a + k ≡ i = omega arith in
    let long : b - a ≤ length (drop a xs) = simp length-drop (omega arith) in (
      k,
      omega (arith, length-take-le (b - a) (drop a xs) long),
      get_or-take (b - a) (drop a xs) k e (omega arith) ∙ get_or-drop a xs k e ∙ ap (λ j. get_or xs j e) back ∙ is,
    )

-- where an entry stands
pub record Place (list : List Shortcut) (spans : Spans) (from : StopNo) (e : Shortcut) : Type 0 where
  pub at : ℕ
  pub first : slice_index spans.firsts from.0 ≤ at
  pub end : at < slice_index spans.ends.items from.0
  pub within : slice_index spans.ends.items from.0 ≤ length list
  pub is : get_or list at e ≡ e

pub place_of_entry : (list : List Shortcut) (spans : Spans) (from : StopNo) (e : Shortcut) → AreSpans list (length list) spans → Contains list e → e.from ≡ from → Place list spans from e
place_of_entry list spans from e are (i, lt, at) same =
    let here = are.each i e lt (slice_get-get_or list i e lt ∙ ap Some at) in
    let firsts_is : slice_index spans.firsts e.from.0 ≡ slice_index spans.firsts from.0 = ap (λ (v : StopNo). slice_index spans.firsts v.0) same in
    let ends_is : slice_index spans.ends.items e.from.0 ≡ slice_index spans.ends.items from.0 = ap (λ (v : StopNo). slice_index spans.ends.items v.0) same in
    record {
      at = i;
      first = omega (arith, here.1, firsts_is);
      end = omega (arith, here.2, ends_is);
      within = omega (arith, are.within e.from.0 here.0, ends_is);
      is = at;
    }

-- what holds of each entry of a list holds of each of a part of it
pub all_of_part : (stops : ℕ) (list part : List Shortcut) → All (IsEntryWithin stops) list → ((e : Shortcut) → Contains part e → Contains list e)
    → (i : ℕ) (d : Shortcut) → i < length part → IsEntryWithin stops (get_or part i d)
all_of_part stops list part all within i d lt =
    let has = within (get_or part i d) (Contains-get_or part i d lt) in
    subst (IsEntryWithin stops) has.2 (All-get_or (IsEntryWithin stops) list has.0 (get_or part i d) has.1 all)

-- an entry more
pub spans_more : (list : List Shortcut) (n at : ℕ) (e : Shortcut) (old new : Spans) → AreSpans list n old → slice_get list n ≡ Some e → at ≡ e.from.0
    → slice_index new.firsts at < 2 ^ 32 - 1 → slice_index new.firsts at ≤ n
    → ((x : ℕ) → slice_index old.firsts x < 2 ^ 32 - 1 → slice_index new.firsts x ≡ slice_index old.firsts x)
    → ((x : ℕ) → x ≢ at → slice_index new.firsts x ≡ slice_index old.firsts x)
    → slice_index new.ends.items at ≡ n + 1
    → ((x : ℕ) → x ≢ at → slice_index new.ends.items x ≡ slice_index old.ends.items x)
    → AreSpans list (n + 1) new
spans_more list n at e old new was is at_is low no_later stay others end ends = record { each = each; begun = begun; within = within }
  where
    end_of : (x : ℕ) → (slice_index new.ends.items x ≡ n + 1) ⊎ (slice_index new.ends.items x ≡ slice_index old.ends.items x)
    end_of x = elim (cases_eq x at) [
      | inl same ↦ inl (ap (slice_index new.ends.items) same ∙ end)
      | inr other ↦ inr (ends x other)
    ]

    each : (i : ℕ) (f : Shortcut) → i < n + 1 → slice_get list i ≡ Some f
        → (slice_index new.firsts f.from.0 < 2 ^ 32 - 1) × (slice_index new.firsts f.from.0 ≤ i) × (i < slice_index new.ends.items f.from.0)
    each i f lt here = elim (cases_lt i n) [
      | inl less ↦
          let old_one = was.each i f less here in
          let same = stay f.from.0 old_one.0 in (
            omega (arith, same, old_one.0),
            omega (arith, same, old_one.1),
            elim (end_of f.from.0) [
              | inl now ↦ omega (arith, now, less)
              | inr before ↦ omega (arith, before, old_one.2)
            ],
          )
      | inr ge ↦
          let same : i ≡ n = omega arith in
          let e_is : e ≡ f = same_Some e f (sym is ∙ subst (λ k. slice_get list k ≡ Some f) same here) in
          let at_f : at ≡ f.from.0 = at_is ∙ ap (λ (v : Shortcut). v.from.0) e_is in (
            subst (λ k. slice_index new.firsts k < 2 ^ 32 - 1) at_f low,
            subst (λ k. slice_index new.firsts k ≤ i) at_f (omega (arith, no_later, same)),
            subst (λ k. i < slice_index new.ends.items k) at_f (omega (arith, end, same)),
          )
    ]

    begun : (x : ℕ) → slice_index new.firsts x < 2 ^ 32 - 1 → slice_index new.firsts x ≤ n + 1
    begun x lt = elim (cases_eq x at) [
      | inl same ↦ subst (λ k. slice_index new.firsts k ≤ n + 1) (sym same) (omega (arith, no_later))
      | inr other ↦ omega (arith, others x other, was.begun x (omega (arith, others x other, lt)))
    ]

    within : (x : ℕ) → slice_index new.firsts x < 2 ^ 32 - 1 → slice_index new.ends.items x ≤ n + 1
    within x lt = elim (cases_eq x at) [
      | inl same ↦ subst (λ k. slice_index new.ends.items k ≤ n + 1) (sym same) (omega (arith, end))
      | inr other ↦ omega (arith, ends x other, was.within x (omega (arith, others x other, lt)))
    ]

-- an entry of a stop that had none
pub spans_first : (list : List Shortcut) (n at first : ℕ) (e : Shortcut) (old new : Spans) → AreSpans list n old → slice_get list n ≡ Some e → at ≡ e.from.0
    → slice_index old.firsts at ≡ 2 ^ 32 - 1 → at < length old.firsts → at < length old.ends.items → first < 2 ^ 32 - 1 → first ≤ n
    → new.firsts ≡ set old.firsts at first → new.ends.items ≡ set old.ends.items at (n + 1) → AreSpans list (n + 1) new
spans_first list n at first e old new was is at_is none in_firsts in_ends low no_later firsts_are ends_are =
    let now : slice_index new.firsts at ≡ first = ap (λ l. slice_index l at) firsts_are ∙ get_or-set_same old.firsts at first 0 in_firsts in
    let others : (x : ℕ) → x ≢ at → slice_index new.firsts x ≡ slice_index old.firsts x =
    λ x other. ap (λ l. slice_index l x) firsts_are ∙ get_or-set_other old.firsts at x first 0 other in
    spans_more list n at e old new was is at_is (omega (arith, now, low)) (omega (arith, now, no_later))
    (λ x lt. others x (λ e. omega (arith, lt, none, ap (slice_index old.firsts) e)))
    others
    (ap (λ l. slice_index l at) ends_are ∙ get_or-set_same old.ends.items at (n + 1) 0 in_ends)
    (λ x other. ap (λ l. slice_index l x) ends_are ∙ get_or-set_other old.ends.items at x (n + 1) 0 other)

-- an entry of a stop that has some
pub spans_next : (list : List Shortcut) (n at : ℕ) (e : Shortcut) (old new : Spans) → AreSpans list n old → slice_get list n ≡ Some e → at ≡ e.from.0
    → slice_index old.firsts at < 2 ^ 32 - 1 → at < length old.ends.items
    → new.firsts ≡ old.firsts → new.ends.items ≡ set old.ends.items at (n + 1) → AreSpans list (n + 1) new
spans_next list n at e old new was is at_is some in_ends firsts_are ends_are =
    let same : (x : ℕ) → slice_index new.firsts x ≡ slice_index old.firsts x = λ x. ap (λ l. slice_index l x) firsts_are in
    spans_more list n at e old new was is at_is (omega (arith, same at, some)) (omega (arith, same at, was.begun at some))
    (λ x lt. same x) (λ x other. same x)
    (ap (λ l. slice_index l at) ends_are ∙ get_or-set_same old.ends.items at (n + 1) 0 in_ends)
    (λ x other. ap (λ l. slice_index l x) ends_are ∙ get_or-set_other old.ends.items at x (n + 1) 0 other)
