-- Which routes are open.
use Rattle.std.proofs.Common.{◌≡◌, ℕ, zero, suc, ◌+◌, ◌<◌, inl, inr, Bool, true, false, List, length, cond, set, replicate, refl, sym, ap, ◌∙◌, arith, Option, Some, None}
use Rattle.std.specs.Prelude.{slice_get, count_by, vec_len}
use Rattle.std.proofs.lemmas.Bool.{cases_eq}
use Rattle.std.proofs.lemmas.Option.{slice_get_within, get_or_from_slice_get, same_Some}
use Rattle.std.proofs.lemmas.List.Sums.{sum_by-set}
use Rattle.std.proofs.lemmas.List.{length-set}
use Rattle.route_split.specs.Route.{Route}
use Rattle.route_split.specs.Table.{Table}
use Rattle.range_lanes.specs.declared.lent.LentRows.{LentRows}
use Rattle.range_lanes.specs.Lent.{IsLentBy}
use Rattle.range_lanes.proofs.LevelLemmas.{set_get, set_get_other}

some_true : (b : Bool) → Some b ≡ Some true → b ≡ true
some_true b e = cc

pub blank_none : (n r : ℕ) → slice_get (replicate n false) r ≡ Some true → ⊥
blank_none zero r e = cc
blank_none (suc n) zero e = cc
blank_none (suc n) (suc r) e = blank_none n r e

pub blank_count : (n : ℕ) → count_by (λ mark. mark) (replicate n false) ≡ 0
blank_count zero = refl
blank_count (suc n) = omega (arith, blank_count n)

pub length_blank : (n : ℕ) → length (replicate n false) ≡ n
length_blank zero = refl
length_blank (suc n) = omega (arith, length_blank n)

pub count_set : (marks : List Bool) (r : ℕ) → slice_get marks r ≡ Some false
    → count_by (λ mark. mark) (set marks r true) ≡ count_by (λ mark. mark) marks + 1
count_set marks r e =
    let weight : Bool → ℕ = λ (b : Bool). cond b 1 0 in
    omega (arith, sum_by-set weight marks r true false (slice_get_within marks r false e), ap weight (get_or_from_slice_get marks r false false e))

-- one more route is open
pub lent_more : (table : Table) (old new : LentRows) (r : ℕ) (route : Route) → slice_get table.routes r ≡ Some route
    → new.rows.items ≡ set old.rows.items r (Some route) → new.marks ≡ set old.marks r true → r < length old.rows.items → vec_len new.rows ≡ vec_len old.rows
    → IsLentBy table old → IsLentBy table new
lent_more table old new r route is rows marks within long was = record {
  one_each = long ∙ was.one_each;
  marks = ap length marks ∙ length-set old.marks r true ∙ was.marks;
  held = λ k at. elim (cases_eq r k) [
    | inl e ↦ record {
      route = route;
      is_route = ap (λ i. slice_get table.routes i) (sym e) ∙ is;
      held = ap (λ (xs : List (Option Route)). slice_get xs k) rows ∙ ap (λ i. slice_get (set old.rows.items r (Some route)) i) (sym e) ∙ set_get old.rows.items r (Some route) within;
    }
    | inr other ↦
        let there = was.held k (sym (set_get_other old.marks r k true other) ∙ ap (λ (xs : List Bool). slice_get xs k) (sym marks) ∙ at) in
        record {
          route = there.route;
          is_route = there.is_route;
          held = ap (λ (xs : List (Option Route)). slice_get xs k) rows ∙ set_get_other old.rows.items r k (Some route) other ∙ there.held;
        }
  ];
}

pub rows_none : (o : Option Route) (r : Route) → o ≡ Some r → o ≡ None → ⊥
rows_none o r a b = cc

pub rows_same : (o : Option Route) (a b : Route) → o ≡ Some a → o ≡ Some b → a ≡ b
rows_same o a b e f = same_Some a b (sym e ∙ f)
