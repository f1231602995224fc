-- What a round does to the levels: one level's labels fall.
use Rattle.std.proofs.Common.{◌≡◌, ◌≢◌, ℕ, zero, suc, ◌+◌, ◌-◌, ◌<◌, ◌≤◌, ◌⊎◌, inl, inr, Bool, true, false, List, [], ◌∷◌, ◌++◌, length, take, refl, sym, ap, ◌∙◌, subst, arith, Option, Some}
use Rattle.std.specs.Prelude.{slice_get, slice_index, slice_index_or}
use Rattle.std.proofs.lemmas.Bool.{cases_lt}
use Rattle.std.proofs.lemmas.Option.{slice_get_within, same_Some}
use Rattle.move_model.specs.declared.journey.Shortcut.{Shortcut}
use Rattle.route_split.specs.declared.place.Place.{Place}
use Rattle.route_split.specs.Route.{Route}
use Rattle.route_split.specs.Table.{Table}
use Rattle.range_lanes.specs.declared.level.Level.{Level}
use Rattle.range_lanes.specs.Levels.{Exploited, Covers, Falls}
use Rattle.range_lanes.specs.State.{BoardsAt, IsWalked, IsBetween}
use Rattle.range_lanes.proofs.Falling.{falls_same}
use Rattle.range_lanes.proofs.Complete.{level_before}
use Rattle.range_lanes.proofs.Below.{all_fall_same, all_fall_split, all_fall_take, exploited_all, reached_all}

pub bool_cases : (b : Bool) → (b ≡ true) ⊎ (b ≡ false)
bool_cases true = inl refl
bool_cases false = inr refl

pub split_get : (below : List Level) (a b : Level) (above : List Level) (j : ℕ) → j ≢ length below
    → slice_get (below ++ a ∷ above) j ≡ slice_get (below ++ b ∷ above) j
split_get [] a b above zero other = absurd (other refl)
split_get [] a b above (suc j) other = refl
split_get (x ∷ below) a b above zero other = refl
split_get (x ∷ below) a b above (suc j) other = split_get below a b above j (λ e. other (omega (arith, e)))

pub split_here : (below : List Level) (a : Level) (above : List Level) → slice_get (below ++ a ∷ above) (length below) ≡ Some a
split_here [] a above = refl
split_here (x ∷ below) a above = split_here below a above

pub split_take : (below : List Level) (a : Level) (above : List Level) → take (length below) (below ++ a ∷ above) ≡ below
split_take [] a above = refl
split_take (x ∷ below) a above = ap (λ ls. x ∷ ls) (split_take below a above)

pub split_low : (below : List Level) (a b : Level) (above : List Level) (j : ℕ) → j ≤ length below
    → take j (below ++ a ∷ above) ≡ take j (below ++ b ∷ above)
split_low [] a b above zero le = refl
split_low [] a b above (suc j) le = absurd (omega (arith, le))
split_low (x ∷ below) a b above zero le = refl
split_low (x ∷ below) a b above (suc j) le = ap (λ ls. x ∷ ls) (split_low below a b above j (omega (arith, le)))

-- there is an item at a place
pub item_at : (ls : List Level) (k : ℕ) → k < length ls → (l : Level) × (slice_get ls k ≡ Some l)
item_at [] k lt = absurd (omega (arith, lt))
item_at (x ∷ ls) zero lt = (x, refl)
item_at (x ∷ ls) (suc k) lt = item_at ls k (omega (arith, lt))

abbrev pub before_of : List Level → ℕ → Option Level
before_of levels j = slice_get (take j levels) (length (take j levels) - 1)

module _ (table : Table) (first last : List (Option ℕ)) (list : List Shortcut) (d : ℕ) (below : List Level) (a b : Level) (above : List Level)
    (better better' : List Bool) (falls : Falls a b)
    (followed_here : (r i second : ℕ) (route : Route) (place : Place) → slice_get table.routes r ≡ Some route → slice_get route.places i ≡ Some place
    → BoardsAt first d (slice_get below (length below - 1)) place.stop.0 second → slice_index_or better place.stop.0 false ≡ true
    → Exploited below b route table.buffer i second)
    (ready_stays : (x : ℕ) → slice_index_or better' x false ≡ false → slice_index b.ready.items x ≡ slice_index a.ready.items x)
    (walked_here : IsWalked list below b) (covers_here : Covers last b)
    (was : IsBetween table first last list d (length below) better (below ++ a ∷ above)) where
  abbrev old : List Level
  old = below ++ a ∷ above

  abbrev new : List Level
  new = below ++ b ∷ above

  level_of : (j : ℕ) (level : Level) → j ≢ length below → slice_get new j ≡ Some level → slice_get old j ≡ Some level
  level_of j level other is = split_get below a b above j other ∙ is

  here_is : (level : Level) → slice_get new (length below) ≡ Some level → b ≡ level
  here_is level is = same_Some b level (sym (split_here below b above) ∙ is)

  -- the second at which one boards was the same before, where the stop is not marked
  boards_was : (j x second : ℕ) (level : Level) → length below < j → slice_get new j ≡ Some level → (j ≡ length below + 1 → slice_index_or better' x false ≡ false)
      → BoardsAt first d (before_of new j) x second → BoardsAt first d (before_of old j) x second
  boards_was zero x second level after is skip boards = absurd (omega (arith, after))
  boards_was (suc i) x second level after is skip boards = elim (cases_lt (length below) i) [
    | inl later ↦
        let has : (l : Level) × (slice_get new i ≡ Some l) = item_at new i (omega (arith, slice_get_within new (suc i) level is)) in
        let was_has : slice_get old i ≡ Some has.0 = level_of i has.0 (λ e. omega (arith, later, e)) has.1 in
        subst (λ o. BoardsAt first d o x second) (level_before new i has.0 has.1 ∙ sym (level_before old i has.0 was_has)) boards
    | inr le ↦
        let e : length below ≡ i = omega (arith, le, after) in
        let new_at : slice_get new i ≡ Some b = ap (λ k. slice_get new k) (sym e) ∙ split_here below b above in
        let old_at : slice_get old i ≡ Some a = ap (λ k. slice_get old k) (sym e) ∙ split_here below a above in
        let now : second ≡ slice_index b.ready.items x = subst (λ o. BoardsAt first d o x second) (level_before new i b new_at) boards in
        subst (λ o. BoardsAt first d o x second) (sym (level_before old i a old_at)) (now ∙ ready_stays x (skip (omega (arith, e))))
  ]

  followed : (j r i second : ℕ) (level : Level) (route : Route) (place : Place) → slice_get new j ≡ Some level
      → slice_get table.routes r ≡ Some route → slice_get route.places i ≡ Some place
      → BoardsAt first d (before_of new j) place.stop.0 second
      → (j ≡ length below + 1 → slice_index_or better' place.stop.0 false ≡ false)
      → Exploited (take j new) level route table.buffer i second
  followed j r i second level route place is at_route at_place boards skip = elim (cases_lt j (length below)) [
    | inl before ↦
        let same : take j old ≡ take j new = split_low below a b above j (omega (arith, before)) in
        subst (λ ls. Exploited ls level route table.buffer i second) same
        (was.followed j r i second level route place (level_of j level (λ e. omega (arith, before, e)) is) at_route at_place
        (subst (λ ls. BoardsAt first d (slice_get ls (length ls - 1)) place.stop.0 second) (sym same) boards)
        (λ e. absurd (omega (arith, before, e))))
    | inr from ↦ elim (cases_lt (length below) j) [
      | inl after ↦
          exploited_all (take j old) (take j new) level level route table.buffer i second (all_fall_take (all_fall_split below a b above falls) j) (falls_same level)
          (was.followed j r i second level route place (level_of j level (λ e. omega (arith, after, e)) is) at_route at_place
          (boards_was j place.stop.0 second level after is skip boards)
          (λ e. absurd (omega (arith, after, e))))
      | inr upto ↦
          let e : length below ≡ j = omega (arith, from, upto) in
          subst (λ k. Exploited (take k new) level route table.buffer i second) e
          (subst (λ ls. Exploited ls level route table.buffer i second) (sym (split_take below b above))
          (subst (λ l. Exploited below l route table.buffer i second) (here_is level (ap (λ k. slice_get new k) e ∙ is))
          (here_followed (subst (λ ls. BoardsAt first d (slice_get ls (length ls - 1)) place.stop.0 second) (split_take below b above)
          (subst (λ k. BoardsAt first d (before_of new k) place.stop.0 second) (sym e) boards)))))
    ]
  ]
    where
      here_followed : BoardsAt first d (slice_get below (length below - 1)) place.stop.0 second → Exploited below b route table.buffer i second
      here_followed boards_here = elim (bool_cases (slice_index_or better place.stop.0 false)) [
        | inl marked ↦ followed_here r i second route place at_route at_place boards_here marked
        | inr unmarked ↦
            exploited_all below below a b route table.buffer i second (all_fall_same below) falls
            (subst (λ ls. Exploited ls a route table.buffer i second) (split_take below a above)
            (was.followed (length below) r i second a route place (split_here below a above) at_route at_place
            (subst (λ ls. BoardsAt first d (slice_get ls (length ls - 1)) place.stop.0 second) (sym (split_take below a above)) boards_here)
            (λ e. unmarked)))
      ]

  walked : (j : ℕ) (level : Level) → slice_get new j ≡ Some level → IsWalked list (take j new) level
  walked j level is = elim (cases_lt j (length below)) [
    | inl before ↦ subst (λ ls. IsWalked list ls level) (split_low below a b above j (omega (arith, before)))
        (was.walked j level (level_of j level (λ e. omega (arith, before, e)) is))
    | inr from ↦ elim (cases_lt (length below) j) [
      | inl after ↦ record {
        each = λ y x m transfer sure.
            reached_all (take j old) (take j new) level level x.0 _ (all_fall_take (all_fall_split below a b above falls) j) (falls_same level)
            ((was.walked j level (level_of j level (λ e. omega (arith, after, e)) is)).each y x m transfer sure);
      }
      | inr upto ↦
          let e : length below ≡ j = omega (arith, from, upto) in
          subst (λ k. IsWalked list (take k new) level) e
          (subst (λ ls. IsWalked list ls level) (sym (split_take below b above))
          (subst (λ l. IsWalked list below l) (here_is level (ap (λ k. slice_get new k) e ∙ is)) walked_here))
    ]
  ]

  covers : (j : ℕ) (level : Level) → slice_get new j ≡ Some level → Covers last level
  covers j level is = elim (cases_lt j (length below)) [
    | inl before ↦ was.covers j level (level_of j level (λ e. omega (arith, before, e)) is)
    | inr from ↦ elim (cases_lt (length below) j) [
      | inl after ↦ was.covers j level (level_of j level (λ e. omega (arith, after, e)) is)
      | inr upto ↦
          let e : length below ≡ j = omega (arith, from, upto) in
          subst (λ l. Covers last l) (here_is level (ap (λ k. slice_get new k) e ∙ is)) covers_here
    ]
  ]

  pub round_law : IsBetween table first last list d (length below + 1) better' (below ++ b ∷ above)
  round_law = record { followed = followed; walked = walked; covers = covers }
