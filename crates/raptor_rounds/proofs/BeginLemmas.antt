-- The start of a run.
use Rattle.std.proofs.Common.{◌≡◌, ◌≢◌, ℕ, ◌+◌, ◌-◌, ◌^◌, ◌<◌, ◌≤◌, inl, inr, min, List, [], length, set, subst, sym, refl, ap, ◌∙◌, arith, true, false, Option, Some, None, get_or-set_same, get_or-set_other}
use Rattle.std.specs.Prelude.{All, MatchOption, slice_get, slice_index, slice_index_or, slice_set}
use Rattle.std.proofs.lemmas.Option.{slice_get_within, same_Some, get_or_from_slice_get}
use Rattle.std.proofs.lemmas.List.{length-set, get_or_past}
use Rattle.std.proofs.lemmas.List.Elements.{All-get_or}
use Rattle.std.proofs.lemmas.Bool.{cases_lt, false≢true}
use Rattle.move_model.specs.declared.network.StopNo.{StopNo}
use Rattle.move_model.specs.declared.journey.Ride.{Ride}
use Rattle.move_model.specs.declared.journey.Shortcut.{Shortcut}
use Rattle.move_model.specs.Listed.{HasEntry, HasTransfer, IsListed}
use Rattle.move_model.specs.Listed.IsListed.{begins}
use Rattle.route_split.specs.declared.place.Place.{Place}
use Rattle.route_split.specs.Route.{Route, IsRoute}
use Rattle.route_split.specs.Table.{Table}
use Rattle.raptor_rounds.specs.declared.labels.Step.{Step}
use Rattle.raptor_rounds.specs.declared.labels.Found.{Found}
use Rattle.raptor_rounds.specs.declared.labels.Ready.{Ready}
use Rattle.raptor_rounds.specs.declared.labels.Best.{Best}
use Rattle.raptor_rounds.specs.Ways.{Query, IsReady, HasChain}
use Rattle.raptor_rounds.specs.Ways.IsReady.{at_first, goes_on}
use Rattle.raptor_rounds.specs.Ways.HasChain.{none}
use Rattle.raptor_rounds.specs.Labels.{Covers}
use Rattle.raptor_rounds.specs.Answers.{IsEntryWithin}
use Rattle.raptor_rounds.specs.Least.{Closed, Sizes, FirstKnown, Stands, IsBestOf, Asks, IsReset}
use Rattle.raptor_rounds.proofs.TimesLemmas.{departs_before, stop_within}

pub start_known : (first : List (Option ℕ)) (depart x v : ℕ) (walk : Option ℕ) → slice_get first x ≡ Some walk
    → MatchOption walk (v ≡ 2 ^ 32 - 1) (λ m. v ≡ min (depart + m) (2 ^ 32 - 1)) → (m : ℕ) → slice_get first x ≡ Some (Some m) → v ≤ depart + m
start_known first depart x v None at is m e = absurd (none_some m (same_Some None (Some m) (sym at ∙ e)))
  where
    none_some : (m : ℕ) → None ≡ Some m → ⊥
    none_some m e = cc
start_known first depart x v (Some k) at is m e =
    let same : k ≡ m = same_Some k m (same_Some (Some k) (Some m) (sym at ∙ e)) in omega (arith, is, same)

pub start_sound : (first : List (Option ℕ)) (depart x v : ℕ) (walk : Option ℕ) → slice_get first x ≡ Some walk
    → MatchOption walk (v ≡ 2 ^ 32 - 1) (λ m. v ≡ min (depart + m) (2 ^ 32 - 1)) → v < 2 ^ 32 - 1 → (m : ℕ) × (slice_get first x ≡ Some (Some m)) × (v ≡ depart + m)
start_sound first depart x v None at is lt = absurd (omega (arith, is, lt))
start_sound first depart x v (Some k) at is lt = (k, at, omega (arith, is, lt))

pub start_bounded : (depart v : ℕ) (walk : Option ℕ) → MatchOption walk (v ≡ 2 ^ 32 - 1) (λ m. v ≡ min (depart + m) (2 ^ 32 - 1)) → v ≤ 2 ^ 32 - 1
start_bounded depart v None is = omega (arith, is)
start_bounded depart v (Some k) is = omega (arith, is)

-- a stop more
module _ (first : List (Option ℕ)) (depart n v : ℕ) (walk : Option ℕ) (ready ready' : Ready) (found : Found)
    (was : IsReset first depart n ready found) (at : slice_get first n ≡ Some walk)
    (is : MatchOption walk (v ≡ 2 ^ 32 - 1) (λ m. v ≡ min (depart + m) (2 ^ 32 - 1)))
    (as_long : length ready'.seconds ≡ length ready.seconds)
    (now : slice_index ready'.seconds n ≡ v)
    (others : (x : ℕ) → x ≢ n → slice_index ready'.seconds x ≡ slice_index ready.seconds x)
    (by_now : v < 2 ^ 32 - 1 → slice_index ready'.by.items n ≡ 0)
    (by_others : (x : ℕ) → x ≢ n → slice_index ready'.by.items x ≡ slice_index ready.by.items x)
    (marked_now : slice_index_or ready'.better n false ≡ false → v ≡ 2 ^ 32 - 1)
    (marked_others : (x : ℕ) → x ≢ n → slice_index_or ready'.better x false ≡ slice_index_or ready.better x false) where
  now_at : (x : ℕ) → n ≡ x → slice_index ready'.seconds x ≡ v
  now_at x same = subst (λ k. slice_index ready'.seconds k ≡ v) same now

  known_more : (x m : ℕ) → x < n + 1 → slice_get first x ≡ Some (Some m) → slice_index ready'.seconds x ≤ depart + m
  known_more x m lt e = elim (cases_lt x n) [
    | inl less ↦ let other : x ≢ n = omega arith in omega (arith, others x other, was.known x m less e)
    | inr ge ↦ let same : n ≡ x = omega arith in
        omega (arith, now_at x same, start_known first depart n v walk at is m (subst (λ k. slice_get first k ≡ Some (Some m)) (sym same) e))
  ]

  sound_more : (x : ℕ) → x < n + 1 → slice_index ready'.seconds x < 2 ^ 32 - 1 → (m : ℕ) × (slice_get first x ≡ Some (Some m)) × (slice_index ready'.seconds x ≡ depart + m)
  sound_more x lt sure = elim (cases_lt x n) [
    | inl less ↦ let other : x ≢ n = omega arith in
        let old = was.sound x less (omega (arith, others x other, sure)) in (old.0, old.1, others x other ∙ old.2)
    | inr ge ↦ let same : n ≡ x = omega arith in
        let new = start_sound first depart n v walk at is (omega (arith, now_at x same, sure)) in
        (new.0, subst (λ k. slice_get first k ≡ Some (Some new.0)) same new.1, now_at x same ∙ new.2)
  ]

  by_more : (x : ℕ) → x < n + 1 → slice_index ready'.seconds x < 2 ^ 32 - 1 → slice_index ready'.by.items x ≡ 0
  by_more x lt sure = elim (cases_lt x n) [
    | inl less ↦ let other : x ≢ n = omega arith in by_others x other ∙ was.by x less (omega (arith, others x other, sure))
    | inr ge ↦ let same : n ≡ x = omega arith in subst (λ k. slice_index ready'.by.items k ≡ 0) same (by_now (omega (arith, now_at x same, sure)))
  ]

  bounded_more : (x : ℕ) → x < n + 1 → slice_index ready'.seconds x ≤ 2 ^ 32 - 1
  bounded_more x lt = elim (cases_lt x n) [
    | inl less ↦ let other : x ≢ n = omega arith in omega (arith, others x other, was.bounded x less)
    | inr ge ↦ let same : n ≡ x = omega arith in omega (arith, now_at x same, start_bounded depart v walk is)
  ]

  marked_more : (x : ℕ) → x < n + 1 → slice_index_or ready'.better x false ≡ false → slice_index ready'.seconds x ≡ 2 ^ 32 - 1
  marked_more x lt e = elim (cases_lt x n) [
    | inl less ↦ let other : x ≢ n = omega arith in others x other ∙ was.marked x less (sym (marked_others x other) ∙ e)
    | inr ge ↦ let same : n ≡ x = omega arith in now_at x same ∙ marked_now (subst (λ k. slice_index_or ready'.better k false ≡ false) (sym same) e)
  ]

  pub reset_more : IsReset first depart (n + 1) ready' found
  reset_more = record {
    known = known_more;
    sound = sound_more;
    by = by_more;
    bounded = bounded_more;
    marked = marked_more;
    rest = λ x from lt. let other : x ≢ n = omega arith in others x other ∙ was.rest x (omega arith) (omega (arith, lt, as_long));
    left = was.left;
  }

-- a stop that the first row doesn't lead to
pub reset_none : (first : List (Option ℕ)) (depart n v : ℕ) (walk : Option ℕ) (ready : Ready) (found : Found) → IsReset first depart n ready found → slice_get first n ≡ Some walk
    → MatchOption walk (v ≡ 2 ^ 32 - 1) (λ m. v ≡ min (depart + m) (2 ^ 32 - 1)) → 2 ^ 32 - 1 ≤ v → n < length ready.seconds → IsReset first depart (n + 1) ready found
reset_none first depart n v walk ready found was at is never within =
    let v_is : v ≡ 2 ^ 32 - 1 = omega (arith, start_bounded depart v walk is, never) in
    reset_more first depart n v walk ready ready found was at is refl (was.rest n (omega arith) within ∙ sym v_is) (λ x other. refl)
    (λ lt. absurd (omega (arith, lt, never))) (λ x other. refl) (λ e. v_is) (λ x other. refl)

-- a stop that it does lead to
pub reset_some : (first : List (Option ℕ)) (depart n v : ℕ) (walk : Option ℕ) (ready ready' : Ready) (found : Found) → IsReset first depart n ready found → slice_get first n ≡ Some walk
    → MatchOption walk (v ≡ 2 ^ 32 - 1) (λ m. v ≡ min (depart + m) (2 ^ 32 - 1)) → n < length ready.seconds → n < length ready.by.items → n < length ready.better
    → ready'.seconds ≡ set ready.seconds n v → ready'.by.items ≡ set ready.by.items n 0 → ready'.better ≡ set ready.better n true → IsReset first depart (n + 1) ready' found
reset_some first depart n v walk ready ready' found was at is in_seconds in_by in_better seconds_is by_is better_is =
    reset_more first depart n v walk ready ready' found was at is (ap length seconds_is ∙ length-set ready.seconds n v)
    (ap (λ l. slice_index l n) seconds_is ∙ get_or-set_same ready.seconds n v 0 in_seconds)
    (λ x other. ap (λ l. slice_index l x) seconds_is ∙ get_or-set_other ready.seconds n x v 0 other)
    (λ lt. ap (λ l. slice_index l n) by_is ∙ get_or-set_same ready.by.items n 0 0 in_by)
    (λ x other. ap (λ l. slice_index l x) by_is ∙ get_or-set_other ready.by.items n x 0 0 other)
    (λ e. absurd (false≢true (sym e ∙ (ap (λ l. slice_index_or l n false) better_is ∙ get_or-set_same ready.better n true false in_better))))
    (λ x other. ap (λ l. slice_index_or l x false) better_is ∙ get_or-set_other ready.better n x true false other)

module _ (table : Table) (list : List Shortcut) (first last : List (Option ℕ)) (depart : ℕ) (ready : Ready) (found : Found)
    (sizes : Sizes table.stops ready found) (is : IsReset first depart table.stops ready found) (best : found.best ≡ 2 ^ 64 - 1)
    (whole : All (IsRoute table.stops) table.routes) (within : All (IsEntryWithin table.stops) list)
    (as_first : length first ≡ table.stops) (as_last : length last ≡ table.stops) where
  route_whole : (r : ℕ) (route : Route) → slice_get table.routes r ≡ Some route → IsRoute table.stops route
  route_whole r route at = subst (IsRoute table.stops) (get_or_from_slice_get table.routes r route route at)
      (All-get_or (IsRoute table.stops) table.routes r route (slice_get_within table.routes r route at) whole)

  none_left : (y : ℕ) → y < table.stops → slice_index found.left y ≡ 2 ^ 32 - 1
  none_left y lt = is.left y (omega (arith, lt, sizes.left))

  walked_first : (y x : StopNo) (m : ℕ) → HasTransfer list y x m → min (slice_index ready.seconds x.0) found.best ≤ slice_index found.left y.0 + m
  walked_first y x m (inl (same, still)) = elim (cases_lt y.0 table.stops) [
    | inl lt ↦ omega (arith, is.bounded y.0 lt, none_left y.0 lt, ap (λ (v : StopNo). slice_index ready.seconds v.0) same)
    | inr ge ↦ omega (arith, get_or_past ready.seconds y.0 0 (omega (arith, ge, sizes.seconds)), ap (λ (v : StopNo). slice_index ready.seconds v.0) same)
  ]
  walked_first y x m (inr (i, lt, at)) =
      let e : Shortcut = record { from = y; to = x; seconds = m } in
      let w : IsEntryWithin table.stops e = subst (IsEntryWithin table.stops) at (All-get_or (IsEntryWithin table.stops) list i e lt within) in
      omega (arith, is.bounded x.0 w.to_within, none_left y.0 w.from_within)

  pub closed_first : Closed table list ready found
  closed_first = record {
    scanned = λ r i route place at at_place not_better.
        let known = is.marked place.stop.0 (stop_within table.stops route i place (route_whole r route at) at_place) not_better in
        record {
          each = λ j p on off forward at_on at_off may_on may_off in_row sooner early.
              let on_is : place ≡ on = same_Some place on (sym at_place ∙ at_on) in
              absurd (omega (arith, departs_before table.stops route i p (route_whole r route at), early, known, ap (λ (v : Place). slice_index ready.seconds v.stop.0) on_is));
        };
    walked = record { each = walked_first };
  }

  pub covers_first : Covers last found
  covers_first = record { each = λ x m lt entry. absurd (omega (arith, lt, none_left x.0 (omega (arith, slice_get_within last x.0 (Some m) entry, as_last)))) }

  module _ (q : Query) (asks : Asks q table first last list depart) (slots : List Step) where
    entry_first : (x : StopNo) (m : ℕ) → HasEntry q.first x m → slice_get first x.0 ≡ Some (Some m)
    entry_first x m entry = subst (λ row. slice_get row x.0 ≡ Some (Some m)) asks.first_is entry

    first_known : FirstKnown q ready.seconds
    first_known = record {
      each = λ x m entry.
          let at = entry_first x m entry in
          omega (arith, is.known x.0 m (omega (arith, slice_get_within first x.0 (Some m) at, as_first)) at, asks.depart_is);
    }

    none_before : (rides : List Ride) (x : StopNo) (r : ℕ) → length rides ≤ 0 → IsReady q rides x r → min (slice_index ready.seconds x.0) found.best ≤ r
    none_before rides x r few (at_first {m = m} entry sum) = omega (arith, first_known.each x m entry, sum)
    none_before rides x r few (goes_on {rides = before} a b c d e) = absurd (omega (arith, few))

    pub stands_first : Stands q 0 0 slots ready found
    stands_first = record {
      first = first_known;
      ready_least = record { each = none_before };
      ready_sound = record {
        each = λ x lt sure.
            let here : x.0 < table.stops = omega (arith, lt, sizes.seconds) in
            let way = is.sound x.0 here sure in
            record {
              rides = [];
              chain = subst (λ b. HasChain slots 0 b []) (sym (is.by x.0 here sure)) none;
              few = omega arith;
              second = slice_index ready.seconds x.0;
              no_later = omega arith;
              is_ready = at_first (subst (λ row. slice_get row x.0 ≡ Some (Some way.0)) (sym asks.first_is) way.1) (omega (arith, way.2, asks.depart_is));
            };
      };
      found_sound = record {
        each = λ x step at lt. absurd (omega (arith, lt, none_left x.0 (omega (arith, slice_get_within found.steps.items x.0 step at, sizes.steps))));
        best = λ lt. absurd (omega (arith, lt, best));
      };
    }

    no_rides : (rides : List Ride) (arrive second : ℕ) → length rides ≤ 0 → IsListed q.network q.first q.last q.list q.depart rides arrive → second ≤ arrive
    no_rides rides arrive second few (begins {rides = rest} a b c d) = absurd (omega (arith, few))

    pub best_first : (bests : List Best) (step : Step) (j : ℕ) (b : Best) → 0 < length bests → j ≤ 0
        → slice_get (slice_set bests 0 (record { second = found.best; step = step })) j ≡ Some b → IsBestOf q slots 0 j b
    best_first bests step j b room few at =
        let now : Best = record { second = found.best; step = step } in
        let zero_is : j ≡ 0 = omega arith in
        let at0 : slice_get (slice_set bests 0 now) 0 ≡ Some b = subst (λ k. slice_get (slice_set bests 0 now) k ≡ Some b) zero_is at in
        let same : now ≡ b = sym (get_or-set_same bests 0 now b room) ∙ get_or_from_slice_get (slice_set bests 0 now) 0 b b at0 in
        let second_is : found.best ≡ b.second = ap (λ (v : Best). v.second) same in
        record {
          sound = λ lt. absurd (omega (arith, lt, best, second_is));
          least = λ rides arrive many listed. no_rides rides arrive b.second (omega arith) listed;
        }
