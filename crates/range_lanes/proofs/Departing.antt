-- From one second to the second before.
use Rattle.std.proofs.Common.{◌≡◌, ℕ, zero, suc, ◌+◌, ◌-◌, ◌^◌, ◌<◌, ◌≤◌, inl, inr, Bool, true, false, List, length, take, refl, sym, ap, ◌∙◌, subst, arith, Option, Some, None}
use Rattle.std.specs.Prelude.{slice_get, slice_index, slice_index_or, All, Contains, IsTrue}
use Rattle.std.proofs.lemmas.Bool.{cases_eq, cases_lt}
use Rattle.std.proofs.lemmas.List.{get_or_past}
use Rattle.std.proofs.lemmas.List.Elements.{All-get_or}
use Rattle.std.proofs.lemmas.Option.{slice_get_within, same_Some, get_or_from_slice_get}
use Rattle.move_model.specs.declared.network.Network.{Network}
use Rattle.move_model.specs.declared.network.StopNo.{StopNo}
use Rattle.move_model.specs.declared.network.Call.{Call}
use Rattle.move_model.specs.declared.journey.Shortcut.{Shortcut}
use Rattle.route_split.specs.declared.place.Place.{Place}
use Rattle.route_split.specs.Route.{Route, IsRoute, departures_of}
use Rattle.route_split.specs.Table.{Table}
use Rattle.raptor_rounds.specs.Answers.{IsEntryWithin}
use Rattle.raptor_rounds.specs.Ways.{Query}
use Rattle.raptor_rounds.proofs.TimesLemmas.{stop_within}
use Rattle.range_lanes.specs.declared.level.Step.{Step}
use Rattle.range_lanes.specs.declared.level.Level.{Level}
use Rattle.range_lanes.specs.Levels.{Reached, Exploited, CatchesFrom, Fits, IsSound}
use Rattle.range_lanes.specs.State.{BoardsAt, IsWalked, IsClosed, IsBetween, AreSound, MarksSeeds, IsBlank}
use Rattle.range_lanes.proofs.Complete.{level_before}
use Rattle.range_lanes.proofs.RoundLaw.{item_at, before_of}
use Rattle.range_lanes.proofs.Exploiting.{route_whole, exploited_never}

unmarked : (b : Bool) → b ≡ true → b ≡ false → (A : Type 0) → A
unmarked b marked plain A = absurd (cc)

boards_some : (first : List (Option ℕ)) (d e x second : ℕ) (o : Option Level) (l : Level) → o ≡ Some l → BoardsAt first d o x second → BoardsAt first e o x second
boards_some first d e x second o l is boards =
    subst (λ v. BoardsAt first e v x second) (sym is) (subst (λ v. BoardsAt first d v x second) is boards)

module _ (table : Table) (first last : List (Option ℕ)) (list : List Shortcut) (d : ℕ) (seeds : List Bool) (levels : List Level)
    (marks : MarksSeeds table first d seeds) (closed : IsClosed table first last list (d + 1) levels) where
  first_followed : (r i second : ℕ) (level : Level) (route : Route) (place : Place) → slice_get levels 0 ≡ Some level
      → slice_get table.routes r ≡ Some route → slice_get route.places i ≡ Some place
      → (m : ℕ) × (slice_get first place.stop.0 ≡ Some (Some m)) × (second ≡ d + m)
      → slice_index_or seeds place.stop.0 false ≡ false → Exploited (take 0 levels) level route table.buffer i second
  first_followed r i second level route place is at_route at_place boards skip = record {
    each = λ on p at may lt in_time.
        let same : place ≡ on = same_Some place on (sym at_place ∙ at) in
        elim (cases_eq (slice_index (departures_of route i) p) (d + boards.0 + table.buffer)) [
          | inl e ↦ elim (cases_lt (i + 1) (length route.places)) [
            | inl more ↦ unmarked _ (marks.each r i boards.0 p route place at_route at_place (subst (λ (v : Place). IsTrue v.board) (sym same) may) more lt boards.1 e) skip _
            | inr ends ↦ inr (record { each = λ j off after at_off may_off. absurd (omega (arith, ends, after, slice_get_within route.places j off at_off)) })
          ]
          | inr other ↦
              (((closed.each 0 level is).followed).each r i (d + 1 + boards.0) route place at_route at_place (boards.0, boards.1, refl)).each on p at may lt
              (omega (arith, in_time, boards.2, other))
        ];
  }

  followed : (j r i second : ℕ) (level : Level) (route : Route) (place : Place) → slice_get levels j ≡ Some level
      → slice_get table.routes r ≡ Some route → slice_get route.places i ≡ Some place → BoardsAt first d (before_of levels j) place.stop.0 second
      → (j ≡ 0 → slice_index_or seeds place.stop.0 false ≡ false) → Exploited (take j levels) level route table.buffer i second
  followed zero r i second level route place is at_route at_place boards skip =
      first_followed r i second level route place is at_route at_place boards (skip refl)
  followed (suc j) r i second level route place is at_route at_place boards skip =
      let has : (l : Level) × (slice_get levels j ≡ Some l) = item_at levels j (omega (arith, slice_get_within levels (suc j) level is)) in
      (closed.each (suc j) level is).followed.each r i second route place at_route at_place
      (boards_some first d (d + 1) place.stop.0 second (before_of levels (suc j)) has.0 (level_before levels j has.0 has.1) boards)

  pub seeds_law : IsBetween table first last list d 0 seeds levels
  seeds_law = record {
    followed = followed;
    walked = λ j level is. (closed.each j level is).walked;
    covers = λ j level is. (closed.each j level is).covers;
  }

level_of : (stops : ℕ) (levels : List Level) → All (IsBlank stops) levels → (k : ℕ) (level : Level) → slice_get levels k ≡ Some level → IsBlank stops level
level_of stops levels all k level is =
    subst (IsBlank stops) (get_or_from_slice_get levels k level level is) (All-get_or (IsBlank stops) levels k level (slice_get_within levels k level is) all)

entry_within : (stops : ℕ) (list : List Shortcut) → All (IsEntryWithin stops) list → (e : Shortcut) → Contains list e → IsEntryWithin stops e
entry_within stops list all e has = subst (IsEntryWithin stops) has.2 (All-get_or (IsEntryWithin stops) list has.0 e has.1 all)

blank_walked : (stops : ℕ) (list : List Shortcut) (below : List Level) (level : Level) → All (IsEntryWithin stops) list → IsBlank stops level → IsWalked list below level
blank_walked stops list below level entries blank = record {
  each = λ y x m transfer sure. elim (cases_lt y.0 stops) [
    | inl lt ↦ absurd (omega (arith, sure, blank.left y.0 lt))
    | inr past ↦ elim transfer [
      | inl stays ↦
          let none : slice_index level.ready.items y.0 ≡ 0 = get_or_past level.ready.items y.0 0 (omega (arith, past, blank.fits.ready)) in
          Reached.here (inl (subst (λ (v : StopNo). slice_index level.ready.items v.0 ≤ slice_index level.left.items y.0 + m) stays.0 (omega (arith, none))))
      | inr listed ↦ absurd (omega (arith, past, (entry_within stops list entries _ listed).from_within))
    ]
  ];
}

module _ (table : Table) (first last : List (Option ℕ)) (list : List Shortcut) (d : ℕ) (seeds : List Bool) (levels : List Level)
    (whole : All (IsRoute table.stops) table.routes) (stops_are : table.stops ≡ length last) (entries : All (IsEntryWithin (length last)) list)
    (all : (x : ℕ) → x < length last → slice_index_or seeds x false ≡ true) (blank : All (IsBlank (length last)) levels) where
  blank_followed : (j r i second : ℕ) (level : Level) (route : Route) (place : Place) → slice_get levels j ≡ Some level
      → slice_get table.routes r ≡ Some route → slice_get route.places i ≡ Some place → BoardsAt first d (before_of levels j) place.stop.0 second
      → (j ≡ 0 → slice_index_or seeds place.stop.0 false ≡ false) → Exploited (take j levels) level route table.buffer i second
  blank_followed zero r i second level route place is at_route at_place boards skip =
      let within = stop_within table.stops route i place (route_whole table.stops table.routes whole r route at_route) at_place in
      unmarked _ (all place.stop.0 (omega (arith, within, stops_are))) (skip refl) _
  blank_followed (suc j) r i second level route place is at_route at_place boards skip =
      let has : (l : Level) × (slice_get levels j ≡ Some l) = item_at levels j (omega (arith, slice_get_within levels (suc j) level is)) in
      let e : second ≡ slice_index has.0.ready.items place.stop.0 =
      subst (λ o. BoardsAt first d o place.stop.0 second) (level_before levels j has.0 has.1) boards in
      let route_is = route_whole table.stops table.routes whole r route at_route in
      let within = stop_within table.stops route i place route_is at_place in
      exploited_never table.stops (take (suc j) levels) level route table.buffer i second route_is
      (omega (arith, e, (level_of (length last) levels blank j has.0 has.1).ready place.stop.0 (omega (arith, within, stops_are))))

  pub blank_between : IsBetween table first last list d 0 seeds levels
  blank_between = record {
    followed = blank_followed;
    walked = λ j level is. blank_walked (length last) list (take j levels) level entries (level_of (length last) levels blank j level is);
    covers = λ j level is. record {
      each = λ y m sure entry.
          absurd (omega (arith, sure, (level_of (length last) levels blank j level is).left y.0 (slice_get_within last y.0 (Some m) entry)));
    };
  }

pub blank_sound : (q : Query) (stops : ℕ) (levels : List Level) → All (IsBlank stops) levels → AreSound q levels
blank_sound q stops levels all = record {
  each = λ k level is.
      let blank = level_of stops levels all k level is in
      record {
        left = λ y step at sure. absurd (omega (arith, sure, blank.left y.0 (omega (arith, slice_get_within level.steps.items y.0 step at, blank.fits.steps))));
        ready = record { each = λ x z at sure. absurd (omega (arith, sure, blank.ready x.0 (omega (arith, slice_get_within level.from.items x.0 z at, blank.fits.from)))) };
        best = λ lt. absurd (omega (arith, lt, blank.best));
      };
}

-- a journey that leaves at a second or later leaves at the second before or later
module _ (n : Network) (first last : List (Option ℕ)) (list : List Shortcut) (d e : ℕ) (earlier : e ≤ d) where
  abbrev late : Query
  late = record { network = n; first = first; last = last; list = list; depart = d }

  abbrev early : Query
  early = record { network = n; first = first; last = last; list = list; depart = e }

  catches_earlier : (o : Option Level) (step : Step) (on : Call) → CatchesFrom late o step on → CatchesFrom early o step on
  catches_earlier None step on c = (c.0, c.1, omega (arith, earlier, c.2))
  catches_earlier (Some level) step on c = c

  level_earlier : (below : List Level) (level : Level) → IsSound late below level → IsSound early below level
  level_earlier below level was = record {
    left = λ y step at sure.
        let a = was.left y step at sure in
        record {
          on = a.on;
          off = a.off;
          is_ride = a.is_ride;
          stop_is = a.stop_is;
          by_second = a.by_second;
          catches = catches_earlier _ step a.on a.catches;
        };
    ready = record {
      each = λ x z at sure.
          let w = was.ready.each x z at sure in
          record { seconds = w.seconds; transfer = w.transfer; left = w.left; by_second = w.by_second };
    };
    best = λ lt.
        let b = was.best lt in
        record { seconds = b.seconds; walk = b.walk; left = b.left; by_second = b.by_second };
  }

  pub sound_earlier : (levels : List Level) → AreSound late levels → AreSound early levels
  sound_earlier levels was = record { each = λ k level is. level_earlier (take k levels) level (was.each k level is) }
