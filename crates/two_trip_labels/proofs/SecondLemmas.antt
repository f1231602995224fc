-- Second rides on all routes.
use Rattle.std.proofs.Common.{◌≡◌, ◌≢◌, ℕ, ◌+◌, ◌<◌, ◌≤◌, inl, inr, List, length, get_or, take, refl, sym, ap, subst, ◌∙◌, Some}
use Rattle.std.proofs.lemmas.Bool.{cases_eq}
use Rattle.std.proofs.lemmas.List.Elements.{All-more}
use Rattle.std.proofs.lemmas.Option.{same_Some}
use Rattle.std.specs.Prelude.{slice_get, slice_index, IsTrue, All}
use Rattle.route_split.specs.declared.place.Place.{Place}
use Rattle.route_split.specs.declared.place.RouteCall.{RouteCall}
use Rattle.route_split.specs.Route.{Route, arrivals_of, departures_of}
use Rattle.move_model.specs.Shortcut.{IsLess}
use Rattle.piece_laws.specs.declared.labels.Ready.{Ready}
use Rattle.piece_laws.specs.declared.labels.Second.{Second}
use Rattle.piece_laws.specs.declared.labels.Held.{Held}
use Rattle.piece_laws.specs.Pieces.{second_entries, held_entries}
use Rattle.piece_laws.proofs.Entries.{not_less-trans}
use Rattle.two_trip_rides.specs.First.{Source}
use Rattle.two_trip_rides.specs.Second.{held_at, second_at, left_of, HeldFall, SecondsFall, SecondClosed, AreSecondRows}
use Rattle.two_trip_rides.proofs.SecondLemmas.{held_none, held_on, seconds_none, seconds_on}
use Rattle.two_trip_labels.specs.First.{AreRoutesOf}
use Rattle.two_trip_labels.specs.Second.{held_row, boarded_with, MayRide, RidesAt, HeldRowsFall, SecondGoes, SecondSound, IsCallRidden}

rows_none : (xs : List (List Held)) → HeldRowsFall xs xs
rows_none xs = record { many = refl; each = λ r. held_none (held_row xs r) }

rows_on : (xs ys zs : List (List Held)) → HeldRowsFall xs ys → HeldRowsFall ys zs → HeldRowsFall xs zs
rows_on xs ys zs f g = record { many = g.many ∙ f.many; each = λ r. held_on (held_row xs r) (held_row ys r) (held_row zs r) (f.each r) (g.each r) }

-- closed with lesser keys, too
closed_falls : (route : Route) (foot : List ℕ) (z : ℕ) (places : List ℕ) (ready : List Ready) (held : List Held) (best best' : List Second) → SecondsFall best best'
    → SecondClosed route foot z places ready held best → SecondClosed route foot z places ready held best'
closed_falls route foot z places ready held best best' falls c = record {
  goes = c.goes;
  leaves = λ k off trip at may is. elim (c.leaves k off trip at may is) [
    | inl w ↦ inl w
    | inr l ↦ inr (not_less-trans (second_entries (second_at best' off.stop.0)) (second_entries (second_at best off.stop.0))
        (second_entries (left_of (slice_index (arrivals_of route (k + 1)) (held_at held k).row) trip (held_at held k))) refl (falls.each off.stop.0) l)
  ];
}

module _ (routes : List Route) (foot : List ℕ) (z : ℕ) (places : List ℕ) (ready : List Ready) where
  pub goes_none : (rows : List (List Held)) (best : List Second) → SecondGoes routes foot z places ready rows rows best best
  goes_none rows best = record { fit = λ h. h; rows_fall = rows_none rows; best_fall = seconds_none best; closed = λ h. h }

  pub goes_on : (rows rows' rows'' : List (List Held)) (best best' best'' : List Second) → SecondGoes routes foot z places ready rows rows' best best' → SecondGoes routes foot z places ready rows' rows'' best' best''
      → SecondGoes routes foot z places ready rows rows'' best best''
  goes_on rows rows' rows'' best best' best'' f g = record {
    fit = λ h. g.fit (f.fit h);
    rows_fall = rows_on rows rows' rows'' f.rows_fall g.rows_fall;
    best_fall = seconds_on best best' best'' f.best_fall g.best_fall;
    closed = λ h. g.closed (f.closed h);
  }

  -- one route is boarded
  module _ (rows rows' : List (List Held)) (best best' : List Second) (at k : ℕ) (label : Ready) (buffer : ℕ) (route : Route) (is : slice_get routes at ≡ Some route)
      (many : length rows' ≡ length rows) (others : (r : ℕ) → r ≢ at → held_row rows' r ≡ held_row rows r)
      (boards : RidesAt route k label buffer foot z places ready (held_row rows at) (held_row rows' at) best best') where
    here : (r : ℕ) (other : Route) → r ≡ at → slice_get routes r ≡ Some other → other ≡ route
    here r other e got = same_Some other route (sym got ∙ ap (λ (i : ℕ). slice_get routes i) e ∙ is)

    pub goes_board : SecondGoes routes foot z places ready rows rows' best best'
    goes_board = record {
      fit = λ h. record {
        many = many ∙ h.many;
        each = λ r other got. elim (cases_eq r at) [
          | inl e ↦ ap (λ (i : ℕ). length (held_row rows' i)) e ∙ boards.held_fall.as_many ∙ sym (ap (λ (i : ℕ). length (held_row rows i)) e) ∙ h.each r other got
          | inr ne ↦ ap length (others r ne) ∙ h.each r other got
        ];
      };
      rows_fall = record {
        many = many;
        each = λ r. elim (cases_eq r at) [
          | inl e ↦ subst (λ (i : ℕ). HeldFall (held_row rows i) (held_row rows' i)) (sym e) boards.held_fall
          | inr ne ↦ subst (λ (xs : List Held). HeldFall (held_row rows r) xs) (sym (others r ne)) (held_none (held_row rows r))
        ];
      };
      best_fall = boards.best_fall;
      closed = λ h. record {
        each = λ r other got. elim (cases_eq r at) [
          | inl e ↦
              let same = here r other e got in
              subst (λ (i : ℕ). SecondClosed other foot z places ready (held_row rows' i) best') (sym e)
              (subst (λ (o : Route). SecondClosed o foot z places ready (held_row rows' at) best') (sym same) (boards.closed (h.each at route is)))
          | inr ne ↦ subst (λ (xs : List Held). SecondClosed other foot z places ready xs best') (sym (others r ne)) (closed_falls other foot z places ready (held_row rows r) best best' boards.best_fall (h.each r other got))
        ];
      };
    }

    pub sound_board : (s : Source) → AreRoutesOf s.network.trips routes → MayRide s route k label buffer → SecondSound s routes rows best → SecondSound s routes rows' best'
    sound_board s of may h = record {
      rows_are = record {
        each = λ r other got. elim (cases_eq r at) [
          | inl e ↦
              let same = here r other e got in
              subst (λ (i : ℕ). AreSecondRows s other (held_row rows' i)) (sym e)
              (subst (λ (o : Route). AreSecondRows s o (held_row rows' at)) (sym same) (boards.rows_sound s may (h.rows_are.each at route is)))
          | inr ne ↦ subst (λ (xs : List Held). AreSecondRows s other xs) (sym (others r ne)) (h.rows_are.each r other got)
        ];
      };
      best_are = boards.sound s (of.each at route is) may h.best_are;
    }

-- what is held of a call stays so
pub ridden_falls : (routes : List Route) (label : Ready) (buffer : ℕ) (rows rows' : List (List Held)) (c : RouteCall) → HeldRowsFall rows rows' → IsCallRidden routes label buffer rows c → IsCallRidden routes label buffer rows' c
ridden_falls routes label buffer rows rows' c falls b = record {
  each = λ p route on got at may more within late.
      not_less-trans (held_entries (held_at (held_row rows' c.route) c.call)) (held_entries (held_at (held_row rows c.route) c.call)) (held_entries (boarded_with p on label)) refl
      ((falls.each c.route).each c.call) (b.each p route on got at may more within late);
}

-- one call more
pub ridden_more : (routes : List Route) (label : Ready) (buffer : ℕ) (rows rows' : List (List Held)) (calls : List RouteCall) (m : ℕ) (d : RouteCall) → m < length calls → HeldRowsFall rows rows'
    → All (IsCallRidden routes label buffer rows) (take m calls) → IsCallRidden routes label buffer rows' (get_or calls m d) → All (IsCallRidden routes label buffer rows') (take (m + 1) calls)
ridden_more routes label buffer rows rows' calls m d within falls all this =
    All-more (IsCallRidden routes label buffer rows') calls m d within (λ k e low. ridden_falls routes label buffer rows rows' (get_or (take m calls) k e) falls (all k e low)) this

-- what is boarded at a call
pub ride_ridden : (routes : List Route) (label : Ready) (buffer : ℕ) (foot : List ℕ) (z : ℕ) (places : List ℕ) (ready : List Ready) (rows rows' : List (List Held)) (best best' : List Second) (c : RouteCall) (route : Route)
    → slice_get routes c.route ≡ Some route → RidesAt route c.call label buffer foot z places ready (held_row rows c.route) (held_row rows' c.route) best best' → IsCallRidden routes label buffer rows' c
ride_ridden routes label buffer foot z places ready rows rows' best best' c route is boards = record {
  each = λ p other on got at may more within late. same p other on (same_Some other route (sym got ∙ is)) at may more within late;
}
  where
    same : (p : ℕ) (other : Route) (on : Place) → other ≡ route → slice_get other.places c.call ≡ Some on → IsTrue on.board → c.call + 1 < length other.places → p < length other.trips
        → label.ready + buffer ≤ slice_index (departures_of other c.call) p → ¬ (IsLess (held_entries (boarded_with p on label)) (held_entries (held_at (held_row rows' c.route) c.call)))
    same p other on e at may more within late =
        boards.boarded on p (subst (λ (r : Route). slice_get r.places c.call ≡ Some on) e at) may (subst (λ (r : Route). c.call + 1 < length r.places) e more)
        (subst (λ (r : Route). p < length r.trips) e within) (subst (λ (r : Route). label.ready + buffer ≤ slice_index (departures_of r c.call) p) e late)
