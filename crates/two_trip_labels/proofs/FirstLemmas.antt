-- First rides on all routes.
use Rattle.std.proofs.Common.{◌≡◌, ◌≢◌, ℕ, ◌+◌, ◌<◌, ◌≤◌, inl, inr, List, length, get_or, take, refl, sym, ap, subst, ◌∙◌, arith, Some}
use Rattle.std.proofs.lemmas.Bool.{cases_eq}
use Rattle.std.proofs.lemmas.List.Elements.{All-more}
use Rattle.std.proofs.lemmas.Option.{same_Some, get_or_from_slice_get}
use Rattle.std.specs.Prelude.{slice_get, slice_index, IsTrue, All}
use Rattle.route_split.specs.declared.place.Place.{Place}
use Rattle.route_split.specs.declared.place.RouteCall.{RouteCall}
use Rattle.route_split.specs.Route.{Route, departures_of}
use Rattle.two_trip_rides.specs.First.{Source, Falls, FirstClosed, AreFirstRows}
use Rattle.two_trip_rides.proofs.FirstLemmas.{falls_none, falls_on}
use Rattle.two_trip_labels.specs.First.{row_at, MayBoard, BoardsAt, AreRoutesOf, RowsFall, FirstGoes, FirstSound, IsCallBoarded}

rows_none : (xs : List (List ℕ)) → RowsFall xs xs
rows_none xs = record { many = refl; each = λ r. falls_none (row_at xs r) }

rows_on : (xs ys zs : List (List ℕ)) → RowsFall xs ys → RowsFall ys zs → RowsFall xs zs
rows_on xs ys zs f g = record { many = g.many ∙ f.many; each = λ r. falls_on (row_at xs r) (row_at ys r) (row_at zs r) (f.each r) (g.each r) }

-- closed with lesser arrivals, too
closed_falls : (route : Route) (foot : List ℕ) (z : ℕ) (held first first' : List ℕ) → Falls first first' → FirstClosed route foot z held first → FirstClosed route foot z held first'
closed_falls route foot z held first first' falls c = record {
  goes = c.goes;
  leaves = λ k off at may low. elim (c.leaves k off at may low) [ inl w ↦ inl w | inr l ↦ inr (omega (arith, l, falls.each off.stop.0)) ];
}

module _ (routes : List Route) (foot : List ℕ) (z : ℕ) where
  pub goes_none : (rows : List (List ℕ)) (first : List ℕ) → FirstGoes routes foot z rows rows first first
  goes_none rows first = record { fit = λ h. h; rows_fall = rows_none rows; first_falls = falls_none first; closed = λ h. h }

  pub goes_on : (rows rows' rows'' : List (List ℕ)) (first first' first'' : List ℕ) → FirstGoes routes foot z rows rows' first first' → FirstGoes routes foot z rows' rows'' first' first''
      → FirstGoes routes foot z rows rows'' first first''
  goes_on rows rows' rows'' first first' first'' f g = record {
    fit = λ h. g.fit (f.fit h);
    rows_fall = rows_on rows rows' rows'' f.rows_fall g.rows_fall;
    first_falls = falls_on first first' first'' f.first_falls g.first_falls;
    closed = λ h. g.closed (f.closed h);
  }

  -- one route is boarded
  module _ (rows rows' : List (List ℕ)) (first first' : List ℕ) (at k wanted : ℕ) (route : Route) (is : slice_get routes at ≡ Some route)
      (many : length rows' ≡ length rows) (others : (r : ℕ) → r ≢ at → row_at rows' r ≡ row_at rows r)
      (boards : BoardsAt route k wanted foot z (row_at rows at) (row_at rows' at) first first') where
    here : (r : ℕ) (other : Route) → r ≡ at → slice_get routes r ≡ Some other → other ≡ route
    here r other e got = same_Some other route (sym got ∙ ap (λ (i : ℕ). slice_get routes i) e ∙ is)

    pub goes_board : FirstGoes routes foot z rows rows' first first'
    goes_board = record {
      fit = λ h. record {
        many = many ∙ h.many;
        each = λ r other got. elim (cases_eq r at) [
          | inl e ↦ ap (λ (i : ℕ). length (row_at rows' i)) e ∙ boards.held_falls.as_many ∙ sym (ap (λ (i : ℕ). length (row_at rows i)) e) ∙ h.each r other got
          | inr ne ↦ ap length (others r ne) ∙ h.each r other got
        ];
      };
      rows_fall = record {
        many = many;
        each = λ r. elim (cases_eq r at) [
          | inl e ↦ subst (λ (i : ℕ). Falls (row_at rows i) (row_at rows' i)) (sym e) boards.held_falls
          | inr ne ↦ subst (λ (xs : List ℕ). Falls (row_at rows r) xs) (sym (others r ne)) (falls_none (row_at rows r))
        ];
      };
      first_falls = boards.first_falls;
      closed = λ h. record {
        each = λ r other got. elim (cases_eq r at) [
          | inl e ↦
              let same = here r other e got in
              subst (λ (i : ℕ). FirstClosed other foot z (row_at rows' i) first') (sym e)
              (subst (λ (o : Route). FirstClosed o foot z (row_at rows' at) first') (sym same) (boards.closed (h.each at route is)))
          | inr ne ↦ subst (λ (xs : List ℕ). FirstClosed other foot z xs first') (sym (others r ne)) (closed_falls other foot z (row_at rows r) first first' boards.first_falls (h.each r other got))
        ];
      };
    }

    pub sound_board : (s : Source) → AreRoutesOf s.network.trips routes → MayBoard s route k wanted → FirstSound s routes rows first → FirstSound s routes rows' first'
    sound_board s of may h = record {
      rows_are = record {
        each = λ r other got. elim (cases_eq r at) [
          | inl e ↦
              let same = here r other e got in
              subst (λ (i : ℕ). AreFirstRows s other (row_at rows' i)) (sym e)
              (subst (λ (o : Route). AreFirstRows s o (row_at rows' at)) (sym same) (boards.rows_sound s may (h.rows_are.each at route is)))
          | inr ne ↦ subst (λ (xs : List ℕ). AreFirstRows s other xs) (sym (others r ne)) (h.rows_are.each r other got)
        ];
      };
      first_are = boards.sound s (of.each at route is) may h.first_are;
    }

-- what is held of a call stays so
pub boarded_falls : (routes : List Route) (wanted : ℕ) (rows rows' : List (List ℕ)) (c : RouteCall) → RowsFall rows rows' → IsCallBoarded routes wanted rows c → IsCallBoarded routes wanted rows' c
boarded_falls routes wanted rows rows' c falls b = record {
  each = λ p route on got at may more within late. omega (arith, (falls.each c.route).each c.call, b.each p route on got at may more within late);
}

-- one call more
pub boarded_more : (routes : List Route) (wanted : ℕ) (rows rows' : List (List ℕ)) (calls : List RouteCall) (m : ℕ) (d : RouteCall) → m < length calls → RowsFall rows rows'
    → All (IsCallBoarded routes wanted rows) (take m calls) → IsCallBoarded routes wanted rows' (get_or calls m d) → All (IsCallBoarded routes wanted rows') (take (m + 1) calls)
boarded_more routes wanted rows rows' calls m d within falls all this =
    All-more (IsCallBoarded routes wanted rows') calls m d within (λ k e low. boarded_falls routes wanted rows rows' (get_or (take m calls) k e) falls (all k e low)) this

-- where the one route is read
pub read_route : (routes : List Route) (at : ℕ) (route read d : Route) → slice_get routes at ≡ Some route → read ≡ get_or routes at d → slice_get routes at ≡ Some read
read_route routes at route read d got is = got ∙ ap (λ (r : Route). Some r) (sym (is ∙ get_or_from_slice_get routes at route d got))

-- what is boarded at a call
pub board_boarded : (routes : List Route) (wanted : ℕ) (foot : List ℕ) (z : ℕ) (rows rows' : List (List ℕ)) (first first' : List ℕ) (c : RouteCall) (route : Route)
    → slice_get routes c.route ≡ Some route → BoardsAt route c.call wanted foot z (row_at rows c.route) (row_at rows' c.route) first first' → IsCallBoarded routes wanted rows' c
board_boarded routes wanted foot z rows rows' first first' c route is boards = record {
  each = λ p other on got at may more within late. same p other on (same_Some other route (sym got ∙ is)) at may more within late;
}
  where
    same : (p : ℕ) (other : Route) (on : Place) → other ≡ route → slice_get other.places c.call ≡ Some on → IsTrue on.board → c.call + 1 < length other.places → p < length other.trips
        → wanted ≤ slice_index (departures_of other c.call) p → slice_index (row_at rows' c.route) c.call ≤ p
    same p other on e at may more within late =
        boards.boarded on p (subst (λ (r : Route). slice_get r.places c.call ≡ Some on) e at) may (subst (λ (r : Route). c.call + 1 < length r.places) e more)
        (subst (λ (r : Route). p < length r.trips) e within) (subst (λ (r : Route). wanted ≤ slice_index (departures_of r c.call) p) e late)
