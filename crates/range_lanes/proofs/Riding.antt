-- Rides on the rows of a route.
use Rattle.std.proofs.Common.{◌≡◌, ℕ, ◌+◌, ◌<◌, ◌≤◌, inl, inr, List, length, refl, ap, ◌∙◌, subst, arith, Some}
use Rattle.std.specs.Prelude.{slice_get, slice_index, IsTrue, vec_len}
use Rattle.std.proofs.lemmas.Bool.{cases_lt}
use Rattle.std.proofs.lemmas.Option.{slice_get_within}
use Rattle.move_model.specs.declared.network.TripNo.{TripNo}
use Rattle.route_split.specs.declared.place.Place.{Place}
use Rattle.route_split.specs.Route.{Route, IsRoute, arrivals_of, departures_of}
use Rattle.route_split.specs.Calls.{IsRouteOf, call_of}
use Rattle.raptor_rounds.specs.Ways.{Query}
use Rattle.raptor_rounds.proofs.TimesLemmas.{arrivals_length}
use Rattle.range_lanes.specs.declared.level.Level.{Level}
use Rattle.range_lanes.specs.declared.ride.Hold.{Hold}
use Rattle.range_lanes.specs.Levels.{Served, Ridden, Boarded, Falls, LeftFalls, Fits, Arrives, IsOnRow, step_on}
use Rattle.range_lanes.proofs.Falling.{served_falls, served_later}

pub fits_left : (stops : ℕ) (old new : Level) (fresh fresh' : List _) → LeftFalls old new fresh fresh' → Fits stops old → Fits stops new
fits_left stops old new fresh fresh' f fits = record {
  left = f.left_length ∙ fits.left;
  steps = f.steps_length ∙ fits.steps;
  ready = ap vec_len f.ready_same ∙ fits.ready;
  from = ap vec_len f.from_same ∙ fits.from;
}

-- so far, at the calls before the n-th
pub record RiddenBefore (below : List Level) (level : Level) (route : Route) (i p n : ℕ) : Type 0 where
  pub each : (j : ℕ) (off : Place) → i < j → j < n → slice_get route.places j ≡ Some off → IsTrue off.alight
      → Served below level off.stop.0 (slice_index (arrivals_of route j) p)

pub ridden_none : (below : List Level) (level : Level) (route : Route) (i p n : ℕ) → n ≤ i + 1 → RiddenBefore below level route i p n
ridden_none below level route i p n le = record { each = λ j off after before at may. absurd (omega (arith, after, before, le)) }

pub ridden_more : (below : List Level) (old new : Level) (route : Route) (i p n : ℕ) → Falls old new → RiddenBefore below old route i p n
    → ((off : Place) → slice_get route.places n ≡ Some off → IsTrue off.alight → Served below new off.stop.0 (slice_index (arrivals_of route n) p))
    → RiddenBefore below new route i p (n + 1)
ridden_more below old new route i p n f was now = record {
  each = λ j off after before at may. elim (cases_lt j n) [
    | inl lt ↦ served_falls below old new off.stop.0 _ f (was.each j off after lt at may)
    | inr ge ↦
        let e : n ≡ j = omega (arith, ge, before) in
        subst (λ k. Served below new off.stop.0 (slice_index (arrivals_of route k) p)) e
        (now off (ap (λ k. slice_get route.places k) e ∙ at) may)
  ];
}

pub ridden_all : (below : List Level) (level : Level) (route : Route) (i p n : ℕ) → length route.places ≤ n → RiddenBefore below level route i p n
    → Ridden below level route i p
ridden_all below level route i p n all was = record {
  each = λ j off after at may. was.each j off after (omega (arith, all, slice_get_within route.places j off at)) at may;
}

-- the ride on a row that is held is left at each later call
pub row_arrives : (q : Query) (below : List Level) (route : Route) (hold : Hold) → IsRouteOf q.network.trips route → IsOnRow q below route hold
    → (call : ℕ) (off : Place) (trip : TripNo) → hold.on < call → slice_get route.places call ≡ Some off → IsTrue off.alight
    → slice_get route.trips hold.row ≡ Some trip → Arrives q below off.stop (slice_index (arrivals_of route call) hold.row) (step_on hold trip call)
row_arrives q below route hold rows is call off trip later at may is_trip =
    let row = rows hold.row trip is_trip in
    record {
      on = call_of route hold.row hold.on is.place;
      off = call_of route hold.row call off;
      is_ride = record {
        forward = later;
        boards = (row.trip, row.is_trip, row.calls_are hold.on is.place is.is_place);
        may_board = is.may_board;
        leaves = (row.trip, row.is_trip, row.calls_are call off at);
        may_alight = may;
      };
      stop_is = refl;
      by_second = omega arith;
      catches = is.catches (step_on hold trip call) refl;
    }

-- who boards a later row arrives no earlier
pub boarded_from : (stops : ℕ) (below : List Level) (level : Level) (route : Route) (buffer i second row : ℕ) → IsRoute stops route
    → Ridden below level route i row → ((k : ℕ) → k < row → slice_index (departures_of route i) k < second + buffer)
    → Boarded below level route buffer i second
boarded_from stops below level route buffer i second row whole ridden missed = record {
  each = λ on p at may lt in_time. elim (cases_lt p row) [
    | inl before ↦ absurd (omega (arith, missed p before, in_time))
    | inr after ↦ record {
      each = λ j off later at_j may_off.
          let within : j < length route.places = slice_get_within route.places j off at_j in
          served_later below level off.stop.0 _ _
          (whole.arrive_in_order j within row p after (omega (arith, lt, arrivals_length stops route whole j within)))
          (ridden.each j off later at_j may_off);
    }
  ];
}

-- nobody boards where all rows were missed, or where that is not allowed
pub boarded_none : (below : List Level) (level : Level) (route : Route) (buffer i second : ℕ)
    → ((k : ℕ) → k < length route.trips → slice_index (departures_of route i) k < second + buffer) → Boarded below level route buffer i second
boarded_none below level route buffer i second missed = record { each = λ on p at may lt in_time. absurd (omega (arith, missed p lt, in_time)) }
