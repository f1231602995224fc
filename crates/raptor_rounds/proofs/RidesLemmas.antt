-- The scan of a route.
use Rattle.std.proofs.Common.{◌≡◌, ℕ, ◌+◌, ◌<◌, ◌≤◌, ◌⊎◌, inl, inr, min, List, length, subst, sym, refl, ◌∙◌, arith, Some, Bool, true, false}
use Rattle.std.proofs.lemmas.Bool.{false≢true, cases_lt}
use Rattle.std.proofs.lemmas.Option.{slice_get_within}
use Rattle.std.specs.Prelude.{slice_get, slice_index, IsTrue}
use Rattle.move_model.specs.declared.network.TripNo.{TripNo}
use Rattle.route_split.specs.declared.place.Place.{Place}
use Rattle.route_split.specs.Route.{Route, IsRoute, arrivals_of, departures_of}
use Rattle.route_split.specs.Calls.{IsRouteOf, call_of}
use Rattle.raptor_rounds.specs.declared.labels.Found.{Found}
use Rattle.raptor_rounds.specs.declared.scan.Hold.{Hold}
use Rattle.raptor_rounds.specs.Ways.{HasChain}
use Rattle.raptor_rounds.specs.Labels.{Scope, LeftBy, AllReady, Scanned, Falls, IsHeld, step_of}
use Rattle.raptor_rounds.proofs.TimesLemmas.{stop_within}

-- each row that could have been boarded before the call is at or after the held one
abbrev pub CaughtBefore : Route → ℕ → List ℕ → ℕ → ℕ → ℕ → ℕ → Type 0
CaughtBefore route buffer ready start call row best =
    (i p : ℕ) (on : Place) → start ≤ i → i < call → slice_get route.places i ≡ Some on → IsTrue on.board → p < length route.trips
    → slice_index ready on.stop.0 < best → slice_index ready on.stop.0 + buffer ≤ slice_index (departures_of route i) p → row ≤ p

-- what was ridden from a call at or after `start` up to a call before this one is no better than the labels
abbrev pub ScannedBefore : Route → ℕ → List ℕ → ℕ → ℕ → Found → Type 0
ScannedBefore route buffer ready start call f =
    (i j p : ℕ) (on off : Place) → start ≤ i → i < j → j < call → slice_get route.places i ≡ Some on → slice_get route.places j ≡ Some off
    → IsTrue on.board → IsTrue off.alight → p < length route.trips
    → slice_index ready on.stop.0 < f.best → slice_index ready on.stop.0 + buffer ≤ slice_index (departures_of route i) p
    → min (slice_index f.left off.stop.0) f.best ≤ slice_index (arrivals_of route j) p

-- the ride on a held row is one of the network, from where the passenger is ready
pub held_leaves : (s : Scope) (route : Route) (buffer : ℕ) (ready by : List ℕ) (hold : Hold) (j : ℕ) (off : Place) (trip : TripNo)
    → s.query.network.buffer ≡ buffer → IsRouteOf s.query.network.trips route → IsRoute (length ready) route → AllReady s ready by
    → IsHeld route buffer ready by hold → hold.on < j → slice_get route.places j ≡ Some off → IsTrue off.alight → slice_get route.trips hold.row ≡ Some trip
    → LeftBy s off.stop (slice_index (arrivals_of route j) hold.row) (step_of hold trip j)
held_leaves s route buffer ready by hold j off trip same_buffer rows whole all held before is_off may is_trip =
    let row = rows hold.row trip is_trip in
    let from = all.each held.place.stop (stop_within (length ready) route hold.on held.place whole held.is_place) held.sure in
    record {
      rides = from.rides;
      chain = subst (λ b. HasChain s.slots s.bound b from.rides) (sym held.by_is) from.chain;
      few = from.few;
      leaves = record {
        on = call_of route hold.row hold.on held.place;
        off = call_of route hold.row j off;
        ready = from.second;
        is_ready = from.is_ready;
        is_ride = record {
          forward = before;
          boards = (row.trip, row.is_trip, row.calls_are hold.on held.place held.is_place);
          may_board = held.may_board;
          leaves = (row.trip, row.is_trip, row.calls_are j off is_off);
          may_alight = may;
        };
        in_time = omega (arith, same_buffer, held.in_time, from.no_later);
        stop_is = refl;
        second_is = refl;
      };
    }

pub was_false : (a b : Bool) → (a ≡ true → b ≡ true) → b ≡ false → a ≡ false
was_false true b h e = absurd (false≢true (sym e ∙ h refl))
was_false false b h e = refl

-- one scan after another
pub falls_on : (a b c : Found) → Falls a b → Falls b c → Falls a c
falls_on a b c ab bc = record {
  stops = bc.stops ∙ ab.stops;
  steps = bc.steps ∙ ab.steps;
  marks = bc.marks ∙ ab.marks;
  left = λ x. omega (arith, ab.left x, bc.left x);
  best = omega (arith, ab.best, bc.best);
  fresh_stays = λ x e. bc.fresh_stays x (ab.fresh_stays x e);
  others_stay = λ x e. bc.others_stay x e ∙ ab.others_stay x (was_false _ _ (bc.fresh_stays x) e);
}

-- a call more, with a best arrival that only fell
pub caught_more : (route : Route) (buffer : ℕ) (ready : List ℕ) (start call row row' best best' : ℕ) → CaughtBefore route buffer ready start call row best → row' ≤ row → best' ≤ best
    → ((on : Place) (p : ℕ) → slice_get route.places call ≡ Some on → IsTrue on.board → p < length route.trips
    → slice_index ready on.stop.0 < best' → slice_index ready on.stop.0 + buffer ≤ slice_index (departures_of route call) p → row' ≤ p)
    → CaughtBefore route buffer ready start (call + 1) row' best'
caught_more route buffer ready start call row row' best best' before lower falls here i p on from to at may within sooner early =
    elim (cases_lt i call) [
      | inl lt ↦ omega (arith, lower, before i p on from lt at may within (omega (arith, sooner, falls)) early)
      | inr ge ↦ let same : i ≡ call = omega arith in
          here on p (subst (λ k. slice_get route.places k ≡ Some on) same at) may within sooner
          (subst (λ k. slice_index ready on.stop.0 + buffer ≤ slice_index (departures_of route k) p) same early)
    ]

pub scanned_more : (stops : ℕ) (route : Route) (buffer : ℕ) (ready : List ℕ) (start call row : ℕ) (f g : Found) → IsRoute stops route
    → CaughtBefore route buffer ready start call row f.best → ScannedBefore route buffer ready start call f → Falls f g
    → ((off : Place) → slice_get route.places call ≡ Some off → IsTrue off.alight → row < length route.trips
    → min (slice_index g.left off.stop.0) g.best ≤ slice_index (arrivals_of route call) row)
    → ((k : ℕ) → k < length route.places → length (arrivals_of route k) ≡ length route.trips)
    → ScannedBefore route buffer ready start (call + 1) g
scanned_more stops route buffer ready start call row f g whole caught before falls known as_long i j p on off from forward to at_on at_off may_on may_off within sooner early =
    elim (cases_lt j call) [
      | inl lt ↦ omega (arith, before i j p on off from forward lt at_on at_off may_on may_off within (omega (arith, sooner, falls.best)) early, falls.left off.stop.0, falls.best)
      | inr ge ↦ let same : j ≡ call = omega arith in
          let at_call = subst (λ k. slice_get route.places k ≡ Some off) same at_off in
          let low = caught i p on from (omega arith) at_on may_on within (omega (arith, sooner, falls.best)) early in
          let is = known off at_call may_off (omega arith) in
          let rise = whole.arrive_in_order call (slice_get_within route.places call off at_call) row p low (omega (arith, as_long call (slice_get_within route.places call off at_call))) in
          let goal_at : min (slice_index g.left off.stop.0) g.best ≤ slice_index (arrivals_of route call) p = omega (arith, is, rise) in
          subst (λ k. min (slice_index g.left off.stop.0) g.best ≤ slice_index (arrivals_of route k) p) (sym same) goal_at
    ]

pub held_more : (route : Route) (buffer : ℕ) (ready by : List ℕ) (call : ℕ) (hold hold' : Hold)
    → (length route.trips ≤ hold.row) ⊎ ((hold.on < call) × IsHeld route buffer ready by hold)
    → (hold' ≡ hold) ⊎ ((hold'.on ≡ call) × IsHeld route buffer ready by hold')
    → (length route.trips ≤ hold'.row) ⊎ ((hold'.on < call + 1) × IsHeld route buffer ready by hold')
held_more route buffer ready by call hold hold' was (inr now) = inr (omega (arith, now.0), now.1)
held_more route buffer ready by call hold hold' (inl none) (inl same) = inl (subst (λ (h : Hold). length route.trips ≤ h.row) (sym same) none)
held_more route buffer ready by call hold hold' (inr some) (inl same) =
    inr (subst (λ (h : Hold). (h.on < call + 1) × IsHeld route buffer ready by h) (sym same) (omega (arith, some.0), some.1))

pub scanned_all : (route : Route) (buffer : ℕ) (ready : List ℕ) (start call : ℕ) (f : Found) → length route.places ≤ call
    → ScannedBefore route buffer ready start call f → (i : ℕ) → start ≤ i → Scanned route buffer ready f.left f.best i
scanned_all route buffer ready start call f past before i from = record {
  each = λ j p on off forward at_on at_off may_on may_off within sooner early.
      before i j p on off from forward (omega (arith, slice_get_within route.places j off at_off)) at_on at_off may_on may_off within sooner early;
}

pub scanned_falls : (route : Route) (buffer : ℕ) (ready : List ℕ) (i : ℕ) (f g : Found) → Falls f g
    → Scanned route buffer ready f.left f.best i → Scanned route buffer ready g.left g.best i
scanned_falls route buffer ready i f g falls was = record {
  each = λ j p on off forward at_on at_off may_on may_off within sooner early.
      omega (arith, was.each j p on off forward at_on at_off may_on may_off within (omega (arith, sooner, falls.best)) early, falls.left off.stop.0, falls.best);
}

pub falls_none : (f : Found) → Falls f f
falls_none f = record {
  stops = refl;
  steps = refl;
  marks = refl;
  left = λ x. omega arith;
  best = omega arith;
  fresh_stays = λ x e. e;
  others_stay = λ x e. refl;
}
