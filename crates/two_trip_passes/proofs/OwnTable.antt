-- The least arrivals of the rides from the stops themselves.
use Rattle.std.proofs.Common.{◌≡◌, ℕ, ◌+◌, ◌<◌, ◌≤◌, List, length, get_or, sym, ap, subst, ◌∙◌, arith, Some}
use Rattle.std.proofs.lemmas.List.{get_or_default}
use Rattle.std.proofs.lemmas.Option.{slice_get_within, slice_get-get_or, same_Some}
use Rattle.std.specs.Prelude.{Contains, IsTrue, slice_get}
use Rattle.move_model.specs.declared.network.Network.{Network}
use Rattle.move_model.specs.declared.network.StopNo.{StopNo}
use Rattle.move_model.specs.declared.network.TripNo.{TripNo}
use Rattle.move_model.specs.declared.network.Call.{Call}
use Rattle.pareto_laws.proofs.Calls.{stop_eq}
use Rattle.route_split.specs.declared.place.Place.{Place}
use Rattle.route_split.specs.Route.{Route, IsRoute}
use Rattle.route_split.specs.Calls.{HoldsTrips, call_of}
use Rattle.piece_laws.specs.Pieces.{IsOwn}
use Rattle.piece_laws.specs.Tables.{never, OwnStands}
use Rattle.two_trip_rides.proofs.TimesLemmas.{stop_within}
use Rattle.two_trip_labels.proofs.RideRows.{ride_row}
use Rattle.two_trip_passes.specs.Own.{IsOwnFrom, IsOwnOfAny, OwnFrom, own_at}

module _ (n : Network) (us : List StopNo) (z : ℕ) (routes : List Route) (holds : HoldsTrips n.trips routes) where
  real : (x : StopNo) (a : ℕ) → IsOwnOfAny routes (z + n.buffer) us x.0 a → IsOwn n us z x a
  real x a o =
      let f = o.ride in
      let route = f.ride.route in
      let r = f.ride.ride in
      let l = r.is_left.is_left in
      let none : TripNo = record { 0 = 0 } in
      let trip = get_or route.trips r.row none in
      let row = holds.rows_are f.call.route route f.ride.is_route r.row trip (slice_get-get_or route.trips r.row none r.is_own.is_row) in
      let same : f.at_stop.route ≡ route = same_Some f.at_stop.route route (sym f.at_stop.is_route ∙ f.ride.is_route) in
      let at' : slice_get route.places f.call.call ≡ Some f.at_stop.place = subst (λ (p : Route). slice_get p.places f.call.call ≡ Some f.at_stop.place) same f.at_stop.is_place in
      let here : r.is_own.on.stop.0 ≡ o.stop.0 = ap (λ (q : Place). q.stop.0) (same_Some r.is_own.on f.at_stop.place (sym r.is_own.is_on ∙ at')) ∙ f.at_stop.at_stop in
      record {
        ride = record { trip = trip; board = f.call.call; alight = r.is_left.to };
        on = call_of route r.row f.call.call r.is_own.on;
        off = call_of route r.row r.is_left.to l.off;
        is_ride = record {
          forward = r.is_left.later;
          boards = (row.trip, row.is_trip, row.calls_are f.call.call r.is_own.on r.is_own.is_on);
          may_board = r.is_own.may_board;
          leaves = (row.trip, row.is_trip, row.calls_are r.is_left.to l.off l.is_off);
          may_alight = l.may_alight;
        };
        boards_at = subst (λ (s : StopNo). Contains us s) (stop_eq o.stop r.is_own.on.stop (sym here)) o.is_one;
        departs = r.is_own.departs;
        left_at = stop_eq l.off.stop x l.left_at;
        left_by = l.left_by;
      }

  module _ (own : List ℕ) (whole : (r : ℕ) (route : Route) → slice_get routes r ≡ Some route → IsRoute (length own) route)
      (known : (u : StopNo) → Contains us u → OwnFrom routes (z + n.buffer) own u) where
    least : (x : StopNo) (a : ℕ) → IsOwn n us z x a → own_at own x ≤ a
    least x a o =
        let rr = ride_row n routes o.ride o.on o.off holds o.is_ride in
        let b = rr.boards in
        let l = rr.leaves in
        let left : l.place.stop.0 ≡ x.0 = ap (λ (c : Call). c.stop.0) (sym l.call_is) ∙ ap (λ (s : StopNo). s.0) o.left_at in
        let from : IsOwnFrom routes (z + n.buffer) o.on.stop x.0 a = record {
          call = record { route = rr.r; call = o.ride.board };
          at_stop = record {
            route = rr.route;
            place = b.place;
            is_route = rr.is_route;
            is_place = b.is_place;
            at_stop = ap (λ (c : Call). c.stop.0) (sym b.call_is);
          };
          ride = record {
            route = rr.route;
            is_route = rr.is_route;
            ride = record {
              row = rr.p;
              is_own = record {
                is_row = slice_get_within rr.route.trips rr.p o.ride.trip rr.is_trip;
                on = b.place;
                is_on = b.is_place;
                may_board = subst (λ (c : Call). IsTrue c.board) b.call_is o.is_ride.may_board;
                departs = ap (λ (c : Call). c.dep) (sym b.call_is) ∙ o.departs;
              };
              is_left = record {
                to = o.ride.alight;
                later = o.is_ride.forward;
                is_left = record {
                  off = l.place;
                  is_off = l.is_place;
                  may_alight = subst (λ (c : Call). IsTrue c.alight) l.call_is o.is_ride.may_alight;
                  left_at = left;
                  left_by = ap (λ (c : Call). c.arr) (sym l.call_is) ∙ o.left_by;
                };
              };
            };
          };
        } in
        let low = (known o.on.stop o.boards_at).each x.0 a from in
        let within = stop_within (length own) rr.route o.ride.alight l.place (whole rr.r rr.route rr.is_route) l.is_place in
        subst (λ (v : ℕ). v ≤ a) (get_or_default own x.0 0 never (omega (arith, within, left))) low

    pub own_table : ((x : StopNo) → own_at own x < never → IsOwnOfAny routes (z + n.buffer) us x.0 (own_at own x)) → OwnStands n us z (own_at own)
    own_table some = record { real = λ x low. real x (own_at own x) (some x low); enough = least }
