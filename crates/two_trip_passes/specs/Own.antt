-- The least arrivals of the rides from the stops themselves.
--     IsOwnAt routes d c x a        some row that departs at second d from the call c is left at x at second a
--     IsOwnFrom routes d y x a      the same of some call at the stop y
--     IsOwnOf routes d calls x a    the same of one of some calls
--     IsOwnOfAny routes d us x a    the same of one of some stops
--     OwnAt routes d own c          no such arrival from the call c is earlier than what is known
--     OwnFrom routes d own y        the same of all calls at the stop y
--     own_at own x                  what is known of the stop x, or none
use Rattle.std.specs.Prelude.{◌≡◌, ℕ, ◌≤◌, List, slice_get, slice_index, slice_index_or, Contains, Some}
use Rattle.move_model.specs.declared.network.StopNo.{StopNo}
use Rattle.route_split.specs.declared.place.RouteCall.{RouteCall}
use Rattle.route_split.specs.Route.{Route}
use Rattle.route_split.specs.Table.{CallsAt}
use Rattle.piece_laws.specs.Tables.{never}
use Rattle.two_trip_rides.specs.First.{IsOwnRide}

pub record IsOwnAt (routes : List Route) (d : ℕ) (c : RouteCall) (x a : ℕ) : Type 0 where
  pub route : Route
  pub is_route : slice_get routes c.route ≡ Some route
  pub ride : IsOwnRide route c.call d x a

pub record IsOwnFrom (routes : List Route) (d : ℕ) (y : StopNo) (x a : ℕ) : Type 0 where
  pub call : RouteCall
  pub at_stop : CallsAt routes y.0 call.route call.call
  pub ride : IsOwnAt routes d call x a

pub record IsOwnOf (routes : List Route) (d : ℕ) (calls : List RouteCall) (x a : ℕ) : Type 0 where
  pub call : RouteCall
  pub is_one : Contains calls call
  pub ride : IsOwnAt routes d call x a

pub record IsOwnOfAny (routes : List Route) (d : ℕ) (us : List StopNo) (x a : ℕ) : Type 0 where
  pub stop : StopNo
  pub is_one : Contains us stop
  pub ride : IsOwnFrom routes d stop x a

pub record OwnAt (routes : List Route) (d : ℕ) (own : List ℕ) (c : RouteCall) : Type 0 where
  pub each : (x a : ℕ) → IsOwnAt routes d c x a → slice_index own x ≤ a

pub record OwnFrom (routes : List Route) (d : ℕ) (own : List ℕ) (y : StopNo) : Type 0 where
  pub each : (x a : ℕ) → IsOwnFrom routes d y x a → slice_index own x ≤ a

abbrev pub own_at : List ℕ → StopNo → ℕ
own_at own x = slice_index_or own x.0 never
