-- Rides with their calls.
--     IsTripRide trip calls r    r is a ride of the trip, which has these calls
--     IsRideOf n r               r is a ride of the network, with its calls
--     AreRides n rides           the rides are all of the network
use Rattle.std.specs.Prelude.{◌≡◌, ◌↔◌, ℕ, ◌<◌, IsTrue, List, slice_get, Contains, Some}
use Rattle.move_model.specs.declared.network.Network.{Network}
use Rattle.move_model.specs.declared.network.TripNo.{TripNo}
use Rattle.move_model.specs.declared.network.Trip.{Trip}
use Rattle.move_model.specs.declared.network.Call.{Call}
use Rattle.move_model.specs.Journey.{IsRide}
use Rattle.plain_shortcuts.specs.declared.rides.RideCalls.{RideCalls}

pub record IsTripRide (trip : TripNo) (calls : List Call) (r : RideCalls) : Type 0 where
  pub of_trip : r.ride.trip ≡ trip
  pub forward : r.ride.board < r.ride.alight
  pub boards : slice_get calls r.ride.board ≡ Some r.on
  pub may_board : IsTrue r.on.board
  pub leaves : slice_get calls r.ride.alight ≡ Some r.off
  pub may_alight : IsTrue r.off.alight

abbrev pub IsRideOf : Network → RideCalls → Type 0
IsRideOf n r = IsRide n r.ride r.on r.off

abbrev pub AreRides : Network → List RideCalls → Type 0
AreRides n rides = (r : RideCalls) → Contains rides r ↔ IsRideOf n r
