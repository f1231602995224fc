-- Ways by listed transfers, with their last ride first.
--     Query                          what a run is asked
--     IsReady q rides x r            by these rides, the last first, the passenger is ready at stop x at second r
--     Leaves q rides ride x a        by these rides and then this one the passenger leaves a ride at x at second a
--     HasChain slots bound by rides  the steps from `by` on, below `bound`, have these rides
use Rattle.std.specs.Prelude.{◌≡◌, ℕ, suc, ◌+◌, ◌<◌, ◌≤◌, List, [], ◌∷◌, slice_get, Option, Some}
use Rattle.move_model.specs.declared.network.Network.{Network}
use Rattle.move_model.specs.declared.network.StopNo.{StopNo}
use Rattle.move_model.specs.declared.network.Call.{Call}
use Rattle.move_model.specs.declared.journey.Ride.{Ride}
use Rattle.move_model.specs.declared.journey.Shortcut.{Shortcut}
use Rattle.move_model.specs.Journey.{IsRide}
use Rattle.move_model.specs.Listed.{HasEntry, HasTransfer}
use Rattle.raptor_rounds.specs.declared.labels.Step.{Step}

pub record Query : Type 0 where
  pub network : Network
  pub first : List (Option ℕ)
  pub last : List (Option ℕ)
  pub list : List Shortcut
  pub depart : ℕ

pub data IsReady (q : Query) : List Ride → StopNo → ℕ → Type 0 where
  at_first : {x : StopNo} {m r : ℕ} → HasEntry q.first x m → r ≡ q.depart + m → IsReady q [] x r
  goes_on : {rides : List Ride} {ride : Ride} {on off : Call} {x : StopNo} {s m r : ℕ} → IsReady q rides on.stop s
      → IsRide q.network ride on off → s + q.network.buffer ≤ on.dep → HasTransfer q.list off.stop x m → r ≡ off.arr + m
      → IsReady q (ride ∷ rides) x r

pub record Leaves (q : Query) (rides : List Ride) (ride : Ride) (x : StopNo) (a : ℕ) : Type 0 where
  pub on : Call
  pub off : Call
  pub ready : ℕ
  pub is_ready : IsReady q rides on.stop ready
  pub is_ride : IsRide q.network ride on off
  pub in_time : ready + q.network.buffer ≤ on.dep
  pub stop_is : off.stop ≡ x
  pub second_is : off.arr ≡ a

pub data HasChain (slots : List Step) (bound : ℕ) : ℕ → List Ride → Type 0 where
  none : HasChain slots bound 0 []
  link : {i : ℕ} {step : Step} {rides : List Ride} → i < bound → slice_get slots i ≡ Some step
      → HasChain slots bound step.by rides → HasChain slots bound (suc i) (step.ride ∷ rides)
