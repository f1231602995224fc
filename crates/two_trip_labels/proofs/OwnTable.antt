-- The rides from the stops themselves are in the labels once the stops at no distance were boarded.
use Rattle.std.proofs.Common.{◌≡◌, ℕ, ◌+◌, ◌<◌, ◌≤◌, ◌⊎◌, List, subst, arith}
use Rattle.std.specs.Prelude.{Contains}
use Rattle.move_model.specs.declared.network.Network.{Network}
use Rattle.move_model.specs.declared.network.NodeNo.{NodeNo}
use Rattle.move_model.specs.declared.network.StopNo.{StopNo}
use Rattle.move_model.specs.Streets.{IsVertex}
use Rattle.move_model.specs.Network.{IsNetwork, node_of, streets}
use Rattle.pareto_laws.proofs.Distances.{distance_self}
use Rattle.piece_laws.specs.Pieces.{IsFootDistance, IsOnFoot, IsOwn, HasFirst}
use Rattle.piece_laws.specs.Tables.{OwnFirstStands}
use Rattle.piece_laws.proofs.Rides.{call_vertex}
use Rattle.two_trip_labels.specs.Closed.{last_second, Parts, ArePartsOf, Kept, walked_at, IsClosed, IsSound}
use Rattle.two_trip_labels.proofs.FirstTable.{first_enough}

module _ (n : Network) (us : List StopNo) (q : NodeNo) (z g h : ℕ) (p : Parts) (k : Kept) (ok : IsNetwork n) (parts : ArePartsOf n q p)
    (at : (u : StopNo) → Contains us u → node_of n u ≡ q) (low : h ≤ 1 + last_second) (near : z < g) (closed : IsClosed n p z g h k) where
  own_enough : (x : StopNo) (a : ℕ) → IsOwn n us z x a → a < h → IsOnFoot n q z x a ⊎ (walked_at k x ≤ a)
  own_enough x a o early =
      let here : node_of n o.on.stop ≡ q = at o.on.stop o.boards_at in
      let vertex : IsVertex (streets n) (node_of n o.on.stop) = call_vertex n ok o.ride.trip o.ride.board o.on o.is_ride.boards in
      let to_it : IsFootDistance n q o.on.stop 0 = subst (λ (b : NodeNo). IsFootDistance n b o.on.stop 0) here (distance_self (streets n) vertex) in
      let f : HasFirst n q z x a = record {
        ride = o.ride;
        on = o.on;
        off = o.off;
        is_ride = o.is_ride;
        walk = 0;
        to_it = to_it;
        in_time = omega (arith, o.departs);
        left_at = o.left_at;
        left_by = o.left_by;
      } in
      first_enough n q z g h p k ok parts low closed x a f (omega (arith, near)) early

  pub own_first_table : IsSound n q z p k → OwnFirstStands n us q z h (walked_at k)
  own_first_table sound = record { real = sound.walked; enough = own_enough }
