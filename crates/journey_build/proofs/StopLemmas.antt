-- The vertices of stops are vertices of a hierarchy over the streets.
use Rattle.std.proofs.Common.{◌≤◌, ℕ, sym, subst}
use Rattle.move_model.specs.declared.network.Network.{Network}
use Rattle.move_model.specs.declared.network.NodeNo.{NodeNo}
use Rattle.move_model.specs.declared.network.Call.{Call}
use Rattle.move_model.specs.declared.journey.Ride.{Ride}
use Rattle.move_model.specs.Streets.{IsVertex}
use Rattle.move_model.specs.Network.{IsNetwork, streets, node_of}
use Rattle.move_model.specs.Journey.{IsRide}
use Rattle.pareto_laws.proofs.Calls.{on_stands, off_stands, vertex_of_stop}
use Rattle.walk_hierarchy.specs.Hierarchy.{Parts, IsNode, IsOver}

module _ (n : Network) (h : Parts) (over : IsOver (streets n) h) where
  pub vertex_node : (v : NodeNo) → IsVertex (streets n) v → IsNode h v
  vertex_node v is = record { from_one = is.from_one; to_nodes = subst (λ (k : ℕ). v.0 ≤ k) over.nodes is.to_nodes }

  pub node_vertex : (v : NodeNo) → IsNode h v → IsVertex (streets n) v
  node_vertex v is = record { from_one = is.from_one; to_nodes = subst (λ (k : ℕ). v.0 ≤ k) (sym over.nodes) is.to_nodes }

  pub on_node : IsNetwork n → (ride : Ride) (on off : Call) → IsRide n ride on off → IsNode h (node_of n on.stop)
  on_node ok ride on off is = vertex_node (node_of n on.stop) (vertex_of_stop n ok on.stop (on_stands n ok ride on off is))

  pub off_node : IsNetwork n → (ride : Ride) (on off : Call) → IsRide n ride on off → IsNode h (node_of n off.stop)
  off_node ok ride on off is = vertex_node (node_of n off.stop) (vertex_of_stop n ok off.stop (off_stands n ok ride on off is))
