-- Buckets of a hierarchy that keeps the distances of the streets give the distances between vertices and stops.
use Rattle.std.proofs.Common.{◌≡◌, ◌∙◌, ℕ, ◌<◌, ◌≤◌, List, [], length, get_or, refl, sym, subst, arith, Option, Some, None}
use Rattle.std.specs.Prelude.{All, slice_get}
use Rattle.std.proofs.lemmas.List.Elements.{All-weaker}
use Rattle.std.proofs.lemmas.Option.{slice_get-get_or}
use Rattle.move_model.specs.declared.network.Network.{Network}
use Rattle.move_model.specs.declared.network.NodeNo.{NodeNo}
use Rattle.move_model.specs.declared.network.StopNo.{StopNo}
use Rattle.move_model.specs.declared.network.Stop.{Stop}
use Rattle.move_model.specs.Streets.{IsVertex, HasDistance}
use Rattle.move_model.specs.Network.{streets, node_of, node_of_stop}
use Rattle.move_model.specs.Check.{KeepsRules}
use Rattle.pareto_laws.proofs.Calls.{vertex_of_stop}
use Rattle.walk_hierarchy.specs.Hierarchy.{Parts, IsNode, IsOver, GivesDistances}
use Rattle.bucket_walks.specs.Buckets.{Parts as BucketParts, AreBucketsOf}
use Rattle.bucket_walks.proofs.DistanceLaws.{first_distance, last_distance}
use Rattle.network_file.specs.Compiled.{GivesFirst, GivesLast}
use Rattle.network_compile.proofs.ListLemmas.{short}

module _ (n : Network) where
  record HasStop (x : StopNo) : Type 0 where
    stop : Stop
    stands : slice_get n.stops x.0 ≡ Some stop
    at : node_of n x ≡ stop.node

  has_stop : (x : StopNo) → x.0 < length n.stops → HasStop x
  has_stop x within =
      let stop : Stop = get_or n.stops x.0 (record { node = record { 0 = 0 }; name = [] }) in
      let e : slice_get n.stops x.0 ≡ Some stop = slice_get-get_or n.stops x.0 (record { node = record { 0 = 0 }; name = [] }) within in
      record { stop = stop; stands = e; at = λ i. node_of_stop (e i) }

  module _ (rules : KeepsRules n) (h : Parts) (over : IsOver (streets n) h) where
    pub vertex_node : (v : NodeNo) → IsVertex (streets n) v → IsNode h v
    vertex_node v is = record { from_one = is.from_one; to_nodes = subst (λ (k : ℕ). v.0 ≤ k) over.nodes is.to_nodes }

    pub stop_node : (x : StopNo) → x.0 < length n.stops → IsNode h (node_of n x)
    stop_node x within = vertex_node (node_of n x) (vertex_of_stop n rules.network x within)

    pub stops_stand : All (λ (stop : Stop). IsNode h stop.node) n.stops
    stops_stand = All-weaker (λ (stop : Stop). IsVertex (streets n) stop.node) (λ (stop : Stop). IsNode h stop.node)
        (λ stop is. vertex_node stop.node is) n.stops rules.network.stops_stand

    module _ (gives : GivesDistances (streets n) h) (b : BucketParts) (are : AreBucketsOf h n.stops b) where
      pub gives_first : GivesFirst n h b
      gives_first a x r at within least =
          let has = has_stop x within in
          subst (λ (v : NodeNo). HasDistance (streets n) a v r) (sym has.at)
          (first_distance h n.stops b are (streets n) gives (short n rules) x.0 has.stop has.stands a r (vertex_node a at) least)

      pub gives_last : GivesLast n h b
      gives_last x t r at within least =
          let has = has_stop x within in
          subst (λ (v : NodeNo). HasDistance (streets n) v t r) (sym has.at)
          (last_distance h n.stops b are (streets n) gives (short n rules) x.0 has.stop has.stands t r (vertex_node t at) least)
