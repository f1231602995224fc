-- The vertices that rows give, as ids and their vertices in the order of the rows.
--     vertex_in given id           the vertex of an id, or None
--     IsGivenBy c rows given       these are the ids and vertices of the rows
use Rattle.std.specs.Prelude.{◌≡◌, ℕ, List, map, slice_get, Option, Some, None, option_map}
use Rattle.move_model.specs.declared.network.NodeNo.{NodeNo}
use Rattle.tables.specs.Names.{place_of}
use Rattle.tables.specs.Table.{cell}
use Rattle.tables.specs.Values.{number_in}
use Rattle.stop_places.specs.declared.columns.Columns.{Columns}
use Rattle.stop_places.specs.declared.given.Given.{Given}
use Rattle.stop_places.specs.Rules.{ids_in}

abbrev pub vertex_at : List ℕ → Option ℕ → Option NodeNo
vertex_at nodes None = None
vertex_at nodes (Some place) = option_map (λ node. record { 0 = node }) (slice_get nodes place)

abbrev pub vertex_in : Given → List ℕ → Option NodeNo
vertex_in given id = vertex_at given.nodes (place_of id given.names)

abbrev pub nodes_in : Columns → List (List (List ℕ)) → List ℕ
nodes_in c rows = map (λ row. number_in (cell c.node row)) rows

pub record IsGivenBy (c : Columns) (rows : List (List (List ℕ))) (given : Given) : Type 0 where
  pub names : given.names ≡ ids_in c rows
  pub nodes : given.nodes ≡ nodes_in c rows
