-- The rules of stop_nodes.txt, for the stops of a feed and a street graph of so many vertices.
--     columns_of header            the places of the columns that it names
--     column_rules                 each column is there (NoColumn), in their order
--     stop_named id stops          the first stop with this id, or None
--     RowBehind                    a row, with the ids of the rows before it
--     row_rules stops nodes c      the rules of a row, in their order
--     row_behind c rows i          the row at a place from 0
--     row_named id c rows          the first row with this id, or None
--     given_vertex c rows id       the vertex that it gives
use Rattle.std.specs.Prelude.{ℕ, not, List, [], ◌∷◌, map, take, find, Option, Some, None, codes, is_some, option_map, if◌then◌else◌}
use Rattle.std.specs.Str.{bytes_eq}
use Rattle.gtfs_feed.specs.declared.feed.FeedStop.{FeedStop}
use Rattle.move_model.specs.declared.network.NodeNo.{NodeNo}
use Rattle.move_model.specs.declared.refusal.Cause.{Cause}
use Rattle.move_model.specs.declared.refusal.Cause.TheVariants as cause
use Rattle.tables.specs.Names.{place_of}
use Rattle.tables.specs.Table.{column_of, missing_broken, cell, row_at}
use Rattle.tables.specs.Values.{id_broken, number_of, number_in, is_within}
use Rattle.stop_places.specs.declared.columns.Columns.{Columns}

unfoldable pub columns_of : List (List ℕ) → Columns
columns_of header = record {
  stop_id = column_of (codes "stop_id") header;
  node = column_of (codes "node") header;
}

abbrev pub column_rules : List (Columns → Option Cause)
column_rules = (λ c. missing_broken 0 c.stop_id) ∷ (λ c. missing_broken 1 c.node) ∷ []

abbrev pub stop_named : List ℕ → List FeedStop → Option FeedStop
stop_named id stops = find (λ stop. bytes_eq id stop.name) stops

-- the feed has a stop with the id
unfoldable pub unknown_broken : List FeedStop → List ℕ → Option Cause
unknown_broken stops id = if is_some (stop_named id stops) then None else Some cause.UnknownStop

-- no earlier row has the id
unfoldable pub repeated_broken : List (List ℕ) → List ℕ → Option Cause
repeated_broken earlier id = if is_some (place_of id earlier) then Some cause.Repeated else None

-- a whole number from 1 to the number of vertices
unfoldable pub node_broken : ℕ → List ℕ → Option Cause
node_broken nodes text =
    if not (is_some (number_of text)) then Some cause.Number
    else if is_within 1 nodes text then None
    else Some (cause.Vertex (number_in text))

pub record RowBehind : Type 0 where
  pub earlier : List (List ℕ)
  pub row : List (List ℕ)

unfoldable pub row_rules : List FeedStop → ℕ → Columns → List (RowBehind → Option Cause)
row_rules stops nodes c =
    (λ x. id_broken (cell c.stop_id x.row))
    ∷ (λ x. unknown_broken stops (cell c.stop_id x.row))
    ∷ (λ x. repeated_broken x.earlier (cell c.stop_id x.row))
    ∷ (λ x. node_broken nodes (cell c.node x.row))
    ∷ []

abbrev pub ids_in : Columns → List (List (List ℕ)) → List (List ℕ)
ids_in c rows = map (λ row. cell c.stop_id row) rows

abbrev pub row_behind : Columns → List (List (List ℕ)) → ℕ → RowBehind
row_behind c rows i = record { earlier = ids_in c (take i rows); row = row_at rows i }

abbrev pub row_named : List ℕ → Columns → List (List (List ℕ)) → Option (List (List ℕ))
row_named id c rows = find (λ row. bytes_eq id (cell c.stop_id row)) rows

abbrev pub given_vertex : Columns → List (List (List ℕ)) → List ℕ → Option NodeNo
given_vertex c rows id = option_map (λ row. record { 0 = number_in (cell c.node row) }) (row_named id c rows)
