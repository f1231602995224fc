-- The values of a row, before the words of its places are copied.
--     values_of n c row              the values
--     query_with values from to      the query of these values, with the words of its places
use Rattle.std.specs.Prelude.{ℕ, List, if◌then◌else◌}
use Rattle.move_model.specs.declared.network.Network.{Network}
use Rattle.move_model.specs.declared.query.Query.{Query}
use Rattle.move_model.specs.declared.query.Query.TheVariants as query
use Rattle.tables.specs.Table.{cell}
use Rattle.tables.specs.Values.{number_in, time_in}
use Rattle.query_table.specs.declared.columns.Columns.{Columns}
use Rattle.query_table.specs.declared.row.Values.{Values}
use Rattle.query_table.specs.Places.{node_in}
use Rattle.query_table.specs.Rules.{is_range}

abbrev pub values_of : Network → Columns → List (List ℕ) → Values
values_of n c row = record {
  range = is_range (cell c.kind row);
  from = node_in n (cell c.from row);
  to = node_in n (cell c.to row);
  first = time_in (cell c.first row);
  last = if is_range (cell c.kind row) then time_in (cell c.last row) else 0;
  limit = number_in (cell c.trips row);
}

unfoldable pub query_with : Values → List ℕ → List ℕ → Query
query_with values from to =
    if values.range
    then query.Range (record { node = values.from; word = from }) (record { node = values.to; word = to }) values.first values.last values.limit
    else query.At (record { node = values.from; word = from }) (record { node = values.to; word = to }) values.first values.limit
