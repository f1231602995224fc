-- The table stop_nodes.txt, for the stops of a feed and a street graph of so many vertices.
--     IsTable stops nodes bytes                    no rule is broken
--     IsTableRefusal stops nodes bytes row cause   the first broken rule, with its row and its cause
--     TableAccepted, TableRefused                  the same of a file that may be missing, which breaks no rule
--     table_vertex bytes id                        the vertex that the table gives to an id, or None
use Rattle.std.specs.Prelude.{ℕ, List, [], ◌∷◌, ◌++◌, length, map, Option, Some, None, nat_le, if◌then◌else◌}
use Rattle.gtfs_feed.specs.declared.feed.FeedStop.{FeedStop}
use Rattle.move_model.specs.declared.network.NodeNo.{NodeNo}
use Rattle.move_model.specs.declared.refusal.Cause.{Cause}
use Rattle.move_model.specs.declared.refusal.Cause.TheVariants as cause
use Rattle.refusals.specs.Refusal.{FileAccepted, IsFileRefusal}
use Rattle.tables.specs.Table.{header_of, rows_of}
use Rattle.stop_places.specs.declared.columns.Columns.{Columns}
use Rattle.stop_places.specs.Rules.{columns_of, column_rules, row_rules, row_behind, given_vertex}

abbrev pub columns_in : List ℕ → Columns
columns_in bytes = columns_of (header_of bytes)

-- there are at most 50,000,000 rows
unfoldable pub rows_broken : List ℕ → Option Cause
rows_broken bytes = if nat_le (length (rows_of bytes)) 50000000 then None else Some (cause.Limit (length (rows_of bytes)))

-- the rules of the whole file: the columns, and then the number of rows
unfoldable pub file_rules : List (List ℕ → Option Cause)
file_rules = map (λ rule bytes. rule (columns_in bytes)) column_rules ++ rows_broken ∷ []

unfoldable pub IsTable : List FeedStop → ℕ → List ℕ → Type 0
IsTable stops nodes bytes =
    FileAccepted file_rules bytes (row_rules stops nodes (columns_in bytes)) (row_behind (columns_in bytes) (rows_of bytes)) (length (rows_of bytes))

unfoldable pub IsTableRefusal : List FeedStop → ℕ → List ℕ → ℕ → Cause → Type 0
IsTableRefusal stops nodes bytes row cause =
    IsFileRefusal file_rules bytes (row_rules stops nodes (columns_in bytes)) (row_behind (columns_in bytes) (rows_of bytes)) (length (rows_of bytes)) row cause

abbrev pub TableAccepted : List FeedStop → ℕ → Option (List ℕ) → Type 0
TableAccepted stops nodes None = Unit {0}
TableAccepted stops nodes (Some bytes) = IsTable stops nodes bytes

abbrev pub TableRefused : List FeedStop → ℕ → Option (List ℕ) → ℕ → Cause → Type 0
TableRefused stops nodes None row cause = ⊥
TableRefused stops nodes (Some bytes) row cause = IsTableRefusal stops nodes bytes row cause

abbrev pub table_vertex : Option (List ℕ) → List ℕ → Option NodeNo
table_vertex None id = None
table_vertex (Some bytes) id = given_vertex (columns_in bytes) (rows_of bytes) id
