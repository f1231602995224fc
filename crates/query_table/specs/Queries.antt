-- A file of queries.
--     IsQueryTable n bytes           no rule is broken
--     IsQueryRefusal n bytes r       the first broken rule, with the file, its row and its cause
--     queries_of n bytes             the queries of the rows, in their order
--     IsQuery n q                    what a query that was read keeps
use Rattle.std.specs.Prelude.{◌≡◌, ℕ, ◌+◌, ◌-◌, ◌≤◌, List, [], ◌∷◌, ◌++◌, length, map, Option, Some, None, nat_le, if◌then◌else◌}
use Rattle.move_model.specs.declared.network.Network.{Network}
use Rattle.move_model.specs.declared.query.Query.{Query}
use Rattle.move_model.specs.declared.query.Query.TheVariants as query
use Rattle.move_model.specs.declared.refusal.Cause.{Cause}
use Rattle.move_model.specs.declared.refusal.Cause.TheVariants as cause
use Rattle.move_model.specs.declared.refusal.FileKind.TheVariants as file
use Rattle.move_model.specs.declared.refusal.Refusal.{Refusal}
use Rattle.move_model.specs.Network.{streets}
use Rattle.move_model.specs.Streets.{IsVertex}
use Rattle.refusals.specs.Refusal.{FileAccepted, IsFileRefusal, first_cause}
use Rattle.tables.specs.Table.{header_of, rows_of, row_at}
use Rattle.query_table.specs.declared.columns.Columns.{Columns}
use Rattle.query_table.specs.Rules.{columns_of, column_rules, query_rules, query_of}

abbrev pub columns_in : List ℕ → Columns
columns_in bytes = columns_of (header_of bytes)

-- there are at most 100,000 rows
unfoldable pub rows_broken : List ℕ → Option Cause
rows_broken bytes = if nat_le (length (rows_of bytes)) 100000 then None else Some (cause.Limit (length (rows_of bytes)))

-- the rules of the whole file: the columns, and then the number of rows
unfoldable pub file_rules : List (List ℕ → Option Cause)
file_rules = map (λ rule bytes. rule (columns_in bytes)) column_rules ++ rows_broken ∷ []

unfoldable pub IsQueryTable : Network → List ℕ → Type 0
IsQueryTable n bytes = FileAccepted file_rules bytes (query_rules n (columns_in bytes)) (row_at (rows_of bytes)) (length (rows_of bytes))

unfoldable pub IsQueryRefusal : Network → List ℕ → Refusal → Type 0
IsQueryRefusal n bytes r =
    (r.file ≡ file.Queries)
    × IsFileRefusal file_rules bytes (query_rules n (columns_in bytes)) (row_at (rows_of bytes)) (length (rows_of bytes)) r.row r.cause

unfoldable pub queries_of : Network → List ℕ → List Query
queries_of n bytes = map (query_of n (columns_in bytes)) (rows_of bytes)

-- its places are vertices, its seconds are of the service day, its window is no longer than a day, and its limit is at most 16
abbrev pub IsQuery : Network → Query → Type 0
IsQuery n (query.At from to depart limit) =
    IsVertex (streets n) from.node × IsVertex (streets n) to.node × (depart ≤ 3599999) × (limit ≤ 16)
IsQuery n (query.Range from to first last limit) =
    IsVertex (streets n) from.node × IsVertex (streets n) to.node × (first ≤ last) × (last ≤ 3599999) × (last - first + 1 ≤ 86400) × (limit ≤ 16)
