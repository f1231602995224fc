-- The rules of a table of queries.
--     columns_of header          the places of the columns that it names
--     column_rules               each column is there (NoColumn), in their order
--     query_rules n c            the rules of a row, in their order, for the network n and the columns c
--     query_of n c row           the query of a row
use Rattle.std.specs.Prelude.{ℕ, ◌+◌, ◌-◌, ◌||◌, Bool, List, [], ◌∷◌, Option, Some, None, codes, nat_lt, nat_le, if◌then◌else◌}
use Rattle.std.specs.Str.{bytes_eq}
use Rattle.move_model.specs.declared.network.Network.{Network}
use Rattle.move_model.specs.declared.query.Query.{Query}
use Rattle.move_model.specs.declared.query.Query.TheVariants as query
use Rattle.move_model.specs.declared.refusal.Cause.{Cause}
use Rattle.move_model.specs.declared.refusal.Cause.TheVariants as cause
use Rattle.refusals.specs.Refusal.{or_then}
use Rattle.tables.specs.Table.{column_of, missing_broken, cell}
use Rattle.tables.specs.Values.{number_in, number_broken, time_in, time_broken}
use Rattle.query_table.specs.declared.columns.Columns.{Columns}
use Rattle.query_table.specs.Places.{place_broken, place_in}

unfoldable pub columns_of : List (List ℕ) → Columns
columns_of header = record {
  kind = column_of (codes "kind") header;
  from = column_of (codes "from") header;
  to = column_of (codes "to") header;
  first = column_of (codes "first") header;
  last = column_of (codes "last") header;
  trips = column_of (codes "trips") header;
}

abbrev pub column_rules : List (Columns → Option Cause)
column_rules =
    (λ c. missing_broken 0 c.kind)
    ∷ (λ c. missing_broken 1 c.from)
    ∷ (λ c. missing_broken 2 c.to)
    ∷ (λ c. missing_broken 3 c.first)
    ∷ (λ c. missing_broken 4 c.last)
    ∷ (λ c. missing_broken 5 c.trips)
    ∷ []

unfoldable pub is_range : List ℕ → Bool
is_range text = bytes_eq text (codes "range")

-- kinds that are not answered yet
unfoldable pub is_unbuilt : List ℕ → Bool
is_unbuilt text = bytes_eq text (codes "by") || bytes_eq text (codes "reach")

-- kind is at, or range
unfoldable pub kind_broken : List ℕ → Option Cause
kind_broken text =
    if bytes_eq text (codes "at") then None
    else if is_unbuilt text then Some cause.Unbuilt
    else if is_range text then None
    else Some cause.Kind

-- a window does not end before it begins, and has at most 86,400 seconds, both ends included
unfoldable pub window_broken : ℕ → ℕ → Option Cause
window_broken first last =
    if nat_lt last first then Some (cause.Window 0)
    else if nat_le (last - first + 1) 86400 then None
    else Some (cause.Window (last - first + 1))

-- last is read of a range alone
unfoldable pub last_broken : Bool → ℕ → List ℕ → Option Cause
last_broken range first text = if range then or_then (time_broken text) (window_broken first (time_in text)) else None

unfoldable pub query_rules : Network → Columns → List (List (List ℕ) → Option Cause)
query_rules n c =
    (λ row. kind_broken (cell c.kind row))
    ∷ (λ row. place_broken n (cell c.from row))
    ∷ (λ row. place_broken n (cell c.to row))
    ∷ (λ row. time_broken (cell c.first row))
    ∷ (λ row. last_broken (is_range (cell c.kind row)) (time_in (cell c.first row)) (cell c.last row))
    ∷ (λ row. number_broken 0 16 (cell c.trips row))
    ∷ []

unfoldable pub query_of : Network → Columns → List (List ℕ) → Query
query_of n c row =
    if is_range (cell c.kind row)
    then query.Range (place_in n (cell c.from row)) (place_in n (cell c.to row)) (time_in (cell c.first row)) (time_in (cell c.last row)) (number_in (cell c.trips row))
    else query.At (place_in n (cell c.from row)) (place_in n (cell c.to row)) (time_in (cell c.first row)) (number_in (cell c.trips row))
