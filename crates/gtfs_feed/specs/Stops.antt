-- The rules of stops.txt, and its stops (GTFS Schedule Reference, stops.txt).
--     stop_columns header                   the places of its columns
--     stop_rules c earlier                  the rules of a row behind rows with these ids, in their order
--     is_stop kind                          the location type is that of a stop or platform: empty or 0
--     stop_ids bytes                        the ids of all rows
--     stop_numbers bytes                    the number, from 0, of each row that is a stop or platform
--     feed_stops bytes                      the stops and platforms, each with its row
--     StopsAccepted, IsStopsRefusal         no rule is broken; the first that is
use Rattle.std.specs.Prelude.{◌≡◌, ℕ, ◌+◌, ◌==◌, ◌||◌, ◌⊎◌, Bool, List, [], ◌∷◌, length, take, map, codes, nat_le, Option, Some, None, is_some, if◌then◌else◌, ℤ}
use Rattle.refusals.specs.Refusal.{first_cause}
use Rattle.move_model.specs.declared.refusal.Cause.{Cause}
use Rattle.move_model.specs.declared.refusal.Cause.TheVariants as cause
use Rattle.tables.specs.Table.{header_of, rows_of, row_at, column_of, cell, missing_broken}
use Rattle.tables.specs.Values.{id_broken, number_in, number_broken}
use Rattle.feed_values.specs.Coordinate.{coordinate_of}
use Rattle.gtfs_feed.specs.declared.feed.FeedStop.{FeedStop}
use Rattle.gtfs_feed.specs.declared.stops.StopColumns.{StopColumns}
use Rattle.gtfs_feed.specs.Ids.{is_empty, repeated_broken}
use Rattle.gtfs_feed.specs.Table.{IsAccepted, IsTableRefusal}

unfoldable pub stop_columns : List (List ℕ) → StopColumns
stop_columns header = record {
  id = column_of (codes "stop_id") header;
  kind = column_of (codes "location_type") header;
  lat = column_of (codes "stop_lat") header;
  lon = column_of (codes "stop_lon") header;
}

abbrev pub stop_column_rules : List (StopColumns → Option Cause)
stop_column_rules = (λ c. missing_broken 0 c.id) ∷ []

-- location_type is empty or 0 to 4
unfoldable pub kind_broken : List ℕ → Option Cause
kind_broken kind = if is_empty kind then None else number_broken 0 4 kind

-- the type of a stop or platform
unfoldable pub is_stop : List ℕ → Bool
is_stop kind = is_empty kind || (number_in kind == 0)

-- the coordinate, of at most so many degrees, where it is not empty
unfoldable pub coordinate_in : ℕ → List ℕ → Option ℤ
coordinate_in degrees text = if is_empty text then None else coordinate_of degrees text

-- a coordinate of a stop or platform that is not empty is one
unfoldable pub coordinate_broken : Bool → ℕ → List ℕ → Option Cause
coordinate_broken stop degrees text =
    if stop then (if is_empty text || is_some (coordinate_of degrees text) then None else Some cause.Coordinate) else None

unfoldable pub stop_rules : StopColumns → List (List ℕ) → List (List (List ℕ) → Option Cause)
stop_rules c earlier =
    (λ row. id_broken (cell c.id row))
    ∷ (λ row. repeated_broken earlier (cell c.id row))
    ∷ (λ row. kind_broken (cell c.kind row))
    ∷ (λ row. coordinate_broken (is_stop (cell c.kind row)) 90 (cell c.lat row))
    ∷ (λ row. coordinate_broken (is_stop (cell c.kind row)) 180 (cell c.lon row))
    ∷ []

abbrev pub ids_in : StopColumns → List (List (List ℕ)) → List (List ℕ)
ids_in c rows = map (λ row. cell c.id row) rows

-- the first rule that the i-th row breaks
abbrev pub stop_broken : StopColumns → List (List (List ℕ)) → ℕ → Option Cause
stop_broken c rows i = first_cause (stop_rules c (ids_in c (take i rows))) (row_at rows i)

-- the one coordinate, where there is the other
abbrev pub beside : Option ℤ → Option ℤ → Option ℤ
beside one None = None
beside one (Some other) = one

-- the stop of a row: where one of its coordinates is missing it has none
abbrev pub stop_of : StopColumns → ℕ → List (List ℕ) → FeedStop
stop_of c number row = record {
  name = cell c.id row;
  lat = beside (coordinate_in 90 (cell c.lat row)) (coordinate_in 180 (cell c.lon row));
  lon = beside (coordinate_in 180 (cell c.lon row)) (coordinate_in 90 (cell c.lat row));
  row = number;
}

-- the stops of rows behind so many rows
unfoldable pub stops_behind : StopColumns → ℕ → List (List (List ℕ)) → List FeedStop
stops_behind c n [] = []
stops_behind c n (row ∷ rows) =
    if is_stop (cell c.kind row) then stop_of c (n + 1) row ∷ stops_behind c (n + 1) rows else stops_behind c (n + 1) rows

-- the numbers of rows behind so many stops
unfoldable pub numbers_behind : StopColumns → ℕ → List (List (List ℕ)) → List (Option ℕ)
numbers_behind c n [] = []
numbers_behind c n (row ∷ rows) =
    if is_stop (cell c.kind row) then Some n ∷ numbers_behind c (n + 1) rows else None ∷ numbers_behind c n rows

unfoldable pub stop_ids : List ℕ → List (List ℕ)
stop_ids bytes = ids_in (stop_columns (header_of bytes)) (rows_of bytes)

unfoldable pub stop_numbers : List ℕ → List (Option ℕ)
stop_numbers bytes = numbers_behind (stop_columns (header_of bytes)) 0 (rows_of bytes)

unfoldable pub feed_stops : List ℕ → List FeedStop
feed_stops bytes = stops_behind (stop_columns (header_of bytes)) 0 (rows_of bytes)

-- there are at most 200,000 stops and platforms
unfoldable pub stops_broken : ℕ → Option Cause
stops_broken stops = if nat_le stops 200000 then None else Some (cause.Limit stops)

abbrev pub StopRowsAccepted : List ℕ → Type 0
StopRowsAccepted bytes =
    IsAccepted (first_cause stop_column_rules (stop_columns (header_of bytes))) (rows_of bytes) (stop_broken (stop_columns (header_of bytes)) (rows_of bytes))

pub record StopsAccepted (bytes : List ℕ) : Type 0 where
  pub rows : StopRowsAccepted bytes
  pub few : stops_broken (length (feed_stops bytes)) ≡ None

-- the number of stops is tested after all rows
abbrev pub IsStopsRefusal : List ℕ → ℕ → Cause → Type 0
IsStopsRefusal bytes row because =
    IsTableRefusal (first_cause stop_column_rules (stop_columns (header_of bytes))) (rows_of bytes) (stop_broken (stop_columns (header_of bytes)) (rows_of bytes)) row because
    ⊎ (StopRowsAccepted bytes × (row ≡ 0) × (stops_broken (length (feed_stops bytes)) ≡ Some because))
