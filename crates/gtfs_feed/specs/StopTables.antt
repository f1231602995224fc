-- The table of stops that is made of the rows of stops.txt.
--     position_of c row                     the coordinates of a stop or platform; None for another row
--     AddsStopRow old new c row number      the new table is the old one and this row
--     IsStopTableOf c rows table            the table of so many rows
use Rattle.std.specs.Prelude.{◌≡◌, ℕ, List, [], ◌∷◌, ◌++◌, length, Option, Some, None, if◌then◌else◌}
use Rattle.tables.specs.Table.{cell}
use Rattle.gtfs_feed.specs.declared.stops.StopColumns.{StopColumns}
use Rattle.gtfs_feed.specs.declared.stops.StopTable.{StopTable}
use Rattle.gtfs_feed.specs.declared.stops.Position.{Position}
use Rattle.gtfs_feed.specs.Stops.{is_stop, stop_of, ids_in, numbers_behind, stops_behind}

abbrev pub position_of : StopColumns → List (List ℕ) → Option Position
position_of c row =
    if is_stop (cell c.kind row) then Some (record { lat = (stop_of c 0 row).lat; lon = (stop_of c 0 row).lon }) else None

pub record AddsStopRow (old new : StopTable) (c : StopColumns) (row : List (List ℕ)) (number : ℕ) : Type 0 where
  pub names : new.names ≡ old.names ++ cell c.id row ∷ []
  pub numbers : new.numbers ≡ old.numbers ++ (if is_stop (cell c.kind row) then Some (length old.stops) else None) ∷ []
  pub stops : new.stops ≡ old.stops ++ (if is_stop (cell c.kind row) then stop_of c number row ∷ [] else [])

pub record IsStopTableOf (c : StopColumns) (rows : List (List (List ℕ))) (table : StopTable) : Type 0 where
  pub names : table.names ≡ ids_in c rows
  pub numbers : table.numbers ≡ numbers_behind c 0 rows
  pub stops : table.stops ≡ stops_behind c 0 rows
