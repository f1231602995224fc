-- The rules of trips.txt, and its trips (GTFS Schedule Reference, trips.txt).
--     trip_columns header                   the places of its columns
--     trip_rules c earlier                  the rules of a row behind rows with these ids, in their order
--     trip_ids bytes                        the ids of all rows
--     bare_trip c services row              the trip of a row, with the place of its service among these, and no calls yet
--     TripsAccepted, IsTripsRefusal         no rule is broken; the first that is
use Rattle.std.specs.Prelude.{ℕ, List, [], ◌∷◌, take, map, codes, Option}
use Rattle.refusals.specs.Refusal.{first_cause}
use Rattle.move_model.specs.declared.refusal.Cause.{Cause}
use Rattle.tables.specs.Names.{place_of}
use Rattle.tables.specs.Table.{header_of, rows_of, row_at, column_of, cell, missing_broken}
use Rattle.tables.specs.Values.{id_broken}
use Rattle.gtfs_feed.specs.declared.feed.FeedTrip.{FeedTrip}
use Rattle.gtfs_feed.specs.declared.trips.TripColumns.{TripColumns}
use Rattle.gtfs_feed.specs.Ids.{repeated_broken}
use Rattle.gtfs_feed.specs.Table.{IsAccepted, IsTableRefusal}

unfoldable pub trip_columns : List (List ℕ) → TripColumns
trip_columns header = record {
  service = column_of (codes "service_id") header;
  id = column_of (codes "trip_id") header;
}

abbrev pub trip_column_rules : List (TripColumns → Option Cause)
trip_column_rules = (λ c. missing_broken 0 c.service) ∷ (λ c. missing_broken 1 c.id) ∷ []

unfoldable pub trip_rules : TripColumns → List (List ℕ) → List (List (List ℕ) → Option Cause)
trip_rules c earlier =
    (λ row. id_broken (cell c.id row))
    ∷ (λ row. repeated_broken earlier (cell c.id row))
    ∷ (λ row. id_broken (cell c.service row))
    ∷ []

abbrev pub ids_in : TripColumns → List (List (List ℕ)) → List (List ℕ)
ids_in c rows = map (λ row. cell c.id row) rows

-- the first rule that the i-th row breaks
abbrev pub trip_broken : TripColumns → List (List (List ℕ)) → ℕ → Option Cause
trip_broken c rows i = first_cause (trip_rules c (ids_in c (take i rows))) (row_at rows i)

abbrev pub bare_trip : TripColumns → List (List ℕ) → List (List ℕ) → FeedTrip
bare_trip c services row = record { name = cell c.id row; service = place_of (cell c.service row) services; calls = [] }

unfoldable pub trip_ids : List ℕ → List (List ℕ)
trip_ids bytes = ids_in (trip_columns (header_of bytes)) (rows_of bytes)

-- the trips of all rows
unfoldable pub bare_trips : List (List ℕ) → List ℕ → List FeedTrip
bare_trips services bytes = map (bare_trip (trip_columns (header_of bytes)) services) (rows_of bytes)

abbrev pub TripsAccepted : List ℕ → Type 0
TripsAccepted bytes =
    IsAccepted (first_cause trip_column_rules (trip_columns (header_of bytes))) (rows_of bytes) (trip_broken (trip_columns (header_of bytes)) (rows_of bytes))

abbrev pub IsTripsRefusal : List ℕ → ℕ → Cause → Type 0
IsTripsRefusal bytes row because =
    IsTableRefusal (first_cause trip_column_rules (trip_columns (header_of bytes))) (rows_of bytes) (trip_broken (trip_columns (header_of bytes)) (rows_of bytes)) row because
