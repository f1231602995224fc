-- A row more of trips.txt.
use Rattle.std.proofs.Common.{◌≡◌, ◌∙◌, ℕ, ◌<◌, ◌≤◌, List, [], ◌∷◌, ◌++◌, length, take, map, Option, None, refl, sym, ap, arith}
use Rattle.std.proofs.lemmas.List.{take_more, take_all, map_push, length-map, length-take-le}
use Rattle.csv.specs.Records.{fields_of}
use Rattle.move_model.specs.declared.refusal.FileKind.TheVariants as file_kind
use Rattle.move_model.specs.declared.refusal.Stopped.{Stopped}
use Rattle.move_model.specs.declared.refusal.Cause.{Cause}
use Rattle.refusals.specs.Refusal.{first_cause}
use Rattle.tables.specs.Names.{place_of}
use Rattle.tables.specs.Table.{header_of, rows_of, row_at, cell}
use Rattle.gtfs_feed.specs.declared.file_rows.FileRows.{FileRows}
use Rattle.gtfs_feed.specs.declared.refuse.RowStop.{RowStop}
use Rattle.gtfs_feed.specs.declared.trips.TripColumns.{TripColumns}
use Rattle.gtfs_feed.specs.declared.trips.TripTable.{TripTable}
use Rattle.gtfs_feed.specs.Feed.{IsId}
use Rattle.gtfs_feed.specs.Kept.{IsTripTable}
use Rattle.gtfs_feed.specs.Reading.{ReadsRow, IsReading}
use Rattle.gtfs_feed.specs.Trips.{trip_columns, trip_column_rules, trip_rules, trip_broken, ids_in, bare_trip, trip_ids, bare_trips}
use Rattle.gtfs_feed.specs.RowStops.{Breaks, IsRowStop}
use Rattle.gtfs_feed.specs.Table.{Refuses, RefusesTable}
use Rattle.gtfs_feed.proofs.IdLemmas.{new-id}
use Rattle.gtfs_feed.proofs.Progress as progress
use Rattle.gtfs_feed.proofs.Progress.{Progress}

pub once : (c : TripColumns) (names row : List (List ℕ)) → first_cause (trip_rules c names) row ≡ None → IsId (cell c.id row) × (place_of (cell c.id row) names ≡ None)
unfolding trip_rules
once c names row e = new-id names (cell c.id row) _ e

-- what is read of trips.txt so far
pub record TripsProgress (bytes : List ℕ) (services : List (List ℕ)) (file : FileRows) (table : TripTable) : Type 0 where
  pub progress : Progress file_kind.Trips bytes (trip_broken (trip_columns (header_of bytes)) (rows_of bytes)) file
  pub kept : IsTripTable (length services) table
  pub names : table.names ≡ ids_in (trip_columns (header_of bytes)) (take file.number (rows_of bytes))
  pub trips : table.trips.items ≡ map (bare_trip (trip_columns (header_of bytes)) services) (take file.number (rows_of bytes))

pub begun : (bytes : List ℕ) (services : List (List ℕ)) (file : FileRows) (table : TripTable) → IsReading file
    → (file.file ≡ file_kind.Trips) × (file.bytes.now ≡ bytes) × (file.number ≡ 0) → table.names ≡ [] → table.trips.items ≡ [] → TripsProgress bytes services file table
begun bytes services file table reads starts names trips =
    let zero = starts.2 in
    let none : length table.trips.items ≡ 0 = rw trips refl in
    let unnamed : length table.names ≡ 0 = rw names refl in
    record {
      progress = progress.begun file_kind.Trips bytes _ file reads starts;
      kept = record { bare = λ k d lt. absurd (omega arith); each = omega arith };
      names = rw zero names;
      trips = rw zero trips;
    }

-- the rule that the next row breaks is that of its fields
pub next : (bytes : List ℕ) (services : List (List ℕ)) (old new : FileRows) (table : TripTable) (c : TripColumns) (row : List (List ℕ)) (o : Option Cause)
    → TripsProgress bytes services old table → ReadsRow old new → c ≡ trip_columns (header_of bytes) → fields_of new.row ≡ row
    → first_cause (trip_rules c table.names) row ≡ o → trip_broken (trip_columns (header_of bytes)) (rows_of bytes) old.number ≡ o
next bytes services old new table c row o p r columns fields e =
    let here : row ≡ row_at (rows_of bytes) old.number = sym fields ∙ progress.row_is file_kind.Trips bytes _ old new p.progress r in
    rw (columns, p.names, here) at e

pub more : (bytes : List ℕ) (services : List (List ℕ)) (old new : FileRows) (table grown : TripTable) (c : TripColumns) (row : List (List ℕ))
    → TripsProgress bytes services old table → ReadsRow old new → c ≡ trip_columns (header_of bytes) → fields_of new.row ≡ row
    → first_cause (trip_rules c table.names) row ≡ None → IsTripTable (length services) grown → grown.names ≡ table.names ++ cell c.id row ∷ []
    → grown.trips.items ≡ table.trips.items ++ bare_trip c services row ∷ [] → TripsProgress bytes services new grown
more bytes services old new table grown c row p r columns fields holds kept names trips =
    let here : row ≡ row_at (rows_of bytes) old.number = sym fields ∙ progress.row_is file_kind.Trips bytes _ old new p.progress r in
    let lt : old.number < length (rows_of bytes) = progress.inside file_kind.Trips bytes _ old new p.progress r in
    let up : take new.number (rows_of bytes) ≡ take old.number (rows_of bytes) ++ row_at (rows_of bytes) old.number ∷ [] =
    ap (λ (n : ℕ). take n (rows_of bytes)) r.number ∙ take_more (rows_of bytes) old.number [] lt in
    record {
      progress = progress.more file_kind.Trips bytes _ old new p.progress r (next bytes services old new table c row None p r columns fields holds);
      kept = kept;
      names = rw (up, map_push (λ (fields : List (List ℕ)). cell (trip_columns (header_of bytes)).id fields) (take old.number (rows_of bytes)) (row_at (rows_of bytes) old.number))
          (rw (columns, here, p.names) at names);
      trips = rw (up, map_push (bare_trip (trip_columns (header_of bytes)) services) (take old.number (rows_of bytes)) (row_at (rows_of bytes) old.number))
          (rw (columns, here, p.trips) at trips);
    }

-- all rows are read
pub all : (bytes : List ℕ) (services : List (List ℕ)) (file : FileRows) (table : TripTable) → TripsProgress bytes services file table → length (rows_of file.bytes.now) ≡ file.number
    → (table.names ≡ trip_ids bytes) × (table.trips.items ≡ bare_trips services bytes)
unfolding trip_ids bare_trips
all bytes services file table p end =
    let n = progress.all_read file_kind.Trips bytes _ file p.progress end in
    let whole : take file.number (rows_of bytes) ≡ rows_of bytes = take_all file.number (rows_of bytes) (omega arith) in
    (rw whole at p.names, rw whole at p.trips)

pub few : (bytes : List ℕ) (services : List (List ℕ)) (file : FileRows) (table : TripTable) → TripsProgress bytes services file table → length table.trips.items ≤ 50000000
few bytes services file table p =
    omega (
      arith,
      p.progress.reads.few,
      p.progress.reads.within,
      ap length p.trips,
      length-map (take file.number (rows_of bytes)) (bare_trip (trip_columns (header_of bytes)) services),
      rw p.progress.of_bytes at p.progress.reads.within,
      length-take-le file.number (rows_of bytes) (rw p.progress.of_bytes at p.progress.reads.within),
    )

-- a row was not taken
pub row_refused : (bytes : List ℕ) (services : List (List ℕ)) (old new : FileRows) (table : TripTable) (c : TripColumns) (row : List (List ℕ)) (row_stop : RowStop) (stop : Stopped)
    → TripsProgress bytes services old table → first_cause trip_column_rules (trip_columns (header_of bytes)) ≡ None → ReadsRow old new → c ≡ trip_columns (header_of bytes) → fields_of new.row ≡ row
    → Breaks (first_cause (trip_rules c table.names) row) row_stop → Refuses stop (IsRowStop new.file (length (rows_of new.bytes.now)) new.number row_stop)
    → RefusesTable file_kind.Trips (first_cause trip_column_rules (trip_columns (header_of bytes))) (rows_of bytes) (trip_broken (trip_columns (header_of bytes)) (rows_of bytes)) stop
row_refused bytes services old new table c row row_stop stop p there r columns fields breaks h =
    progress.row file_kind.Trips _ bytes _ old new row_stop stop p.progress there r (rw (next bytes services old new table c row _ p r columns fields refl) breaks) h
