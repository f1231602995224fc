-- A row more of calendar.txt.
use Rattle.std.proofs.Common.{◌≡◌, ◌∙◌, ℕ, ◌<◌, ◌≤◌, List, [], ◌∷◌, ◌++◌, length, take, map, Option, None, refl, sym, ap, arith}
use Rattle.std.proofs.lemmas.List.{take_more, take_all, map_push, length-map, length-take-le}
use Rattle.csv.specs.Records.{fields_of}
use Rattle.move_model.specs.declared.refusal.FileKind.TheVariants as file_kind
use Rattle.move_model.specs.declared.refusal.Stopped.{Stopped}
use Rattle.move_model.specs.declared.refusal.Cause.{Cause}
use Rattle.refusals.specs.Refusal.{first_cause}
use Rattle.tables.specs.Names.{place_of}
use Rattle.tables.specs.Table.{header_of, rows_of, row_at, cell}
use Rattle.gtfs_feed.specs.declared.file_rows.FileRows.{FileRows}
use Rattle.gtfs_feed.specs.declared.refuse.RowStop.{RowStop}
use Rattle.gtfs_feed.specs.declared.services.CalendarColumns.{CalendarColumns}
use Rattle.gtfs_feed.specs.declared.services.ServiceTable.{ServiceTable}
use Rattle.gtfs_feed.specs.Feed.{IsId}
use Rattle.gtfs_feed.specs.Kept.{IsServiceTable}
use Rattle.gtfs_feed.specs.Reading.{ReadsRow, IsReading}
use Rattle.gtfs_feed.specs.Calendar.{calendar_columns, calendar_column_rules, calendar_rules, calendar_broken, ids_in, week_service, calendar_ids, week_services}
use Rattle.gtfs_feed.specs.RowStops.{Breaks, IsRowStop}
use Rattle.gtfs_feed.specs.Table.{Refuses, RefusesTable}
use Rattle.gtfs_feed.proofs.IdLemmas.{new-id}
use Rattle.gtfs_feed.proofs.Progress as progress
use Rattle.gtfs_feed.proofs.Progress.{Progress}

pub once : (c : CalendarColumns) (names row : List (List ℕ)) → first_cause (calendar_rules c names) row ≡ None → IsId (cell c.id row) × (place_of (cell c.id row) names ≡ None)
unfolding calendar_rules
once c names row e = new-id names (cell c.id row) _ e

-- what is read of calendar.txt so far
pub record CalendarProgress (bytes : List ℕ) (file : FileRows) (table : ServiceTable) : Type 0 where
  pub progress : Progress file_kind.Calendar bytes (calendar_broken (calendar_columns (header_of bytes)) (rows_of bytes)) file
  pub kept : IsServiceTable table
  pub names : table.names ≡ ids_in (calendar_columns (header_of bytes)) (take file.number (rows_of bytes))
  pub unseen : table.seen ≡ []
  pub services : table.services.items ≡ map (week_service (calendar_columns (header_of bytes))) (take file.number (rows_of bytes))

pub begun : (bytes : List ℕ) (file : FileRows) (table : ServiceTable) → IsReading file
    → (file.file ≡ file_kind.Calendar) × (file.bytes.now ≡ bytes) × (file.number ≡ 0) → table.names ≡ [] → table.services.items ≡ [] → table.seen ≡ [] → CalendarProgress bytes file table
begun bytes file table reads starts names services unseen =
    let zero = starts.2 in
    let none : length table.services.items ≡ 0 = rw services refl in
    let unnamed : length table.names ≡ 0 = rw names refl in
    record {
      progress = progress.begun file_kind.Calendar bytes _ file reads starts;
      kept = record { named = λ k d lt. absurd (omega arith); each = omega arith };
      names = rw zero names;
      unseen = unseen;
      services = rw zero services;
    }

-- the rule that the next row breaks is that of its fields
pub next : (bytes : List ℕ) (old new : FileRows) (table : ServiceTable) (c : CalendarColumns) (row : List (List ℕ)) (o : Option Cause)
    → CalendarProgress bytes old table → ReadsRow old new → c ≡ calendar_columns (header_of bytes) → fields_of new.row ≡ row
    → first_cause (calendar_rules c table.names) row ≡ o → calendar_broken (calendar_columns (header_of bytes)) (rows_of bytes) old.number ≡ o
next bytes old new table c row o p r columns fields e =
    let here : row ≡ row_at (rows_of bytes) old.number = sym fields ∙ progress.row_is file_kind.Calendar bytes _ old new p.progress r in
    rw (columns, p.names, here) at e

pub more : (bytes : List ℕ) (old new : FileRows) (table grown : ServiceTable) (c : CalendarColumns) (row : List (List ℕ))
    → CalendarProgress bytes old table → ReadsRow old new → c ≡ calendar_columns (header_of bytes) → fields_of new.row ≡ row
    → first_cause (calendar_rules c table.names) row ≡ None → IsServiceTable grown → grown.names ≡ table.names ++ cell c.id row ∷ []
    → grown.services.items ≡ table.services.items ++ week_service c row ∷ [] → grown.seen ≡ table.seen → CalendarProgress bytes new grown
more bytes old new table grown c row p r columns fields holds kept names services seen =
    let here : row ≡ row_at (rows_of bytes) old.number = sym fields ∙ progress.row_is file_kind.Calendar bytes _ old new p.progress r in
    let lt : old.number < length (rows_of bytes) = progress.inside file_kind.Calendar bytes _ old new p.progress r in
    let up : take new.number (rows_of bytes) ≡ take old.number (rows_of bytes) ++ row_at (rows_of bytes) old.number ∷ [] =
    ap (λ (n : ℕ). take n (rows_of bytes)) r.number ∙ take_more (rows_of bytes) old.number [] lt in
    record {
      progress = progress.more file_kind.Calendar bytes _ old new p.progress r (next bytes old new table c row None p r columns fields holds);
      kept = kept;
      names = rw (up, map_push (λ (fields : List (List ℕ)). cell (calendar_columns (header_of bytes)).id fields) (take old.number (rows_of bytes)) (row_at (rows_of bytes) old.number))
          (rw (columns, here, p.names) at names);
      unseen = rw seen p.unseen;
      services = rw (up, map_push (week_service (calendar_columns (header_of bytes))) (take old.number (rows_of bytes)) (row_at (rows_of bytes) old.number))
          (rw (columns, here, p.services) at services);
    }

-- all rows are read
pub all : (bytes : List ℕ) (file : FileRows) (table : ServiceTable) → CalendarProgress bytes file table → length (rows_of file.bytes.now) ≡ file.number
    → (table.names ≡ calendar_ids bytes) × (table.services.items ≡ week_services bytes)
unfolding calendar_ids week_services
all bytes file table p end =
    let n = progress.all_read file_kind.Calendar bytes _ file p.progress end in
    let whole : take file.number (rows_of bytes) ≡ rows_of bytes = take_all file.number (rows_of bytes) (omega arith) in
    (rw whole at p.names, rw whole at p.services)

pub few : (bytes : List ℕ) (file : FileRows) (table : ServiceTable) → CalendarProgress bytes file table → length table.services.items ≤ 50000000
few bytes file table p =
    omega (
      arith,
      p.progress.reads.few,
      p.progress.reads.within,
      ap length p.services,
      length-map (take file.number (rows_of bytes)) (week_service (calendar_columns (header_of bytes))),
      rw p.progress.of_bytes at p.progress.reads.within,
      length-take-le file.number (rows_of bytes) (rw p.progress.of_bytes at p.progress.reads.within),
    )

-- a row was not taken
pub row_refused : (bytes : List ℕ) (old new : FileRows) (table : ServiceTable) (c : CalendarColumns) (row : List (List ℕ)) (row_stop : RowStop) (stop : Stopped)
    → CalendarProgress bytes old table → first_cause calendar_column_rules (calendar_columns (header_of bytes)) ≡ None → ReadsRow old new → c ≡ calendar_columns (header_of bytes) → fields_of new.row ≡ row
    → Breaks (first_cause (calendar_rules c table.names) row) row_stop → Refuses stop (IsRowStop new.file (length (rows_of new.bytes.now)) new.number row_stop)
    → RefusesTable file_kind.Calendar (first_cause calendar_column_rules (calendar_columns (header_of bytes))) (rows_of bytes) (calendar_broken (calendar_columns (header_of bytes)) (rows_of bytes)) stop
row_refused bytes old new table c row row_stop stop p there r columns fields breaks h =
    progress.row file_kind.Calendar _ bytes _ old new row_stop stop p.progress there r (rw (next bytes old new table c row _ p r columns fields refl) breaks) h
