-- A row more of calendar_dates.txt.
use Rattle.std.proofs.Common.{◌≡◌, ◌∙◌, ℕ, ◌+◌, ◌<◌, ◌≤◌, List, [], ◌∷◌, ◌++◌, length, take, map, Option, None, refl, sym, ap, arith}
use Rattle.std.proofs.lemmas.List.{take_more, take_all, map_push}
use Rattle.csv.specs.Records.{fields_of}
use Rattle.move_model.specs.declared.refusal.Cause.{Cause}
use Rattle.move_model.specs.declared.refusal.FileKind.TheVariants as file_kind
use Rattle.move_model.specs.declared.refusal.Stopped.{Stopped}
use Rattle.refusals.specs.Refusal.{first_cause}
use Rattle.tables.specs.Table.{header_of, rows_of, row_at, cell}
use Rattle.gtfs_feed.specs.declared.feed.Service.{Service}
use Rattle.gtfs_feed.specs.declared.file_rows.FileRows.{FileRows}
use Rattle.gtfs_feed.specs.declared.refuse.RowStop.{RowStop}
use Rattle.gtfs_feed.specs.declared.services.CalendarColumns.{CalendarColumns}
use Rattle.gtfs_feed.specs.declared.services.DateColumns.{DateColumns}
use Rattle.gtfs_feed.specs.declared.services.ServiceTable.{ServiceTable}
use Rattle.gtfs_feed.specs.Calendar.{calendar_columns, week_service, calendar_ids, week_services}
use Rattle.gtfs_feed.specs.Dates.{date_columns, date_column_rules, exception_broken, exception_key, keys_in, names_in, with_row, dated, dated_services, dates_broken}
use Rattle.gtfs_feed.specs.Kept.{IsServiceTable}
use Rattle.gtfs_feed.specs.Reading.{IsReading, ReadsRow}
use Rattle.gtfs_feed.specs.RowStops.{Breaks, IsRowStop}
use Rattle.gtfs_feed.specs.Table.{Refuses, RefusesTable}
use Rattle.gtfs_feed.proofs.Progress as progress
use Rattle.gtfs_feed.proofs.Progress.{Progress}

dated-push : (c : DateColumns) (rows : List (List (List ℕ))) (row : List (List ℕ)) (services : List Service) → dated c (rows ++ row ∷ []) services ≡ with_row c row (dated c rows services)
unfolding dated
dated-push c [] row services = refl
dated-push c (first ∷ rows) row services = dated-push c rows row (with_row c first services)

dated-none : (c : DateColumns) (services : List Service) → services ≡ dated c [] services
unfolding dated
dated-none c services = refl

named : (c : CalendarColumns) (rows : List (List (List ℕ))) → map (λ row. cell c.id row) rows ≡ map (λ (service : Service). service.name) (map (week_service c) rows)
named c [] = refl
named c (row ∷ rows) = ap (λ (rest : List (List ℕ)). cell c.id row ∷ rest) (named c rows)

-- the services of calendar.txt have its ids
pub weeks-named : (bytes : List ℕ) → calendar_ids bytes ≡ names_in (week_services bytes)
unfolding calendar_ids week_services
weeks-named bytes = named (calendar_columns (header_of bytes)) (rows_of bytes)

-- what is read of calendar_dates.txt so far
pub record DatesProgress (bytes : List ℕ) (start : List Service) (file : FileRows) (table : ServiceTable) : Type 0 where
  pub progress : Progress file_kind.CalendarDates bytes (dates_broken (date_columns (header_of bytes)) (rows_of bytes)) file
  pub kept : IsServiceTable table
  pub same : table.names ≡ names_in table.services.items
  pub few : length table.services.items ≤ length start + file.number
  pub seen : table.seen ≡ keys_in (date_columns (header_of bytes)) (take file.number (rows_of bytes))
  pub services : table.services.items ≡ dated (date_columns (header_of bytes)) (take file.number (rows_of bytes)) start

pub begun : (bytes : List ℕ) (file : FileRows) (table : ServiceTable) → IsReading file
    → (file.file ≡ file_kind.CalendarDates) × (file.bytes.now ≡ bytes) × (file.number ≡ 0) → IsServiceTable table → table.names ≡ names_in table.services.items → table.seen ≡ []
    → DatesProgress bytes table.services.items file table
begun bytes file table reads starts kept same unseen = record {
  progress = progress.begun file_kind.CalendarDates bytes _ file reads starts;
  kept = kept;
  same = same;
  few = omega arith;
  seen = rw starts.2 unseen;
  services = rw starts.2 (dated-none (date_columns (header_of bytes)) table.services.items);
}

-- the rule that the next row breaks is that of its fields
pub next : (bytes : List ℕ) (start : List Service) (old new : FileRows) (table : ServiceTable) (c : DateColumns) (row : List (List ℕ)) (o : Option Cause)
    → DatesProgress bytes start old table → ReadsRow old new → c ≡ date_columns (header_of bytes) → fields_of new.row ≡ row
    → exception_broken c table.seen row ≡ o → dates_broken (date_columns (header_of bytes)) (rows_of bytes) old.number ≡ o
next bytes start old new table c row o p r columns fields e =
    let here : row ≡ row_at (rows_of bytes) old.number = sym fields ∙ progress.row_is file_kind.CalendarDates bytes _ old new p.progress r in
    rw (columns, p.seen, here) at e

pub more : (bytes : List ℕ) (start : List Service) (old new : FileRows) (table grown : ServiceTable) (c : DateColumns) (row : List (List ℕ))
    → DatesProgress bytes start old table → ReadsRow old new → c ≡ date_columns (header_of bytes) → fields_of new.row ≡ row
    → exception_broken c table.seen row ≡ None → IsServiceTable grown → grown.names ≡ names_in grown.services.items → length grown.services.items ≤ length table.services.items + 1
    → grown.seen ≡ table.seen ++ exception_key c row ∷ [] → grown.services.items ≡ with_row c row table.services.items → DatesProgress bytes start new grown
more bytes start old new table grown c row p r columns fields holds kept same few seen services =
    let here : row ≡ row_at (rows_of bytes) old.number = sym fields ∙ progress.row_is file_kind.CalendarDates bytes _ old new p.progress r in
    let lt : old.number < length (rows_of bytes) = progress.inside file_kind.CalendarDates bytes _ old new p.progress r in
    let up : take new.number (rows_of bytes) ≡ take old.number (rows_of bytes) ++ row_at (rows_of bytes) old.number ∷ [] =
    ap (λ (n : ℕ). take n (rows_of bytes)) r.number ∙ take_more (rows_of bytes) old.number [] lt in
    record {
      progress = progress.more file_kind.CalendarDates bytes _ old new p.progress r (next bytes start old new table c row None p r columns fields holds);
      kept = kept;
      same = same;
      few = omega (arith, few, p.few, r.number);
      seen = rw (up, map_push (exception_key (date_columns (header_of bytes))) (take old.number (rows_of bytes)) (row_at (rows_of bytes) old.number))
          (rw (columns, here, p.seen) at seen);
      services = rw (up, dated-push (date_columns (header_of bytes)) (take old.number (rows_of bytes)) (row_at (rows_of bytes) old.number) start)
          (rw (columns, here, p.services) at services);
    }

-- all rows are read
pub all : (bytes : List ℕ) (start : List Service) (file : FileRows) (table : ServiceTable) → DatesProgress bytes start file table → length (rows_of file.bytes.now) ≡ file.number
    → table.services.items ≡ dated_services bytes start
unfolding dated_services
all bytes start file table p end =
    let n = progress.all_read file_kind.CalendarDates bytes _ file p.progress end in
    let whole : take file.number (rows_of bytes) ≡ rows_of bytes = take_all file.number (rows_of bytes) (omega arith) in
    rw whole at p.services

-- a row was not taken
pub row_refused : (bytes : List ℕ) (start : List Service) (old new : FileRows) (table : ServiceTable) (c : DateColumns) (row : List (List ℕ)) (row_stop : RowStop) (stop : Stopped)
    → DatesProgress bytes start old table → first_cause date_column_rules (date_columns (header_of bytes)) ≡ None → ReadsRow old new → c ≡ date_columns (header_of bytes)
    → fields_of new.row ≡ row → Breaks (exception_broken c table.seen row) row_stop → Refuses stop (IsRowStop new.file (length (rows_of new.bytes.now)) new.number row_stop)
    → RefusesTable file_kind.CalendarDates (first_cause date_column_rules (date_columns (header_of bytes))) (rows_of bytes) (dates_broken (date_columns (header_of bytes)) (rows_of bytes)) stop
row_refused bytes start old new table c row row_stop stop p there r columns fields breaks h =
    progress.row file_kind.CalendarDates _ bytes _ old new row_stop stop p.progress there r (rw (next bytes start old new table c row _ p r columns fields refl) breaks) h
