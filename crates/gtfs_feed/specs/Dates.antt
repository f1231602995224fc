-- The rules of calendar_dates.txt, and what its rows add to services (GTFS Schedule Reference, calendar_dates.txt).
--     date_columns header                   the places of its columns
--     date_rules c                          the rules of a row by itself, in their order
--     exception_key c row                   the text that tells the service and the date of a row
--     exception_broken c earlier row        the first rule that a row breaks behind rows with these texts
--     with_row c row services               the services with the exception of a row
--     dated c rows services                 the services with the exceptions of rows
--     DatesAccepted, IsDatesRefusal         no rule is broken; the first that is
use Rattle.std.specs.Prelude.{ℕ, ◌==◌, Bool, false, List, [], ◌∷◌, ◌++◌, length, take, map, codes, slice_index_or, slice_set, Option, is_some, unwrap_or, if◌then◌else◌}
use Rattle.refusals.specs.Refusal.{first_cause, or_then}
use Rattle.move_model.specs.declared.refusal.Cause.{Cause}
use Rattle.tables.specs.Names.{place_of}
use Rattle.tables.specs.Table.{header_of, rows_of, row_at, column_of, cell, missing_broken}
use Rattle.tables.specs.Values.{id_broken, number_in, number_broken}
use Rattle.gtfs_feed.specs.declared.feed.Service.{Service}
use Rattle.gtfs_feed.specs.declared.services.DateColumns.{DateColumns}
use Rattle.gtfs_feed.specs.Calendar.{date_in, date_broken}
use Rattle.gtfs_feed.specs.Ids.{repeated_broken}
use Rattle.gtfs_feed.specs.Table.{IsAccepted, IsTableRefusal}

unfoldable pub date_columns : List (List ℕ) → DateColumns
date_columns header = record {
  id = column_of (codes "service_id") header;
  date = column_of (codes "date") header;
  kind = column_of (codes "exception_type") header;
}

abbrev pub date_column_rules : List (DateColumns → Option Cause)
date_column_rules = (λ c. missing_broken 0 c.id) ∷ (λ c. missing_broken 1 c.date) ∷ (λ c. missing_broken 2 c.kind) ∷ []

unfoldable pub date_rules : DateColumns → List (List (List ℕ) → Option Cause)
date_rules c =
    (λ row. id_broken (cell c.id row))
    ∷ (λ row. date_broken (cell c.date row))
    ∷ (λ row. number_broken 1 2 (cell c.kind row))
    ∷ []

-- the date and then the id: since a date has eight digits, rows have one text exactly where they have one service and one date
abbrev pub exception_key : DateColumns → List (List ℕ) → List ℕ
exception_key c row = cell c.date row ++ cell c.id row

abbrev pub keys_in : DateColumns → List (List (List ℕ)) → List (List ℕ)
keys_in c rows = map (λ row. cell c.date row ++ cell c.id row) rows

-- the same service and date were in no earlier row
abbrev pub exception_broken : DateColumns → List (List ℕ) → List (List ℕ) → Option Cause
exception_broken c earlier row = or_then (first_cause (date_rules c) row) (repeated_broken earlier (exception_key c row))

-- a service that runs on no weekday
abbrev pub bare_service : List ℕ → Service
bare_service id = record {
  name = id;
  days = false ∷ false ∷ false ∷ false ∷ false ∷ false ∷ false ∷ [];
  first = 0;
  last = 0;
  added = [];
  removed = [];
}

abbrev pub names_in : List Service → List (List ℕ)
names_in services = map (λ service. service.name) services

-- the services with one of this id, which is put last where it is new
unfoldable pub with_service : List ℕ → List Service → List Service
with_service id services = if is_some (place_of id (names_in services)) then services else services ++ bare_service id ∷ []

-- the place of the service with this id
unfoldable pub place_in : List ℕ → List Service → ℕ
place_in id services = unwrap_or (place_of id (names_in services)) (length services)

-- a date more that is added to a service, or removed from it
abbrev pub noted : Bool → ℕ → Service → Service
noted adds date service = record {
  name = service.name;
  days = service.days;
  first = service.first;
  last = service.last;
  added = if adds then service.added ++ date ∷ [] else service.added;
  removed = if adds then service.removed else service.removed ++ date ∷ [];
}

abbrev pub noted_at : ℕ → Bool → ℕ → List Service → List Service
noted_at place adds date services = slice_set services place (noted adds date (slice_index_or services place (bare_service [])))

-- exception_type 1 adds the date, and 2 removes it
unfoldable pub with_row : DateColumns → List (List ℕ) → List Service → List Service
with_row c row services =
    noted_at (place_in (cell c.id row) services) (number_in (cell c.kind row) == 1) (date_in (cell c.date row)) (with_service (cell c.id row) services)

unfoldable pub dated : DateColumns → List (List (List ℕ)) → List Service → List Service
dated c [] services = services
dated c (row ∷ rows) services = dated c rows (with_row c row services)

unfoldable pub dated_services : List ℕ → List Service → List Service
dated_services bytes services = dated (date_columns (header_of bytes)) (rows_of bytes) services

-- the first rule that the i-th row breaks
abbrev pub dates_broken : DateColumns → List (List (List ℕ)) → ℕ → Option Cause
dates_broken c rows i = exception_broken c (keys_in c (take i rows)) (row_at rows i)

abbrev pub DatesAccepted : List ℕ → Type 0
DatesAccepted bytes =
    IsAccepted (first_cause date_column_rules (date_columns (header_of bytes))) (rows_of bytes) (dates_broken (date_columns (header_of bytes)) (rows_of bytes))

abbrev pub IsDatesRefusal : List ℕ → ℕ → Cause → Type 0
IsDatesRefusal bytes row because =
    IsTableRefusal (first_cause date_column_rules (date_columns (header_of bytes))) (rows_of bytes) (dates_broken (date_columns (header_of bytes)) (rows_of bytes)) row because
