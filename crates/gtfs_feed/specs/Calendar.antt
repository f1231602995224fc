-- The rules of calendar.txt, and its services (GTFS Schedule Reference, calendar.txt).
--     calendar_columns header               the places of its columns
--     calendar_rules c earlier              the rules of a row behind rows with these ids, in their order
--     date_in text, date_broken text        the number YYYYMMDD that a date is, or 0; the rule that a text is a date (Date)
--     week_service c row                    the service of a row, with no exceptions yet
--     calendar_ids bytes, week_services bytes      the ids and the services of all rows
--     CalendarAccepted, IsCalendarRefusal   no rule is broken; the first that is
use Rattle.std.specs.Prelude.{ℕ, ◌==◌, Bool, List, [], ◌∷◌, take, map, codes, Option, Some, None, is_some, unwrap_or, if◌then◌else◌}
use Rattle.refusals.specs.Refusal.{first_cause}
use Rattle.move_model.specs.declared.refusal.Cause.{Cause}
use Rattle.move_model.specs.declared.refusal.Cause.TheVariants as cause
use Rattle.feed_values.specs.Date.{date_of}
use Rattle.tables.specs.Table.{header_of, rows_of, row_at, column_of, cell, missing_broken}
use Rattle.tables.specs.Values.{id_broken, number_in, number_broken}
use Rattle.gtfs_feed.specs.declared.feed.Service.{Service}
use Rattle.gtfs_feed.specs.declared.services.CalendarColumns.{CalendarColumns}
use Rattle.gtfs_feed.specs.Ids.{repeated_broken}
use Rattle.gtfs_feed.specs.Table.{IsAccepted, IsTableRefusal}

unfoldable pub calendar_columns : List (List ℕ) → CalendarColumns
calendar_columns header = record {
  id = column_of (codes "service_id") header;
  monday = column_of (codes "monday") header;
  tuesday = column_of (codes "tuesday") header;
  wednesday = column_of (codes "wednesday") header;
  thursday = column_of (codes "thursday") header;
  friday = column_of (codes "friday") header;
  saturday = column_of (codes "saturday") header;
  sunday = column_of (codes "sunday") header;
  start = column_of (codes "start_date") header;
  end = column_of (codes "end_date") header;
}

abbrev pub calendar_column_rules : List (CalendarColumns → Option Cause)
calendar_column_rules =
    (λ c. missing_broken 0 c.id)
    ∷ (λ c. missing_broken 1 c.monday)
    ∷ (λ c. missing_broken 2 c.tuesday)
    ∷ (λ c. missing_broken 3 c.wednesday)
    ∷ (λ c. missing_broken 4 c.thursday)
    ∷ (λ c. missing_broken 5 c.friday)
    ∷ (λ c. missing_broken 6 c.saturday)
    ∷ (λ c. missing_broken 7 c.sunday)
    ∷ (λ c. missing_broken 8 c.start)
    ∷ (λ c. missing_broken 9 c.end)
    ∷ []

abbrev pub date_in : List ℕ → ℕ
date_in text = unwrap_or (date_of text) 0

unfoldable pub date_broken : List ℕ → Option Cause
date_broken text = if is_some (date_of text) then None else Some cause.Date

-- each weekday is 0 or 1
unfoldable pub day_rules : CalendarColumns → List (List (List ℕ) → Option Cause)
day_rules c =
    (λ row. number_broken 0 1 (cell c.monday row))
    ∷ (λ row. number_broken 0 1 (cell c.tuesday row))
    ∷ (λ row. number_broken 0 1 (cell c.wednesday row))
    ∷ (λ row. number_broken 0 1 (cell c.thursday row))
    ∷ (λ row. number_broken 0 1 (cell c.friday row))
    ∷ (λ row. number_broken 0 1 (cell c.saturday row))
    ∷ (λ row. number_broken 0 1 (cell c.sunday row))
    ∷ []

unfoldable pub calendar_rules : CalendarColumns → List (List ℕ) → List (List (List ℕ) → Option Cause)
calendar_rules c earlier =
    (λ row. id_broken (cell c.id row))
    ∷ (λ row. repeated_broken earlier (cell c.id row))
    ∷ (λ row. first_cause (day_rules c) row)
    ∷ (λ row. date_broken (cell c.start row))
    ∷ (λ row. date_broken (cell c.end row))
    ∷ []

abbrev pub ids_in : CalendarColumns → List (List (List ℕ)) → List (List ℕ)
ids_in c rows = map (λ row. cell c.id row) rows

-- the first rule that the i-th row breaks
abbrev pub calendar_broken : CalendarColumns → List (List (List ℕ)) → ℕ → Option Cause
calendar_broken c rows i = first_cause (calendar_rules c (ids_in c (take i rows))) (row_at rows i)

abbrev pub runs : List ℕ → Bool
runs text = number_in text == 1

-- the weekdays from Monday on which a service runs
unfoldable pub days_of : CalendarColumns → List (List ℕ) → List Bool
days_of c row =
    runs (cell c.monday row)
    ∷ runs (cell c.tuesday row)
    ∷ runs (cell c.wednesday row)
    ∷ runs (cell c.thursday row)
    ∷ runs (cell c.friday row)
    ∷ runs (cell c.saturday row)
    ∷ runs (cell c.sunday row)
    ∷ []

abbrev pub week_service : CalendarColumns → List (List ℕ) → Service
week_service c row = record {
  name = cell c.id row;
  days = days_of c row;
  first = date_in (cell c.start row);
  last = date_in (cell c.end row);
  added = [];
  removed = [];
}

unfoldable pub calendar_ids : List ℕ → List (List ℕ)
calendar_ids bytes = ids_in (calendar_columns (header_of bytes)) (rows_of bytes)

unfoldable pub week_services : List ℕ → List Service
week_services bytes = map (week_service (calendar_columns (header_of bytes))) (rows_of bytes)

abbrev pub CalendarAccepted : List ℕ → Type 0
CalendarAccepted bytes =
    IsAccepted (first_cause calendar_column_rules (calendar_columns (header_of bytes))) (rows_of bytes) (calendar_broken (calendar_columns (header_of bytes)) (rows_of bytes))

abbrev pub IsCalendarRefusal : List ℕ → ℕ → Cause → Type 0
IsCalendarRefusal bytes row because =
    IsTableRefusal (first_cause calendar_column_rules (calendar_columns (header_of bytes))) (rows_of bytes) (calendar_broken (calendar_columns (header_of bytes)) (rows_of bytes)) row because
