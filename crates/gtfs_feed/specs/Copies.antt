-- The rules of frequencies.txt, and its rows (GTFS Schedule Reference, frequencies.txt).
--     copy_columns header               the places of its columns
--     copy_rules c trips                the rules of a row by itself, in their order, for trips with these ids
--     copy_of c trips row               the row
--     copy_broken c ids trips row       the first rule that a row breaks; the last is that its latest copy ends by 999:59:59 (CopyLate)
--     copies_in ids file                the rows of the file
--     CopiesAccepted, IsCopiesRefusal   no rule is broken; the first that is
use Rattle.std.specs.Prelude.{ℕ, List, [], ◌∷◌, map, codes, slice_get, nat_le, Option, Some, None, unwrap_or, if◌then◌else◌}
use Rattle.std.specs.Borrow.{Bor}
use Rattle.refusals.specs.Refusal.{first_cause, or_then}
use Rattle.move_model.specs.declared.network.Call.{Call}
use Rattle.move_model.specs.declared.refusal.Cause.{Cause}
use Rattle.move_model.specs.declared.refusal.Cause.TheVariants as cause
use Rattle.tables.specs.Names.{place_of}
use Rattle.tables.specs.Table.{header_of, rows_of, row_at, column_of, cell, missing_broken}
use Rattle.tables.specs.Values.{number_in, number_broken, time_in, time_broken}
use Rattle.gtfs_feed.specs.declared.copies.CopyColumns.{CopyColumns}
use Rattle.gtfs_feed.specs.declared.feed.CopyRow.{CopyRow}
use Rattle.gtfs_feed.specs.declared.feed.FeedTrip.{FeedTrip}
use Rattle.gtfs_feed.specs.Frequencies.{last_copy_second}
use Rattle.gtfs_feed.specs.Known.{known_broken}
use Rattle.gtfs_feed.specs.Table.{IsAccepted, IsTableRefusal}

unfoldable pub copy_columns : List (List ℕ) → CopyColumns
copy_columns header = record {
  trip = column_of (codes "trip_id") header;
  start = column_of (codes "start_time") header;
  end = column_of (codes "end_time") header;
  headway = column_of (codes "headway_secs") header;
}

abbrev pub copy_column_rules : List (CopyColumns → Option Cause)
copy_column_rules =
    (λ c. missing_broken 0 c.trip) ∷ (λ c. missing_broken 1 c.start) ∷ (λ c. missing_broken 2 c.end) ∷ (λ c. missing_broken 3 c.headway) ∷ []

unfoldable pub copy_rules : CopyColumns → List (List ℕ) → List (List (List ℕ) → Option Cause)
copy_rules c trips =
    (λ row. known_broken cause.UnknownTrip trips (cell c.trip row))
    ∷ (λ row. time_broken (cell c.start row))
    ∷ (λ row. time_broken (cell c.end row))
    ∷ (λ row. number_broken 1 4294967295 (cell c.headway row))
    ∷ []

abbrev pub copy_of : CopyColumns → List (List ℕ) → List (List ℕ) → CopyRow
copy_of c trips row = record {
  trip = unwrap_or (place_of (cell c.trip row) trips) 0;
  start = time_in (cell c.start row);
  end = time_in (cell c.end row);
  headway = number_in (cell c.headway row);
}

abbrev pub calls_in : Option FeedTrip → List Call
calls_in None = []
calls_in (Some trip) = trip.calls

-- the last second of the latest copy, where there is one, is a second of a time
unfoldable pub late_broken : Option ℕ → Option Cause
late_broken None = None
late_broken (Some second) = if nat_le second 3599999 then None else Some (cause.CopyLate second)

abbrev pub copy_broken : CopyColumns → List (List ℕ) → List FeedTrip → List (List ℕ) → Option Cause
copy_broken c ids trips row =
    or_then (first_cause (copy_rules c ids) row) (late_broken (last_copy_second (copy_of c ids row) (calls_in (slice_get trips (copy_of c ids row).trip))))

unfoldable pub copies_of : List (List ℕ) → List ℕ → List CopyRow
copies_of ids bytes = map (copy_of (copy_columns (header_of bytes)) ids) (rows_of bytes)

-- none where the file is missing
abbrev pub copies_in : List (List ℕ) → Option (Bor (List ℕ)) → List CopyRow
copies_in ids None = []
copies_in ids (Some bytes) = copies_of ids bytes.now

abbrev pub CopiesAccepted : List (List ℕ) → List FeedTrip → List ℕ → Type 0
CopiesAccepted ids trips bytes =
    IsAccepted (first_cause copy_column_rules (copy_columns (header_of bytes))) (rows_of bytes) (λ i. copy_broken (copy_columns (header_of bytes)) ids trips (row_at (rows_of bytes) i))

abbrev pub IsCopiesRefusal : List (List ℕ) → List FeedTrip → List ℕ → ℕ → Cause → Type 0
IsCopiesRefusal ids trips bytes row because =
    IsTableRefusal (first_cause copy_column_rules (copy_columns (header_of bytes))) (rows_of bytes)
    (λ i. copy_broken (copy_columns (header_of bytes)) ids trips (row_at (rows_of bytes) i)) row because
