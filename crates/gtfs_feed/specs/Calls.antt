-- The rules of stop_times.txt by row, and the calls of each trip (GTFS Schedule Reference, stop_times.txt).
--     call_columns header                   the places of its columns
--     stop_number stops id                  the number of the stop or platform with this id
--     call_rules c stops trips              the rules of a row, in their order, for these stops and for trips with these ids
--     kept_call c stops number row          the call of a row that has a stop
--     trip_calls stops trips bytes k        the calls of the k-th trip, in the order of the file
--     CallsAccepted, IsCallsRefusal         no rule is broken by a row; the first that is
use Rattle.std.specs.Prelude.{ℕ, ◌+◌, ◌==◌, ◌||◌, ◌&&◌, not, Bool, false, List, [], ◌∷◌, codes, slice_get, Option, Some, None, is_some, unwrap_or, option_and_then, if◌then◌else◌}
use Rattle.refusals.specs.Refusal.{first_cause, or_then}
use Rattle.move_model.specs.declared.refusal.Cause.{Cause}
use Rattle.move_model.specs.declared.refusal.Cause.TheVariants as cause
use Rattle.move_model.specs.Time.{time_of}
use Rattle.tables.specs.Names.{place_of}
use Rattle.tables.specs.Table.{header_of, rows_of, row_at, column_of, cell, missing_broken}
use Rattle.tables.specs.Values.{number_in, number_broken, time_broken}
use Rattle.trip_calls.specs.declared.kept.KeptCall.{KeptCall}
use Rattle.trip_calls.specs.declared.kept.Times.{Times}
use Rattle.gtfs_feed.specs.declared.calls.CallColumns.{CallColumns}
use Rattle.gtfs_feed.specs.Ids.{is_empty}
use Rattle.gtfs_feed.specs.Known.{known_broken}
use Rattle.gtfs_feed.specs.Table.{IsAccepted, IsTableRefusal}

unfoldable pub call_columns : List (List ℕ) → CallColumns
call_columns header = record {
  trip = column_of (codes "trip_id") header;
  stop = column_of (codes "stop_id") header;
  sequence = column_of (codes "stop_sequence") header;
  arrival = column_of (codes "arrival_time") header;
  departure = column_of (codes "departure_time") header;
  pickup = column_of (codes "pickup_type") header;
  drop_off = column_of (codes "drop_off_type") header;
}

abbrev pub call_column_rules : List (CallColumns → Option Cause)
call_column_rules = (λ c. missing_broken 0 c.trip) ∷ (λ c. missing_broken 1 c.stop) ∷ (λ c. missing_broken 2 c.sequence) ∷ []

-- the rows of stops.txt: their ids, and the number of each that is a stop or platform
pub record StopRows : Type 0 where
  pub ids : List (List ℕ)
  pub numbers : List (Option ℕ)

abbrev pub same : Option ℕ → Option ℕ
same o = o

unfoldable pub stop_number : StopRows → List ℕ → Option ℕ
stop_number stops id = option_and_then (λ place. option_and_then same (slice_get stops.numbers place)) (place_of id stops.ids)

unfoldable pub not_a_stop_broken : StopRows → List ℕ → Option Cause
not_a_stop_broken stops id = if is_some (stop_number stops id) then None else Some cause.NotAStop

-- stop_id is an id, stands in stops.txt, and is that of a stop or platform
unfoldable pub stop_broken : StopRows → List ℕ → Option Cause
stop_broken stops id = or_then (known_broken cause.UnknownStop stops.ids id) (not_a_stop_broken stops id)

-- a time that is not empty is one
unfoldable pub optional_time_broken : List ℕ → Option Cause
optional_time_broken text = if is_empty text then None else time_broken text

unfoldable pub optional_time : List ℕ → Option ℕ
optional_time text = if is_empty text then None else time_of text

-- one given time of a pair stands for both
abbrev pub times_of : Option ℕ → Option ℕ → Option Times
times_of None None = None
times_of None (Some departs) = Some (record { arr = departs; dep = departs })
times_of (Some arrives) None = Some (record { arr = arrives; dep = arrives })
times_of (Some arrives) (Some departs) = Some (record { arr = arrives; dep = departs })

-- pickup_type and drop_off_type are empty or 0 to 3
unfoldable pub type_broken : List ℕ → Option Cause
type_broken text = if is_empty text then None else number_broken 0 3 text

-- passengers may board, or alight, where the type is not 1
unfoldable pub is_allowed : List ℕ → Bool
is_allowed text = is_empty text || not (number_in text == 1)

-- the rules of a row that has a stop
unfoldable pub kept_rules : CallColumns → StopRows → List (List (List ℕ) → Option Cause)
kept_rules c stops =
    (λ row. stop_broken stops (cell c.stop row))
    ∷ (λ row. optional_time_broken (cell c.arrival row))
    ∷ (λ row. optional_time_broken (cell c.departure row))
    ∷ (λ row. type_broken (cell c.pickup row))
    ∷ (λ row. type_broken (cell c.drop_off row))
    ∷ []

-- no further rule applies to a row without a stop
unfoldable pub kept_broken : CallColumns → StopRows → List (List ℕ) → Option Cause
kept_broken c stops row = if is_empty (cell c.stop row) then None else first_cause (kept_rules c stops) row

unfoldable pub call_rules : CallColumns → StopRows → List (List ℕ) → List (List (List ℕ) → Option Cause)
call_rules c stops trips =
    (λ row. known_broken cause.UnknownTrip trips (cell c.trip row))
    ∷ (λ row. number_broken 0 4294967295 (cell c.sequence row))
    ∷ (λ row. kept_broken c stops row)
    ∷ []

-- the first rule that the i-th row breaks
abbrev pub call_broken : CallColumns → StopRows → List (List ℕ) → List (List (List ℕ)) → ℕ → Option Cause
call_broken c stops trips rows i = first_cause (call_rules c stops trips) (row_at rows i)

-- the call of a row that has a stop, with this stop sequence
abbrev pub call_with : CallColumns → StopRows → ℕ → ℕ → List (List ℕ) → KeptCall
call_with c stops sequence number row = record {
  sequence = sequence;
  row = number;
  stop = record { 0 = unwrap_or (stop_number stops (cell c.stop row)) 0 };
  times = times_of (optional_time (cell c.arrival row)) (optional_time (cell c.departure row));
  board = is_allowed (cell c.pickup row);
  alight = is_allowed (cell c.drop_off row);
}

abbrev pub kept_call : CallColumns → StopRows → ℕ → List (List ℕ) → KeptCall
kept_call c stops number row = call_with c stops (number_in (cell c.sequence row)) number row

-- the call of a row, where it has a stop
abbrev pub call_found : CallColumns → StopRows → ℕ → ℕ → List (List ℕ) → Option KeptCall
call_found c stops sequence number row = if is_empty (cell c.stop row) then None else Some (call_with c stops sequence number row)

abbrev pub is_place : ℕ → Option ℕ → Bool
is_place k None = false
is_place k (Some place) = place == k

-- the row has a stop, and is of the k-th trip
unfoldable pub is_call_of : CallColumns → List (List ℕ) → ℕ → List (List ℕ) → Bool
is_call_of c trips k row = not (is_empty (cell c.stop row)) && is_place k (place_of (cell c.trip row) trips)

-- the call of a row as one of the k-th trip's, where it is that
abbrev pub calls_of_row : CallColumns → StopRows → List (List ℕ) → ℕ → ℕ → List (List ℕ) → List KeptCall
calls_of_row c stops trips k number row = if is_call_of c trips k row then kept_call c stops number row ∷ [] else []

-- the calls of the k-th trip, in rows behind so many rows
unfoldable pub calls_behind : CallColumns → StopRows → List (List ℕ) → ℕ → ℕ → List (List (List ℕ)) → List KeptCall
calls_behind c stops trips k n [] = []
calls_behind c stops trips k n (row ∷ rows) =
    if is_call_of c trips k row then kept_call c stops (n + 1) row ∷ calls_behind c stops trips k (n + 1) rows else calls_behind c stops trips k (n + 1) rows

unfoldable pub trip_calls : StopRows → List (List ℕ) → List ℕ → ℕ → List KeptCall
trip_calls stops trips bytes k = calls_behind (call_columns (header_of bytes)) stops trips k 0 (rows_of bytes)

abbrev pub CallsAccepted : StopRows → List (List ℕ) → List ℕ → Type 0
CallsAccepted stops trips bytes =
    IsAccepted (first_cause call_column_rules (call_columns (header_of bytes))) (rows_of bytes) (call_broken (call_columns (header_of bytes)) stops trips (rows_of bytes))

abbrev pub IsCallsRefusal : StopRows → List (List ℕ) → List ℕ → ℕ → Cause → Type 0
IsCallsRefusal stops trips bytes row because =
    IsTableRefusal (first_cause call_column_rules (call_columns (header_of bytes))) (rows_of bytes) (call_broken (call_columns (header_of bytes)) stops trips (rows_of bytes)) row because
