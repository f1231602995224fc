-- A row more of stops.txt.
use Rattle.std.proofs.Common.{◌≡◌, ◌∙◌, ℕ, ◌+◌, ◌<◌, ◌≤◌, List, [], ◌∷◌, ◌++◌, length, take, Option, Some, None, Bool, true, false, suc, refl, sym, ap, inl, inr, arith}
use Rattle.std.specs.Prelude.{if◌then◌else◌, Result, Ok, Err, OnOk, IfOk, IfErr}
use Rattle.std.proofs.lemmas.List.{take_more, take_all, map_push, length-append, length-take-le}
use Rattle.csv.specs.Records.{fields_of}
use Rattle.move_model.specs.declared.refusal.Cause.{Cause}
use Rattle.move_model.specs.declared.refusal.FileKind.TheVariants as file_kind
use Rattle.move_model.specs.declared.refusal.Stopped.{Stopped}
use Rattle.refusals.specs.Refusal.{first_cause}
use Rattle.tables.specs.Names.{place_of}
use Rattle.tables.specs.Table.{header_of, rows_of, row_at, cell}
use Rattle.gtfs_feed.specs.declared.file_rows.FileRows.{FileRows}
use Rattle.gtfs_feed.specs.declared.refuse.RowStop.{RowStop}
use Rattle.gtfs_feed.specs.declared.stops.StopColumns.{StopColumns}
use Rattle.gtfs_feed.specs.declared.stops.StopTable.{StopTable}
use Rattle.gtfs_feed.specs.Feed.{IsId}
use Rattle.gtfs_feed.specs.Kept.{IsStopTable}
use Rattle.gtfs_feed.specs.Reading.{IsReading, ReadsRow}
use Rattle.gtfs_feed.specs.Stops.{stop_columns, stop_column_rules, stop_rules, stop_broken, is_stop, stop_of, stops_behind, numbers_behind, feed_stops, stops_broken, StopRowsAccepted, StopsAccepted, IsStopsRefusal}
use Rattle.gtfs_feed.specs.StopTables.{AddsStopRow, IsStopTableOf}
use Rattle.gtfs_feed.specs.Table.{IsTableRefusal, Refuses, RefusesTable}
use Rattle.gtfs_feed.specs.RowStops.{Breaks, IsRowStop}
use Rattle.gtfs_feed.proofs.IdLemmas.{new-id}
use Rattle.gtfs_feed.proofs.RefuseLemmas.{weaker}
use Rattle.gtfs_feed.proofs.Progress as progress
use Rattle.gtfs_feed.proofs.Progress.{Progress}

pub once : (c : StopColumns) (names row : List (List ℕ)) → first_cause (stop_rules c names) row ≡ None → IsId (cell c.id row) × (place_of (cell c.id row) names ≡ None)
unfolding stop_rules
once c names row e = new-id names (cell c.id row) _ e

pick-append : {X : Type 0} (b : Bool) (x : X) (xs ys zs : List X) → xs ≡ ys ++ zs → (if b then x ∷ xs else xs) ≡ (if b then x ∷ ys else ys) ++ zs
pick-append true x xs ys zs e = ap (λ rest. x ∷ rest) e
pick-append false x xs ys zs e = e

pub stops-push : (c : StopColumns) (rows : List (List (List ℕ))) (n : ℕ) (row : List (List ℕ))
    → stops_behind c n (rows ++ row ∷ []) ≡ stops_behind c n rows ++ (if is_stop (cell c.kind row) then stop_of c (n + length rows + 1) row ∷ [] else [])
unfolding stops_behind
stops-push c [] n row = let z : n + 0 + 1 ≡ n + 1 = omega arith in rw z refl
stops-push c (first ∷ rows) n row =
    let up : n + suc (length rows) + 1 ≡ n + 1 + length rows + 1 = omega arith in
    rw up (pick-append (is_stop (cell c.kind first)) (stop_of c (n + 1) first) _ (stops_behind c (n + 1) rows) _ (stops-push c rows (n + 1) row))

length-pick : {X : Type 0} (b : Bool) (x : X) (xs : List X) → length (if b then x ∷ xs else xs) ≡ (if b then suc (length xs) else length xs)
length-pick true x xs = refl
length-pick false x xs = refl

one-of : {X : Type 0} (b : Bool) (x y : X) (xs : List X) → (if b then x ∷ xs else y ∷ xs) ≡ (if b then x else y) ∷ xs
one-of true x y xs = refl
one-of false x y xs = refl

pub numbers-push : (c : StopColumns) (rows : List (List (List ℕ))) (n m : ℕ) (row : List (List ℕ))
    → numbers_behind c n (rows ++ row ∷ []) ≡ numbers_behind c n rows ++ (if is_stop (cell c.kind row) then Some (n + length (stops_behind c m rows)) else None) ∷ []
unfolding numbers_behind stops_behind
numbers-push c [] n m row = let z : n + 0 ≡ n = omega arith in rw z (one-of (is_stop (cell c.kind row)) (Some n) None [])
numbers-push c (first ∷ rows) n m row =
    elim (is_stop (cell c.kind first)) as (λ b.
    (if b then Some n ∷ numbers_behind c (n + 1) (rows ++ row ∷ []) else None ∷ numbers_behind c n (rows ++ row ∷ []))
    ≡ (if b then Some n ∷ numbers_behind c (n + 1) rows else None ∷ numbers_behind c n rows)
    ++ (if is_stop (cell c.kind row) then Some (n + length (if b then stop_of c (m + 1) first ∷ stops_behind c (m + 1) rows else stops_behind c (m + 1) rows)) else None) ∷ []) [
      | true ↦ let up : n + suc (length (stops_behind c (m + 1) rows)) ≡ n + 1 + length (stops_behind c (m + 1) rows) = omega arith in
          rw up (ap (λ (rest : List (Option ℕ)). Some n ∷ rest) (numbers-push c rows (n + 1) (m + 1) row))
      | false ↦ ap (λ (rest : List (Option ℕ)). None ∷ rest) (numbers-push c rows n (m + 1) row)
    ]

-- the table of one row more
pub table-more : (c : StopColumns) (rows : List (List (List ℕ))) (n number : ℕ) (old new : StopTable) → n < length rows → number ≡ n + 1
    → AddsStopRow old new c (row_at rows n) number → IsStopTableOf c (take n rows) old → IsStopTableOf c (take (n + 1) rows) new
table-more c rows n number old new lt is adds so_far =
    let more = take_more rows n [] lt in
    let long : length (take n rows) ≡ n = length-take-le n rows (omega arith) in
    let first : 0 + n + 1 ≡ n + 1 = omega arith in
    let count : 0 + length (stops_behind c 0 (take n rows)) ≡ length (stops_behind c 0 (take n rows)) = omega arith in
    record {
      names = rw (more, adds.names, so_far.names) (sym (map_push (λ (row : List (List ℕ)). cell c.id row) (take n rows) (row_at rows n)));
      numbers = rw (more, adds.numbers, so_far.numbers, so_far.stops) (sym (rw count at (numbers-push c (take n rows) 0 0 (row_at rows n))));
      stops = rw (more, adds.stops, so_far.stops, is) (sym (rw (long, first) at (stops-push c (take n rows) 0 (row_at rows n))));
    }

table-none : (c : StopColumns) (table : StopTable) → table.names ≡ [] → table.numbers ≡ [] → table.stops ≡ [] → IsStopTableOf c [] table
unfolding stops_behind numbers_behind
table-none c table names numbers stops = record { names = names; numbers = numbers; stops = stops }

stops-grow : {X : Type 0} (b : Bool) (xs : List X) (x : X) (n : ℕ) → length xs ≤ n → length (xs ++ (if b then x ∷ [] else [])) ≤ n + 1
stops-grow true xs x n le = omega (arith, length-append xs (x ∷ []))
stops-grow false xs x n le = omega (arith, length-append xs [])

-- what is read of stops.txt so far
pub record StopsProgress (bytes : List ℕ) (file : FileRows) (table : StopTable) : Type 0 where
  pub progress : Progress file_kind.Stops bytes (stop_broken (stop_columns (header_of bytes)) (rows_of bytes)) file
  pub kept : IsStopTable table
  pub few : length table.stops ≤ file.number
  pub table_is : IsStopTableOf (stop_columns (header_of bytes)) (take file.number (rows_of bytes)) table

pub begun : (bytes : List ℕ) (file : FileRows) (table : StopTable) → IsReading file → (file.file ≡ file_kind.Stops) × (file.bytes.now ≡ bytes) × (file.number ≡ 0)
    → table.names ≡ [] → table.numbers ≡ [] → table.stops ≡ [] → StopsProgress bytes file table
begun bytes file table reads starts names numbers stops =
    let zero = starts.2 in
    let none : length table.stops ≡ 0 = rw stops refl in
    let unnumbered : length table.numbers ≡ 0 = rw numbers refl in
    record {
      progress = progress.begun file_kind.Stops bytes _ file reads starts;
      kept = record {
        stand = λ k d lt. absurd (omega arith);
        differ = λ i j d lt lt'. absurd (omega arith);
        named = λ k d lt. absurd (omega arith);
        numbered = λ k d lt. absurd (omega arith);
      };
      few = omega arith;
      table_is = rw zero (table-none (stop_columns (header_of bytes)) table names numbers stops);
    }

-- the rule that the next row breaks is that of its fields
pub next : (bytes : List ℕ) (old new : FileRows) (table : StopTable) (c : StopColumns) (row : List (List ℕ)) (o : Option Cause)
    → StopsProgress bytes old table → ReadsRow old new → c ≡ stop_columns (header_of bytes) → fields_of new.row ≡ row
    → first_cause (stop_rules c table.names) row ≡ o → stop_broken (stop_columns (header_of bytes)) (rows_of bytes) old.number ≡ o
next bytes old new table c row o p r columns fields e =
    let here : row ≡ row_at (rows_of bytes) old.number = sym fields ∙ progress.row_is file_kind.Stops bytes _ old new p.progress r in
    rw (columns, p.table_is.names, here) at e

pub more : (bytes : List ℕ) (old new : FileRows) (table grown : StopTable) (c : StopColumns) (row : List (List ℕ))
    → StopsProgress bytes old table → ReadsRow old new → c ≡ stop_columns (header_of bytes) → fields_of new.row ≡ row
    → first_cause (stop_rules c table.names) row ≡ None → IsStopTable grown → AddsStopRow table grown c row new.number
    → StopsProgress bytes new grown
more bytes old new table grown c row p r columns fields holds kept adds =
    let here : row ≡ row_at (rows_of bytes) old.number = sym fields ∙ progress.row_is file_kind.Stops bytes _ old new p.progress r in
    record {
      progress = progress.more file_kind.Stops bytes _ old new p.progress r (next bytes old new table c row None p r columns fields holds);
      kept = kept;
      few = omega (arith, ap length adds.stops, stops-grow (is_stop (cell c.kind row)) table.stops (stop_of c new.number row) old.number p.few, r.number);
      table_is = rw r.number (table-more (stop_columns (header_of bytes)) (rows_of bytes) old.number new.number table grown
          (progress.inside file_kind.Stops bytes _ old new p.progress r) r.number (rw (columns, here) at adds) p.table_is);
    }

-- all rows are read
pub all : (bytes : List ℕ) (file : FileRows) (table : StopTable) → StopsProgress bytes file table → length (rows_of file.bytes.now) ≡ file.number
    → IsStopTableOf (stop_columns (header_of bytes)) (rows_of bytes) table
all bytes file table p end =
    let n = progress.all_read file_kind.Stops bytes _ file p.progress end in
    let whole : take file.number (rows_of bytes) ≡ rows_of bytes = take_all file.number (rows_of bytes) (omega arith) in
    rw whole at p.table_is

pub stops_are : (bytes : List ℕ) (table : StopTable) → IsStopTableOf (stop_columns (header_of bytes)) (rows_of bytes) table → table.stops ≡ feed_stops bytes
unfolding feed_stops
stops_are bytes table t = t.stops

-- a refusal of the rows of stops.txt is one of stops.txt
pub of_rows : (bytes : List ℕ) (stop : Stopped)
    → RefusesTable file_kind.Stops (first_cause stop_column_rules (stop_columns (header_of bytes))) (rows_of bytes) (stop_broken (stop_columns (header_of bytes)) (rows_of bytes)) stop
    → Refuses stop (λ file row because. (file ≡ file_kind.Stops) × IsStopsRefusal bytes row because)
of_rows bytes stop h =
    weaker stop (λ file row because. (file ≡ file_kind.Stops)
    × IsTableRefusal (first_cause stop_column_rules (stop_columns (header_of bytes))) (rows_of bytes) (stop_broken (stop_columns (header_of bytes)) (rows_of bytes)) row because)
    (λ file row because. (file ≡ file_kind.Stops) × IsStopsRefusal bytes row because) h (λ file row because p. (p.0, inl p.1))

-- the number of stops is refused behind all rows
pub of_stops : (bytes : List ℕ) (table : StopTable) (stop : Stopped) → table.stops ≡ feed_stops bytes → StopRowsAccepted bytes
    → Refuses stop (λ file row because. (file ≡ file_kind.Stops) × (row ≡ 0) × (stops_broken (length table.stops) ≡ Some because))
    → Refuses stop (λ file row because. (file ≡ file_kind.Stops) × IsStopsRefusal bytes row because)
of_stops bytes table stop same rows h =
    weaker stop (λ file row because. (file ≡ file_kind.Stops) × (row ≡ 0) × (stops_broken (length table.stops) ≡ Some because))
    (λ file row because. (file ≡ file_kind.Stops) × IsStopsRefusal bytes row because) h (λ file row because p. (p.0, inr (rows, p.1, rw same at p.2)))

-- the outcome of the test of the number of stops
pub checked-accepted : (bytes : List ℕ) (table : StopTable) (r : Result StopTable Stopped) → IsStopTableOf (stop_columns (header_of bytes)) (rows_of bytes) table
    → StopRowsAccepted bytes → OnOk r (stops_broken (length table.stops) ≡ None) → OnOk r (StopsAccepted bytes)
checked-accepted bytes table (Ok t) is rows few = record { rows = rows; few = rw (stops_are bytes table is) at few }
checked-accepted bytes table (Err e) is rows few = tt

pub checked-same : (P : StopTable → Type 0) (table : StopTable) (r : Result StopTable Stopped) → P table → IfOk r (λ same. same ≡ table) → IfOk r P
checked-same P table (Ok t) p same = rw same p
checked-same P table (Err e) p same = tt

pub checked-refused : (bytes : List ℕ) (table : StopTable) (r : Result StopTable Stopped) → IsStopTableOf (stop_columns (header_of bytes)) (rows_of bytes) table → StopRowsAccepted bytes
    → IfErr r (λ stop. Refuses stop (λ file row because. (file ≡ file_kind.Stops) × (row ≡ 0) × (stops_broken (length table.stops) ≡ Some because)))
    → IfErr r (λ stop. Refuses stop (λ file row because. (file ≡ file_kind.Stops) × IsStopsRefusal bytes row because))
checked-refused bytes table (Ok t) is rows h = tt
checked-refused bytes table (Err stop) is rows h = of_stops bytes table stop (stops_are bytes table is) rows h

-- a row was not taken
pub row_refused : (bytes : List ℕ) (old new : FileRows) (table : StopTable) (c : StopColumns) (row : List (List ℕ)) (row_stop : RowStop) (stop : Stopped)
    → StopsProgress bytes old table → first_cause stop_column_rules (stop_columns (header_of bytes)) ≡ None → ReadsRow old new → c ≡ stop_columns (header_of bytes) → fields_of new.row ≡ row
    → Breaks (first_cause (stop_rules c table.names) row) row_stop → Refuses stop (IsRowStop new.file (length (rows_of new.bytes.now)) new.number row_stop)
    → RefusesTable file_kind.Stops (first_cause stop_column_rules (stop_columns (header_of bytes))) (rows_of bytes) (stop_broken (stop_columns (header_of bytes)) (rows_of bytes)) stop
row_refused bytes old new table c row row_stop stop p there r columns fields breaks h =
    progress.row file_kind.Stops _ bytes _ old new row_stop stop p.progress there r (rw (next bytes old new table c row _ p r columns fields refl) breaks) h
