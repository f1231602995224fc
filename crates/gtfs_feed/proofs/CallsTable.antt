-- A row more of stop_times.txt.
use Rattle.std.proofs.Common.{◌≡◌, ◌∙◌, ℕ, ◌+◌, ◌<◌, List, [], ◌∷◌, ◌++◌, length, take, get_or, All, Vec, Global, Option, Some, None, Bool, true, false, suc, refl, sym, ap, arith}
use Rattle.std.specs.Prelude.{if◌then◌else◌, ◌==◌, ◌&&◌, not}
use Rattle.std.proofs.lemmas.List.{append-nil, take_more, take_all, length-take-le}
use Rattle.csv.specs.Records.{fields_of}
use Rattle.move_model.specs.declared.refusal.Cause.{Cause}
use Rattle.move_model.specs.declared.refusal.FileKind.TheVariants as file_kind
use Rattle.move_model.specs.declared.refusal.Stopped.{Stopped}
use Rattle.refusals.specs.Refusal.{first_cause}
use Rattle.tables.specs.Names.{place_of}
use Rattle.tables.specs.Table.{header_of, rows_of, row_at, cell}
use Rattle.tables.specs.Values.{number_in}
use Rattle.trip_calls.specs.declared.kept.KeptCall.{KeptCall}
use Rattle.gtfs_feed.specs.declared.calls.CallColumns.{CallColumns}
use Rattle.gtfs_feed.specs.declared.file_rows.FileRows.{FileRows}
use Rattle.gtfs_feed.specs.declared.refuse.RowStop.{RowStop}
use Rattle.gtfs_feed.specs.Calls.{StopRows, call_columns, call_column_rules, call_rules, call_broken, call_found, kept_call, is_call_of, is_place, calls_of_row, calls_behind, trip_calls}
use Rattle.gtfs_feed.specs.Ids.{is_empty}
use Rattle.gtfs_feed.specs.Kept.{AreKept}
use Rattle.gtfs_feed.specs.KeptCalls.{GrowsByRow, GrowsByCall, AreCallsOf}
use Rattle.gtfs_feed.specs.Reading.{IsReading, ReadsRow}
use Rattle.gtfs_feed.specs.RowStops.{Breaks, IsRowStop}
use Rattle.gtfs_feed.specs.Table.{Refuses, RefusesTable}
use Rattle.gtfs_feed.proofs.FinishLemmas.{kept-none}
use Rattle.gtfs_feed.proofs.Progress as progress
use Rattle.gtfs_feed.proofs.Progress.{Progress}

pick-append : {X : Type 0} (b : Bool) (x : X) (xs ys zs : List X) → xs ≡ ys ++ zs → (if b then x ∷ xs else xs) ≡ (if b then x ∷ ys else ys) ++ zs
pick-append true x xs ys zs e = ap (λ rest. x ∷ rest) e
pick-append false x xs ys zs e = e

calls-push : (c : CallColumns) (stops : StopRows) (trips : List (List ℕ)) (k : ℕ) (rows : List (List (List ℕ))) (n : ℕ) (row : List (List ℕ))
    → calls_behind c stops trips k n (rows ++ row ∷ []) ≡ calls_behind c stops trips k n rows ++ calls_of_row c stops trips k (n + length rows + 1) row
unfolding calls_behind
calls-push c stops trips k [] n row = let z : n + 0 + 1 ≡ n + 1 = omega arith in rw z refl
calls-push c stops trips k (first ∷ rows) n row =
    let up : n + suc (length rows) + 1 ≡ n + 1 + length rows + 1 = omega arith in
    rw up (pick-append (is_call_of c trips k first) (kept_call c stops (n + 1) first) _ (calls_behind c stops trips k (n + 1) rows) _ (calls-push c stops trips k rows (n + 1) row))

by-some : (b t : Bool) (x call : KeptCall) → (if b then None else Some x) ≡ Some call → (if t then call ∷ [] else []) ≡ (if not b && t then x ∷ [] else [])
by-some true t x call e = cc e
by-some false t x call e = let same : x ≡ call = cc e in rw same refl

by-none : (b t : Bool) (x : KeptCall) → (if b then None else Some x) ≡ None → [] ≡ (if not b && t then x ∷ [] else [])
by-none true t x e = refl
by-none false t x e = cc e

pub none-of : {X : Type 0} (o : Option X) → ((x : X) → o ≡ Some x → ⊥) → o ≡ None
none-of None f = refl
none-of (Some x) f = absurd (f x refl)

-- the call of a row goes to the trip that the row names
pub grows-some : (c : CallColumns) (stops : StopRows) (trips : List (List ℕ)) (number : ℕ) (row : List (List ℕ)) (trip : ℕ) (call : KeptCall) (old new : List (Vec KeptCall Global))
    → place_of (cell c.trip row) trips ≡ Some trip → call_found c stops (number_in (cell c.sequence row)) number row ≡ Some call → GrowsByCall old new trip call
    → GrowsByRow old new c stops trips number row
unfolding is_call_of
grows-some c stops trips number row trip call old new place found grows k d lt =
    grows k d lt ∙ ap (λ (more : List KeptCall). (get_or old k d).items ++ more)
    (rw place (by-some (is_empty (cell c.stop row)) (trip == k) (kept_call c stops number row) call found))

-- a row without a stop has no call
pub grows-none : (c : CallColumns) (stops : StopRows) (trips : List (List ℕ)) (number : ℕ) (row : List (List ℕ)) (old : List (Vec KeptCall Global))
    → call_found c stops (number_in (cell c.sequence row)) number row ≡ None → GrowsByRow old old c stops trips number row
unfolding is_call_of
grows-none c stops trips number row old found k d lt =
    sym (ap (λ (more : List KeptCall). (get_or old k d).items ++ more) (sym (by-none (is_empty (cell c.stop row)) (is_place k (place_of (cell c.trip row) trips)) (kept_call c stops number row) found))
    ∙ append-nil (get_or old k d).items)

-- what is read of stop_times.txt so far
pub record CallsProgress (bytes : List ℕ) (stops : StopRows) (trips : List (List ℕ)) (count : ℕ) (file : FileRows) (kept : List (Vec KeptCall Global)) : Type 0 where
  pub progress : Progress file_kind.StopTimes bytes (call_broken (call_columns (header_of bytes)) stops trips (rows_of bytes)) file
  pub long : length kept ≡ length trips
  pub kept_stand : AreKept count file.number kept
  pub calls : (k : ℕ) (d : Vec KeptCall Global) → k < length kept
      → (get_or kept k d).items ≡ calls_behind (call_columns (header_of bytes)) stops trips k 0 (take file.number (rows_of bytes))

none-behind : (c : CallColumns) (stops : StopRows) (trips : List (List ℕ)) (k : ℕ) → calls_behind c stops trips k 0 [] ≡ []
unfolding calls_behind
none-behind c stops trips k = refl

pub begun : (bytes : List ℕ) (stops : StopRows) (trips : List (List ℕ)) (count : ℕ) (file : FileRows) (kept : List (Vec KeptCall Global)) → IsReading file
    → (file.file ≡ file_kind.StopTimes) × (file.bytes.now ≡ bytes) × (file.number ≡ 0) → length kept ≡ length trips → All (λ (v : Vec KeptCall Global). v.items ≡ []) kept
    → CallsProgress bytes stops trips count file kept
begun bytes stops trips count file kept reads starts long none = record {
  progress = progress.begun file_kind.StopTimes bytes _ file reads starts;
  long = long;
  kept_stand = λ k d lt. kept-none count file.number (get_or kept k d).items (none k d lt);
  calls = λ k d lt. none k d lt ∙ rw starts.2 (sym (none-behind (call_columns (header_of bytes)) stops trips k));
}

-- the rule that the next row breaks is that of its fields
pub next : (bytes : List ℕ) (stops : StopRows) (trips : List (List ℕ)) (count : ℕ) (old new : FileRows) (kept : List (Vec KeptCall Global)) (c : CallColumns) (row : List (List ℕ)) (o : Option Cause)
    → CallsProgress bytes stops trips count old kept → ReadsRow old new → c ≡ call_columns (header_of bytes) → fields_of new.row ≡ row
    → first_cause (call_rules c stops trips) row ≡ o → call_broken (call_columns (header_of bytes)) stops trips (rows_of bytes) old.number ≡ o
next bytes stops trips count old new kept c row o p r columns fields e =
    let here : row ≡ row_at (rows_of bytes) old.number = sym fields ∙ progress.row_is file_kind.StopTimes bytes _ old new p.progress r in
    rw (columns, here) at e

pub more : (bytes : List ℕ) (stops : StopRows) (trips : List (List ℕ)) (count : ℕ) (old new : FileRows) (kept grown : List (Vec KeptCall Global)) (c : CallColumns) (row : List (List ℕ))
    → CallsProgress bytes stops trips count old kept → ReadsRow old new → c ≡ call_columns (header_of bytes) → fields_of new.row ≡ row
    → first_cause (call_rules c stops trips) row ≡ None → length grown ≡ length kept → AreKept count new.number grown → GrowsByRow kept grown c stops trips new.number row
    → CallsProgress bytes stops trips count new grown
more bytes stops trips count old new kept grown c row p r columns fields holds same stand grows =
    let here : row ≡ row_at (rows_of bytes) old.number = sym fields ∙ progress.row_is file_kind.StopTimes bytes _ old new p.progress r in
    let lt : old.number < length (rows_of bytes) = progress.inside file_kind.StopTimes bytes _ old new p.progress r in
    let up : take new.number (rows_of bytes) ≡ take old.number (rows_of bytes) ++ row_at (rows_of bytes) old.number ∷ [] =
    ap (λ (n : ℕ). take n (rows_of bytes)) r.number ∙ take_more (rows_of bytes) old.number [] lt in
    let number : 0 + length (take old.number (rows_of bytes)) + 1 ≡ new.number = omega (arith, length-take-le old.number (rows_of bytes) (omega arith), r.number) in
    let added = rw (columns, here) at grows in
    record {
      progress = progress.more file_kind.StopTimes bytes _ old new p.progress r (next bytes stops trips count old new kept c row None p r columns fields holds);
      long = same ∙ p.long;
      kept_stand = stand;
      calls = λ k d lt'.
          let inside : k < length kept = omega (arith, same) in
          added k d inside
          ∙ ap (λ (xs : List KeptCall). xs ++ calls_of_row (call_columns (header_of bytes)) stops trips k new.number (row_at (rows_of bytes) old.number)) (p.calls k d inside)
          ∙ rw up (sym (rw number at (calls-push (call_columns (header_of bytes)) stops trips k (take old.number (rows_of bytes)) 0 (row_at (rows_of bytes) old.number))));
    }

-- all rows are read
pub all : (bytes : List ℕ) (stops : StopRows) (trips : List (List ℕ)) (count : ℕ) (file : FileRows) (kept : List (Vec KeptCall Global)) → CallsProgress bytes stops trips count file kept
    → length (rows_of file.bytes.now) ≡ file.number → AreCallsOf stops trips bytes kept
unfolding trip_calls
all bytes stops trips count file kept p end k d lt =
    let n = progress.all_read file_kind.StopTimes bytes _ file p.progress end in
    let whole : take file.number (rows_of bytes) ≡ rows_of bytes = take_all file.number (rows_of bytes) (omega arith) in
    rw whole at (p.calls k d lt)

pub stand : (bytes : List ℕ) (stops : StopRows) (trips : List (List ℕ)) (count : ℕ) (file : FileRows) (kept : List (Vec KeptCall Global)) → CallsProgress bytes stops trips count file kept
    → AreKept count 50000000 kept
stand bytes stops trips count file kept p k d lt = let h = p.kept_stand k d lt in record { each = h.each; few = omega (arith, h.few, p.progress.reads.few) }

-- a row was not taken
pub row_refused : (bytes : List ℕ) (stops : StopRows) (trips : List (List ℕ)) (count : ℕ) (old new : FileRows) (kept : List (Vec KeptCall Global)) (c : CallColumns) (row : List (List ℕ))
    (row_stop : RowStop) (stop : Stopped)
    → CallsProgress bytes stops trips count old kept → first_cause call_column_rules (call_columns (header_of bytes)) ≡ None → ReadsRow old new → c ≡ call_columns (header_of bytes)
    → fields_of new.row ≡ row → Breaks (first_cause (call_rules c stops trips) row) row_stop
    → Refuses stop (IsRowStop new.file (length (rows_of new.bytes.now)) new.number row_stop)
    → RefusesTable file_kind.StopTimes (first_cause call_column_rules (call_columns (header_of bytes))) (rows_of bytes) (call_broken (call_columns (header_of bytes)) stops trips (rows_of bytes)) stop
row_refused bytes stops trips count old new kept c row row_stop stop p there r columns fields breaks h =
    progress.row file_kind.StopTimes _ bytes _ old new row_stop stop p.progress there r (rw (next bytes stops trips count old new kept c row _ p r columns fields refl) breaks) h
