-- A row more of frequencies.txt.
use Rattle.std.proofs.Common.{◌≡◌, ◌∙◌, ℕ, ◌<◌, ◌≤◌, List, [], ◌∷◌, ◌++◌, length, take, map, All, Option, None, refl, sym, ap, arith}
use Rattle.std.proofs.lemmas.List.{take_more, take_all, map_push, length-map, length-take-le}
use Rattle.csv.specs.Records.{fields_of}
use Rattle.move_model.specs.declared.refusal.Cause.{Cause}
use Rattle.move_model.specs.declared.refusal.FileKind.TheVariants as file_kind
use Rattle.move_model.specs.declared.refusal.Stopped.{Stopped}
use Rattle.refusals.specs.Refusal.{first_cause}
use Rattle.tables.specs.Table.{header_of, rows_of, row_at}
use Rattle.gtfs_feed.specs.declared.copies.CopyColumns.{CopyColumns}
use Rattle.gtfs_feed.specs.declared.feed.CopyRow.{CopyRow}
use Rattle.gtfs_feed.specs.declared.feed.FeedTrip.{FeedTrip}
use Rattle.gtfs_feed.specs.declared.file_rows.FileRows.{FileRows}
use Rattle.gtfs_feed.specs.declared.refuse.RowStop.{RowStop}
use Rattle.gtfs_feed.specs.Copies.{copy_columns, copy_column_rules, copy_broken, copy_of, copies_of}
use Rattle.gtfs_feed.specs.Feed.{IsCopyRow}
use Rattle.gtfs_feed.specs.Reading.{IsReading, ReadsRow}
use Rattle.gtfs_feed.specs.RowStops.{Breaks, IsRowStop}
use Rattle.gtfs_feed.specs.Table.{Refuses, RefusesTable}
use Rattle.gtfs_feed.proofs.Progress as progress
use Rattle.gtfs_feed.proofs.Progress.{Progress}

-- what is read of frequencies.txt so far
pub record CopiesProgress (bytes : List ℕ) (ids : List (List ℕ)) (trips : List FeedTrip) (file : FileRows) (copies : List CopyRow) : Type 0 where
  pub progress : Progress file_kind.Frequencies bytes (λ i. copy_broken (copy_columns (header_of bytes)) ids trips (row_at (rows_of bytes) i)) file
  pub kept : All (IsCopyRow trips) copies
  pub copies_are : copies ≡ map (copy_of (copy_columns (header_of bytes)) ids) (take file.number (rows_of bytes))

pub begun : (bytes : List ℕ) (ids : List (List ℕ)) (trips : List FeedTrip) (file : FileRows) (copies : List CopyRow) → IsReading file
    → (file.file ≡ file_kind.Frequencies) × (file.bytes.now ≡ bytes) × (file.number ≡ 0) → copies ≡ [] → CopiesProgress bytes ids trips file copies
begun bytes ids trips file copies reads starts none =
    let empty : length copies ≡ 0 = rw none refl in
    record {
      progress = progress.begun file_kind.Frequencies bytes _ file reads starts;
      kept = λ k d lt. absurd (omega arith);
      copies_are = rw starts.2 none;
    }

-- the rule that the next row breaks is that of its fields
pub next : (bytes : List ℕ) (ids : List (List ℕ)) (trips : List FeedTrip) (old new : FileRows) (copies : List CopyRow) (c : CopyColumns) (row : List (List ℕ)) (o : Option Cause)
    → CopiesProgress bytes ids trips old copies → ReadsRow old new → c ≡ copy_columns (header_of bytes) → fields_of new.row ≡ row
    → copy_broken c ids trips row ≡ o → copy_broken (copy_columns (header_of bytes)) ids trips (row_at (rows_of bytes) old.number) ≡ o
next bytes ids trips old new copies c row o p r columns fields e =
    let here : row ≡ row_at (rows_of bytes) old.number = sym fields ∙ progress.row_is file_kind.Frequencies bytes _ old new p.progress r in
    rw (columns, here) at e

pub more : (bytes : List ℕ) (ids : List (List ℕ)) (trips : List FeedTrip) (old new : FileRows) (copies grown : List CopyRow) (c : CopyColumns) (row : List (List ℕ))
    → CopiesProgress bytes ids trips old copies → ReadsRow old new → c ≡ copy_columns (header_of bytes) → fields_of new.row ≡ row
    → copy_broken c ids trips row ≡ None → All (IsCopyRow trips) grown → grown ≡ copies ++ copy_of c ids row ∷ [] → CopiesProgress bytes ids trips new grown
more bytes ids trips old new copies grown c row p r columns fields holds kept grows =
    let here : row ≡ row_at (rows_of bytes) old.number = sym fields ∙ progress.row_is file_kind.Frequencies bytes _ old new p.progress r in
    let lt : old.number < length (rows_of bytes) = progress.inside file_kind.Frequencies bytes _ old new p.progress r in
    let up : take new.number (rows_of bytes) ≡ take old.number (rows_of bytes) ++ row_at (rows_of bytes) old.number ∷ [] =
    ap (λ (n : ℕ). take n (rows_of bytes)) r.number ∙ take_more (rows_of bytes) old.number [] lt in
    record {
      progress = progress.more file_kind.Frequencies bytes _ old new p.progress r (next bytes ids trips old new copies c row None p r columns fields holds);
      kept = kept;
      copies_are = rw (up, map_push (copy_of (copy_columns (header_of bytes)) ids) (take old.number (rows_of bytes)) (row_at (rows_of bytes) old.number))
          (rw (columns, here, p.copies_are) at grows);
    }

-- all rows are read
pub all : (bytes : List ℕ) (ids : List (List ℕ)) (trips : List FeedTrip) (file : FileRows) (copies : List CopyRow) → CopiesProgress bytes ids trips file copies
    → length (rows_of file.bytes.now) ≡ file.number → copies ≡ copies_of ids bytes
unfolding copies_of
all bytes ids trips file copies p end =
    let n = progress.all_read file_kind.Frequencies bytes _ file p.progress end in
    let whole : take file.number (rows_of bytes) ≡ rows_of bytes = take_all file.number (rows_of bytes) (omega arith) in
    rw whole at p.copies_are

pub few : (bytes : List ℕ) (ids : List (List ℕ)) (trips : List FeedTrip) (file : FileRows) (copies : List CopyRow) → CopiesProgress bytes ids trips file copies → length copies ≤ 50000000
few bytes ids trips file copies p =
    let within = rw p.progress.of_bytes at p.progress.reads.within in
    omega (
      arith,
      p.progress.reads.few,
      within,
      ap length p.copies_are,
      length-map (take file.number (rows_of bytes)) (copy_of (copy_columns (header_of bytes)) ids),
      length-take-le file.number (rows_of bytes) within,
    )

-- a row was not taken
pub row_refused : (bytes : List ℕ) (ids : List (List ℕ)) (trips : List FeedTrip) (old new : FileRows) (copies : List CopyRow) (c : CopyColumns) (row : List (List ℕ)) (row_stop : RowStop)
    (stop : Stopped)
    → CopiesProgress bytes ids trips old copies → first_cause copy_column_rules (copy_columns (header_of bytes)) ≡ None → ReadsRow old new → c ≡ copy_columns (header_of bytes)
    → fields_of new.row ≡ row → Breaks (copy_broken c ids trips row) row_stop → Refuses stop (IsRowStop new.file (length (rows_of new.bytes.now)) new.number row_stop)
    → RefusesTable file_kind.Frequencies (first_cause copy_column_rules (copy_columns (header_of bytes))) (rows_of bytes)
    (λ i. copy_broken (copy_columns (header_of bytes)) ids trips (row_at (rows_of bytes) i)) stop
row_refused bytes ids trips old new copies c row row_stop stop p there r columns fields breaks h =
    progress.row file_kind.Frequencies _ bytes _ old new row_stop stop p.progress there r (rw (next bytes ids trips old new copies c row _ p r columns fields refl) breaks) h
