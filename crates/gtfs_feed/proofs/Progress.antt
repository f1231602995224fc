-- A file whose rows are read one by one, as far as its rules go.
use Rattle.std.proofs.Common.{◌≡◌, ◌∙◌, ℕ, ◌<◌, List, length, Option, None, arith, below_more}
use Rattle.move_model.specs.declared.refusal.Cause.{Cause}
use Rattle.move_model.specs.declared.refusal.Cause.TheVariants as cause
use Rattle.move_model.specs.declared.refusal.FileKind.{FileKind}
use Rattle.move_model.specs.declared.refusal.Stopped.{Stopped}
use Rattle.csv.specs.Records.{fields_of}
use Rattle.tables.specs.Table.{header_of, rows_of, row_at}
use Rattle.gtfs_feed.specs.declared.file_rows.FileRows.{FileRows}
use Rattle.gtfs_feed.specs.declared.refuse.RowStop.{RowStop}
use Rattle.gtfs_feed.specs.Reading.{IsReading, ReadsRow}
use Rattle.gtfs_feed.specs.RowStops.{Breaks, IsRowStop}
use Rattle.gtfs_feed.specs.Table.{IsAccepted, Refuses, RefusesTable}
use Rattle.gtfs_feed.proofs.RefuseLemmas.{whole, refuses_limit, refuses_row}

-- the rows that are read break no rule
pub record Progress (kind : FileKind) (bytes : List ℕ) (broken : ℕ → Option Cause) (file : FileRows) : Type 0 where
  pub reads : IsReading file
  pub of_file : file.file ≡ kind
  pub of_bytes : file.bytes.now ≡ bytes
  pub accepted : (i : ℕ) → i < file.number → broken i ≡ None

pub begun : (kind : FileKind) (bytes : List ℕ) (broken : ℕ → Option Cause) (file : FileRows) → IsReading file
    → (file.file ≡ kind) × (file.bytes.now ≡ bytes) × (file.number ≡ 0) → Progress kind bytes broken file
begun kind bytes broken file reads (of_file, of_bytes, zero) =
    record { reads = reads; of_file = of_file; of_bytes = of_bytes; accepted = λ i lt. absurd (omega arith) }

pub header_is : (bytes : List ℕ) (file : FileRows) → IsReading file → file.bytes.now ≡ bytes → fields_of file.header ≡ header_of bytes
header_is bytes file reads same = rw same at reads.headed

-- the next row breaks no rule either
pub more : (kind : FileKind) (bytes : List ℕ) (broken : ℕ → Option Cause) (old new : FileRows) → Progress kind bytes broken old → ReadsRow old new
    → broken old.number ≡ None → Progress kind bytes broken new
more kind bytes broken old new p r holds = record {
  reads = r.reads;
  of_file = r.of_file ∙ p.of_file;
  of_bytes = r.of_bytes ∙ p.of_bytes;
  accepted = rw r.number (below_more (λ i. broken i ≡ None) old.number p.accepted holds);
}

pub inside : (kind : FileKind) (bytes : List ℕ) (broken : ℕ → Option Cause) (old new : FileRows) → Progress kind bytes broken old → ReadsRow old new
    → old.number < length (rows_of bytes)
inside kind bytes broken old new p r = rw p.of_bytes at r.inside

-- the fields that were read are those of the next row
pub row_is : (kind : FileKind) (bytes : List ℕ) (broken : ℕ → Option Cause) (old new : FileRows) → Progress kind bytes broken old → ReadsRow old new
    → fields_of new.row ≡ row_at (rows_of bytes) old.number
row_is kind bytes broken old new p r = rw p.of_bytes at r.row

pub all_read : (kind : FileKind) (bytes : List ℕ) (broken : ℕ → Option Cause) (file : FileRows) → Progress kind bytes broken file
    → length (rows_of file.bytes.now) ≡ file.number → length (rows_of bytes) ≡ file.number
all_read kind bytes broken file p end = rw p.of_bytes at end

-- all rows are read
pub accepted : (kind : FileKind) (missing : Option Cause) (bytes : List ℕ) (broken : ℕ → Option Cause) (file : FileRows) → Progress kind bytes broken file → missing ≡ None
    → length (rows_of file.bytes.now) ≡ file.number → IsAccepted missing (rows_of bytes) broken
accepted kind missing bytes broken file p there end =
    let all = all_read kind bytes broken file p end in
    record { whole = whole missing (rows_of bytes) there (omega (arith, all, p.reads.few)); each = λ i lt. p.accepted i (omega (arith, all, lt)) }

-- there are too many rows
pub limit : (kind : FileKind) (missing : Option Cause) (bytes : List ℕ) (broken : ℕ → Option Cause) (file : FileRows) (stop : Stopped) → Progress kind bytes broken file → missing ≡ None
    → Refuses stop (λ f row because. (f ≡ file.file) × (row ≡ 0) × (because ≡ cause.Limit (length (rows_of file.bytes.now))) × (50000000 < length (rows_of file.bytes.now)))
    → RefusesTable kind missing (rows_of bytes) broken stop
limit kind missing bytes broken file stop p there h =
    refuses_limit kind missing (rows_of bytes) broken stop there (rw (p.of_file, p.of_bytes) at h)

-- a row was not taken
pub row : (kind : FileKind) (missing : Option Cause) (bytes : List ℕ) (broken : ℕ → Option Cause) (old new : FileRows) (row_stop : RowStop) (stop : Stopped)
    → Progress kind bytes broken old → missing ≡ None → ReadsRow old new → Breaks (broken old.number) row_stop
    → Refuses stop (IsRowStop new.file (length (rows_of new.bytes.now)) new.number row_stop) → RefusesTable kind missing (rows_of bytes) broken stop
row kind missing bytes broken old new row_stop stop p there r breaks h =
    let of_file : new.file ≡ kind = r.of_file ∙ p.of_file in
    let of_bytes : new.bytes.now ≡ bytes = r.of_bytes ∙ p.of_bytes in
    refuses_row kind missing (rows_of bytes) broken old.number row_stop stop there (inside kind bytes broken old new p r) p.accepted breaks
    (rw (of_file, of_bytes, r.number) at h)
