-- A file whose rows are read one by one.
--     IsReading r          the header is read, and so many rows as the number says
--     ReadsRow old new     one row more is read
use Rattle.std.specs.Prelude.{◌≡◌, ◌+◌, ◌<◌, ◌≤◌, drop, length}
use Rattle.csv.specs.Records.{fields_of}
use Rattle.tables.specs.Table.{header_of, rows_of, row_at}
use Rattle.gtfs_feed.specs.declared.file_rows.FileRows.{FileRows}

pub record IsReading (r : FileRows) : Type 0 where
  pub headed : fields_of r.header ≡ header_of r.bytes.now
  pub behind : r.rows ≡ drop r.number (rows_of r.bytes.now)
  pub within : r.number ≤ length (rows_of r.bytes.now)
  pub few : r.number ≤ 50000000

pub record ReadsRow (old new : FileRows) : Type 0 where
  pub reads : IsReading new
  pub of_file : new.file ≡ old.file
  pub of_bytes : new.bytes.now ≡ old.bytes.now
  pub number : new.number ≡ old.number + 1
  pub inside : old.number < length (rows_of old.bytes.now)
  pub row : fields_of new.row ≡ row_at (rows_of old.bytes.now) old.number
