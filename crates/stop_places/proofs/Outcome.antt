-- What the rows of the table, once they are read, say of the whole table.
use Rattle.std.proofs.Common.{◌≡◌, ◌≤◌, ℕ, List, length, Some, None}
use Rattle.std.specs.Prelude.{Result, Ok, Err, OnOk, IfOk}
use Rattle.gtfs_feed.specs.declared.feed.FeedStop.{FeedStop}
use Rattle.move_model.specs.declared.refusal.Refusal.{Refusal}
use Rattle.move_model.specs.declared.refusal.FileKind.TheVariants as file
use Rattle.move_model.specs.declared.refusal.Stopped.{Stopped}
use Rattle.refusals.specs.Refusal.{Accepted, IsFirstRefusal, first_cause}
use Rattle.tables.specs.Table.{rows_of}
use Rattle.stop_places.specs.declared.columns.Columns.{Columns}
use Rattle.stop_places.specs.declared.given.Given.{Given}
use Rattle.stop_places.specs.Rules.{column_rules, row_rules, row_behind}
use Rattle.stop_places.specs.Given.{IsGivenBy, vertex_in}
use Rattle.stop_places.specs.Table.{IsTable, IsTableRefusal, columns_in, table_vertex}
use Rattle.stop_places.proofs.Files.{file_accepted, row_refused}
use Rattle.stop_places.proofs.GivenLemmas.{vertex_in-is}

-- the header was read to these columns, and these are the rows
pub record Opened (bytes : List ℕ) (columns : Columns) (rows : List (List (List ℕ))) : Type 0 where
  pub columns_are : columns ≡ columns_in bytes
  pub rows_are : rows ≡ rows_of bytes
  pub there : first_cause column_rules (columns_in bytes) ≡ None
  pub few : length (rows_of bytes) ≤ 50000000

pub accepted : (stops : List FeedStop) (nodes : ℕ) (bytes : List ℕ) (columns : Columns) (rows : List (List (List ℕ))) (r : Result Given Stopped) → Opened bytes columns rows
    → OnOk r (Accepted (row_rules stops nodes columns) (row_behind columns rows) (length rows)) → OnOk r (IsTable stops nodes bytes)
accepted stops nodes bytes columns rows (Ok given) o h = file_accepted stops nodes bytes o.there o.few (rw (o.columns_are, o.rows_are) at h)
accepted stops nodes bytes columns rows (Err e) o h = tt

pub given : (bytes : List ℕ) (columns : Columns) (rows : List (List (List ℕ))) (r : Result Given Stopped) → Opened bytes columns rows
    → IfOk r (IsGivenBy columns rows) → IfOk r (IsGivenBy (columns_in bytes) (rows_of bytes))
given bytes columns rows (Ok found) o h = rw (o.columns_are, o.rows_are) at h
given bytes columns rows (Err e) o h = tt

pub refused : (stops : List FeedStop) (nodes : ℕ) (bytes : List ℕ) (columns : Columns) (rows : List (List (List ℕ))) (r : Refusal) → Opened bytes columns rows
    → (r.file ≡ file.StopNodes) × IsFirstRefusal (row_rules stops nodes columns) (row_behind columns rows) (length rows) r.row r.cause
    → (r.file ≡ file.StopNodes) × IsTableRefusal stops nodes bytes r.row r.cause
refused stops nodes bytes columns rows r o h = row_refused stops nodes bytes r o.there o.few (rw (o.columns_are, o.rows_are) at h)

-- the vertices that the rows give are those of the table
pub vertices : (bytes : List ℕ) (r : Result Given Stopped) → IfOk r (IsGivenBy (columns_in bytes) (rows_of bytes)) → IfOk r (λ given. (id : List ℕ) → vertex_in given id ≡ table_vertex (Some bytes) id)
vertices bytes (Ok given) g = λ id. vertex_in-is (columns_in bytes) (rows_of bytes) given id g
vertices bytes (Err e) g = tt
