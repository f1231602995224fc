-- What the rows of a file, once they are read, say of the whole file.
use Rattle.std.proofs.Common.{◌≡◌, ◌∙◌, ◌≤◌, ℕ, List, length, map, None, refl, sym, ap, arith}
use Rattle.std.specs.Prelude.{All, Result, Ok, Err, OnOk, IfOk, IsErrOf}
use Rattle.std.proofs.lemmas.List.{length-map}
use Rattle.move_model.specs.Check.{Stands}
use Rattle.move_model.specs.declared.network.Network.{Network}
use Rattle.move_model.specs.declared.query.Query.{Query}
use Rattle.move_model.specs.declared.refusal.Refusal.{Refusal}
use Rattle.move_model.specs.declared.refusal.FileKind.TheVariants as file
use Rattle.move_model.specs.declared.refusal.Stopped.{Stopped}
use Rattle.move_model.specs.declared.refusal.Stopped.TheVariants as stopped
use Rattle.refusals.specs.Refusal.{Accepted, IsFirstRefusal, first_cause}
use Rattle.tables.specs.Table.{rows_of, row_at}
use Rattle.query_table.specs.declared.columns.Columns.{Columns}
use Rattle.query_table.specs.Rules.{column_rules, query_rules, query_of}
use Rattle.query_table.specs.Queries.{IsQuery, IsQueryTable, IsQueryRefusal, columns_in, queries_of}
use Rattle.query_table.proofs.Files.{file_accepted, row_refused}
use Rattle.query_table.proofs.Sound.{all_sound}

-- the header was read to these columns, and these are the rows
pub record Opened (bytes : List ℕ) (columns : Columns) (rows : List (List (List ℕ))) : Type 0 where
  pub columns_are : columns ≡ columns_in bytes
  pub rows_are : rows ≡ rows_of bytes
  pub there : first_cause column_rules (columns_in bytes) ≡ None
  pub few : length (rows_of bytes) ≤ 100000

abbrev pub Outcome : Type 0
Outcome = Result (List Query) Stopped

pub accepted : (n : Network) (bytes : List ℕ) (columns : Columns) (rows : List (List (List ℕ))) (r : Outcome) → Opened bytes columns rows
    → OnOk r (Accepted (query_rules n columns) (row_at rows) (length rows)) → OnOk r (IsQueryTable n bytes)
accepted n bytes columns rows (Ok queries) o h = file_accepted n bytes o.there o.few (rw (o.columns_are, o.rows_are) at h)
accepted n bytes columns rows (Err e) o h = tt

pub queries : (n : Network) (bytes : List ℕ) (columns : Columns) (rows : List (List (List ℕ))) (r : Outcome) → Opened bytes columns rows
    → IfOk r (λ queries. queries ≡ map (query_of n columns) rows) → IfOk r (λ queries. queries ≡ queries_of n bytes)
unfolding queries_of
queries n bytes columns rows (Ok found) o h = rw (o.columns_are, o.rows_are) at h
queries n bytes columns rows (Err e) o h = tt

pub refused : (n : Network) (bytes : List ℕ) (columns : Columns) (rows : List (List (List ℕ))) (r : Refusal) → Opened bytes columns rows
    → (r.file ≡ file.Queries) × IsFirstRefusal (query_rules n columns) (row_at rows) (length rows) r.row r.cause → IsQueryRefusal n bytes r
refused n bytes columns rows r o h = row_refused n bytes r o.there o.few (rw (o.columns_are, o.rows_are) at h)

pub few : (n : Network) (bytes : List ℕ) (columns : Columns) (rows : List (List (List ℕ))) (r : Outcome) → Opened bytes columns rows
    → IfOk r (λ queries. queries ≡ map (query_of n columns) rows) → IfOk r (λ queries. length queries ≤ 100000)
few n bytes columns rows (Ok found) o h = omega (arith, ap length h, length-map rows (query_of n columns), ap length o.rows_are, o.few)
few n bytes columns rows (Err e) o h = tt

pub sound : (n : Network) (bytes : List ℕ) (r : Outcome) → All (Stands n) n.stops → OnOk r (IsQueryTable n bytes) → IfOk r (λ queries. queries ≡ queries_of n bytes) → IfOk r (All (IsQuery n))
sound n bytes (Ok found) stand table is = rw is (all_sound n bytes stand table)
sound n bytes (Err e) stand table is = tt
