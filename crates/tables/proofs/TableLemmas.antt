-- Facts on the table of a file's bytes.
use Rattle.std.proofs.Common.{◌≡◌, ◌+◌, ◌-◌, ◌≤◌, ℕ, List, [], ◌∷◌, length, drop, Bool, true, false, refl, arith}
use Rattle.std.proofs.lemmas.List.{length-drop}
use Rattle.std.specs.Bool.{MatchBool}
use Rattle.csv.specs.Reading.{default_config}
use Rattle.csv.specs.declared.parser.State.TheVariants as st
use Rattle.tables.specs.Table.{cut_marks, table_of, header_of, rows_of, first_record}
use Rattle.tables.proofs.Marks.{cut_marks-le}
use Rattle.tables.proofs.Whole.{records_le}

-- a file has no more records than bytes
pub table_of-le : (bytes : List ℕ) → length (table_of bytes) ≤ length bytes
unfolding table_of
table_of-le bytes = omega (arith, records_le default_config (length (cut_marks bytes) + 1) st.StartRecord (cut_marks bytes) refl, cut_marks-le bytes)

pub length-rows_of : (bytes : List ℕ) → length (rows_of bytes) ≡ length (table_of bytes) - 1
unfolding rows_of
length-rows_of bytes = length-drop 1 (table_of bytes)

-- one read of a table gives its header and leaves its rows
first-read : (found : Bool) (table rest : List (List (List ℕ))) (fields : List (List ℕ))
    → MatchBool found (table ≡ fields ∷ rest) ((table ≡ []) × (rest ≡ []) × (fields ≡ []))
    → (fields ≡ first_record table) × (rest ≡ drop 1 table)
first-read true table rest fields h = rw h (refl, refl)
first-read false table rest fields h = rw (h.0, h.1, h.2) (refl, refl)

pub read_header : (bytes : List ℕ) (found : Bool) (table rest : List (List (List ℕ))) (fields : List (List ℕ)) → table ≡ table_of bytes
    → MatchBool found (table ≡ fields ∷ rest) ((table ≡ []) × (rest ≡ []) × (fields ≡ []))
    → (fields ≡ header_of bytes) × (rest ≡ rows_of bytes)
unfolding header_of rows_of
read_header bytes found table rest fields e h = rw (← e) (first-read found table rest fields h)
