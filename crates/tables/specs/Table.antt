-- The table of a file's bytes.
--     table_of bytes             the records, each the list of its fields
--     header_of, rows_of         the first record, and those after it, which are numbered from 1
--     row_at rows i              the row at a place from 0
--     trimmed text               the text without the spaces and tabs at its ends
--     column_of name header      the place of the first column with this name
--     cell column row            the trimmed value of a row in a column
--     missing_broken k column    the cause of a required column, the k-th of its file, that is missing
use Rattle.std.specs.Prelude.{ℕ, ◌-◌, Bool, List, [], ◌∷◌, take, drop, length, slice_index_or, position, Option, Some, None, ◌==◌, ◌||◌, if◌then◌else◌}
use Rattle.std.specs.List.{prefix_len, suffix_len}
use Rattle.std.specs.Str.{bytes_eq}
use Rattle.csv.specs.Reading.{default_config, records, is_bom}
use Rattle.move_model.specs.declared.refusal.Cause.{Cause}
use Rattle.move_model.specs.declared.refusal.Cause.TheVariants as cause

-- the bytes without the mark EF BB BF, as often as it stands at their start
unfoldable pub cut_marks : List ℕ → List ℕ
cut_marks [] = []
cut_marks (a ∷ []) = a ∷ []
cut_marks (a ∷ b ∷ []) = a ∷ b ∷ []
cut_marks (a ∷ b ∷ c ∷ rest) = if is_bom a b c then cut_marks rest else a ∷ b ∷ c ∷ rest

-- the records that `csv` reads from the other bytes by its defaults, of any numbers of fields, with no record taken as names
unfoldable pub table_of : List ℕ → List (List (List ℕ))
table_of bytes = records default_config (cut_marks bytes)

-- the first record; a file without a record has no field in its header
abbrev pub first_record : List (List (List ℕ)) → List (List ℕ)
first_record [] = []
first_record (first ∷ others) = first

unfoldable pub header_of : List ℕ → List (List ℕ)
header_of bytes = first_record (table_of bytes)

-- the records behind the header
unfoldable pub rows_of : List ℕ → List (List (List ℕ))
rows_of bytes = drop 1 (table_of bytes)

-- the row at a place from 0, one below its number
abbrev pub row_at : List (List (List ℕ)) → ℕ → List (List ℕ)
row_at rows i = slice_index_or rows i []

-- a line feed or a carriage return, at which a record may end
abbrev pub is_line_end : ℕ → Bool
is_line_end c = (c == 10) || (c == 13)

-- a space or a tab
abbrev pub is_blank : ℕ → Bool
is_blank c = (c == 32) || (c == 9)

unfoldable pub cut_front : List ℕ → List ℕ
cut_front text = drop (prefix_len is_blank text) text

unfoldable pub cut_back : List ℕ → List ℕ
cut_back text = take (length text - suffix_len is_blank text) text

unfoldable pub trimmed : List ℕ → List ℕ
trimmed text = cut_back (cut_front text)

-- of two columns with one name the first counts
unfoldable pub column_of : List ℕ → List (List ℕ) → Option ℕ
column_of name header = position (λ field. bytes_eq (trimmed field) name) header

-- the value at a place of a row, which is empty past the row's fields
abbrev pub cell_at : ℕ → List (List ℕ) → List ℕ
cell_at place row = trimmed (slice_index_or row place [])

-- the value of a column, which is empty in every row where the file has no such column
abbrev pub cell : Option ℕ → List (List ℕ) → List ℕ
cell None row = []
cell (Some place) row = cell_at place row

-- a required column is there
unfoldable pub missing_broken : ℕ → Option ℕ → Option Cause
missing_broken k None = Some (cause.NoColumn k)
missing_broken k (Some place) = None
