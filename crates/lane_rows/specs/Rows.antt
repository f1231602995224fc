-- Rows of seconds, one for each trip of a route: when the trips leave or reach one of its stops.
--     count_below row r          how many entries of the row are less than r
--     entry_or_never row p       the entry at place p, or NEVER past the last
--     NeverFalls row             no entry is less than one before it
--     IsFirstFrom row r p        p is the least place whose entry is at least r, or the length where there is none
use Rattle.std.specs.Prelude.{ℕ, ◌<◌, ◌≤◌, List, length, nat_lt, count_by, slice_index, slice_index_or}

abbrev pub count_below : List ℕ → ℕ → ℕ
count_below row r = count_by (λ x. nat_lt x r) row

abbrev pub entry_or_never : List ℕ → ℕ → ℕ
entry_or_never row place = slice_index_or row place 4294967295

abbrev pub NeverFalls : List ℕ → Type 0
NeverFalls row = (i k : ℕ) → i ≤ k → k < length row → slice_index row i ≤ slice_index row k

pub record IsFirstFrom (row : List ℕ) (r place : ℕ) : Type 0 where
  pub before : (k : ℕ) → k < place → slice_index row k < r
  pub there : place < length row → r ≤ slice_index row place
  pub within : place ≤ length row
