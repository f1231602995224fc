-- Rows that are read one at a time: those behind the first k are what a reader has left.
use Rattle.std.proofs.Common.{◌≡◌, ◌∙◌, ◌+◌, ◌<◌, ◌≤◌, ℕ, List, [], ◌∷◌, length, get_or, drop, Bool, true, false, sym, ap, arith}
use Rattle.std.specs.Bool.{MatchBool}
use Rattle.std.proofs.lemmas.List.{length-drop, drop_more}
use Rattle.tables.specs.Table.{row_at}

-- a row that was read is the next, and those behind it are left
pub read_row : (rows rest : List (List (List ℕ))) (k : ℕ) (row : List (List ℕ)) → drop k rows ≡ row ∷ rest
    → (k < length rows) × (row_at rows k ≡ row) × (drop (k + 1) rows ≡ rest)
read_row rows rest k row e =
    let lt : k < length rows = omega (arith, length-drop k rows, ap length e) in
    let split : get_or rows k [] ∷ drop (k + 1) rows ≡ row ∷ rest = sym (drop_more rows k [] lt) ∙ e in
    (lt, cc split, cc split)

-- where no row is left, all were read
pub read_all : (rows : List (List (List ℕ))) (k : ℕ) → drop k rows ≡ [] → length rows ≤ k
read_all rows k e = omega (arith, length-drop k rows, ap length e)

-- the same, by what a read says
pub next_read : (found : Bool) (rows left rest : List (List (List ℕ))) (k : ℕ) (row : List (List ℕ)) → found ≡ true → left ≡ drop k rows
    → MatchBool found (left ≡ row ∷ rest) ((left ≡ []) × (rest ≡ []) × (row ≡ []))
    → (k < length rows) × (row_at rows k ≡ row) × (rest ≡ drop (k + 1) rows)
next_read true rows left rest k row e so_far reads =
    let r = read_row rows rest k row (sym so_far ∙ reads) in
    (r.0, r.1, sym r.2)
next_read false rows left rest k row e so_far reads = cc e

pub last_read : (found : Bool) (rows left rest : List (List (List ℕ))) (k : ℕ) (row : List (List ℕ)) → found ≡ false → left ≡ drop k rows
    → MatchBool found (left ≡ row ∷ rest) ((left ≡ []) × (rest ≡ []) × (row ≡ []))
    → length rows ≤ k
last_read true rows left rest k row e so_far reads = cc e
last_read false rows left rest k row e so_far reads = read_all rows k (sym so_far ∙ reads.0)
