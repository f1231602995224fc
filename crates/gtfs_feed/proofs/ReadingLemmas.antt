-- One row more of a file.
use Rattle.std.proofs.Common.{◌≡◌, ◌∙◌, ℕ, suc, ◌+◌, ◌≤◌, List, [], ◌∷◌, length, drop, refl, sym, ap, arith}
use Rattle.std.proofs.lemmas.List.{length-drop, drop-drop, get_or-drop}
use Rattle.tables.specs.Table.{row_at}

pub behind-more : (rows : List (List (List ℕ))) (n : ℕ) (row : List (List ℕ)) (rest : List (List (List ℕ))) → drop n rows ≡ row ∷ rest → rest ≡ drop (n + 1) rows
behind-more rows n row rest e = sym (sym (drop-drop 1 n rows) ∙ ap (drop 1) e)

pub at-end : (rows : List (List (List ℕ))) (n : ℕ) → drop n rows ≡ [] → n ≤ length rows → length rows ≡ n
at-end rows n e le = let l = length-drop n rows in let z : length (drop n rows) ≡ 0 = rw e refl in omega (arith, l, z, le)

pub not-past : (rows : List (List (List ℕ))) (n : ℕ) (row : List (List ℕ)) (rest : List (List (List ℕ))) → drop n rows ≡ row ∷ rest → n + 1 ≤ length rows
not-past rows n row rest e = let l = length-drop n rows in let z : length (drop n rows) ≡ suc (length rest) = rw e refl in omega (arith, l, z)

pub here : (rows : List (List (List ℕ))) (n : ℕ) (row : List (List ℕ)) (rest : List (List (List ℕ))) → drop n rows ≡ row ∷ rest → row ≡ row_at rows n
here rows n row rest e =
    let z : n + 0 ≡ n = omega arith in
    let first = get_or-drop n rows 0 [] in
    rw (e, z) at first
