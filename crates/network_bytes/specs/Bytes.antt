-- Numbers, names and lists as bytes.
--     word n                 a number below 2 ^ 32 in four bytes, the highest first
--     long n                 a number below 2 ^ 64 in eight bytes, the highest first
--     name_form name         one byte of length, and that many bytes
--     short_list form xs     the number of items as a word, and the form of each
--     long_list form xs      the same with the number as a long one
use Rattle.std.specs.Prelude.{ℕ, ◌++◌, ◌∷◌, List, length}
use Rattle.std.specs.List.{flat_map}
use Rattle.std.specs.Int.{w32, w64, to_be_bytes}

unfoldable pub word : ℕ → List ℕ
word n = to_be_bytes w32 n

unfoldable pub long : ℕ → List ℕ
long n = to_be_bytes w64 n

abbrev pub name_form : List ℕ → List ℕ
name_form name = length name ∷ name

abbrev pub short_list : {X : Type 0} → (X → List ℕ) → List X → List ℕ
short_list form xs = word (length xs) ++ flat_map form xs

abbrev pub long_list : {X : Type 0} → (X → List ℕ) → List X → List ℕ
long_list form xs = long (length xs) ++ flat_map form xs
