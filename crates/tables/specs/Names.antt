-- Names, each once, in the order in which they came.
--     place_of name names     the place of the first equal name, or None where there is none
use Rattle.std.specs.Prelude.{ℕ, List, position, Option}
use Rattle.std.specs.Str.{bytes_eq}

abbrev pub place_of : List ℕ → List (List ℕ) → Option ℕ
place_of name names = position (bytes_eq name) names
