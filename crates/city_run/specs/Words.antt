-- The words of a city.
--     number_between least most text   the whole number of a range that the text is, or None
--     city_of side lines number        the numbers that the words SIDE, LINES and NUMBER are, or None
use Rattle.std.specs.Prelude.{ℕ, List, Option, Some, None, option_and_then, if◌then◌else◌}
use Rattle.tables.specs.Values.{is_within, number_in, number_of}
use Rattle.city_run.specs.declared.words.CityWords.{CityWords}

abbrev pub number_between : ℕ → ℕ → List ℕ → Option ℕ
number_between least most text = if is_within least most text then Some (number_in text) else None

infixl 10 ◌>>=◌
abbrev ◌>>=◌ : {A B : Type 0} → Option A → (A → Option B) → Option B
o >>= f = option_and_then f o

-- 5 to 200 rows and columns, at most 200 lines, and a number below 2 ^ 64
unfoldable pub city_of : List ℕ → List ℕ → List ℕ → Option CityWords
city_of side_word lines_word number_word = do
  side ← number_between 5 200 side_word
  lines ← number_between 0 200 lines_word
  number ← number_of number_word
  Some (record { side = side; lines = lines; number = number })
