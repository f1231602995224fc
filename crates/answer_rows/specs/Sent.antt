-- What the parts of an answer send.
--     SendsQuery c k q old new         behind the old bytes stands the text of the rows of query number k
--     SendsPartOfQuery c k q old new   behind the old bytes stands a prefix of such a text, or nothing
--     SendsQueries c queries old new   behind the old bytes stands the text of the rows of the queries
--     SendsFirst c queries old new     behind the old bytes stands a prefix of such a text for the first queries
use Rattle.std.specs.Prelude.{◌≡◌, ◌++◌, ◌⊎◌, ℕ, List, take}
use Rattle.move_model.specs.declared.query.Query.{Query}
use Rattle.move_files.specs.Outside.{SendsPrefix}
use Rattle.network_file.specs.declared.compiled.Compiled.{Compiled}
use Rattle.answer_rows.specs.Answer.{IsAnswerOf}
use Rattle.answer_rows.specs.Printed.{AreRows, AreRowsFrom}

abbrev pub SendsQuery : Compiled → ℕ → Query → List ℕ → List ℕ → Type 0
SendsQuery c number q old new = (rows : List ℕ) × AreRows c.network (IsAnswerOf c) number q rows × (new ≡ old ++ rows)

abbrev pub SendsPartOfQuery : Compiled → ℕ → Query → List ℕ → List ℕ → Type 0
SendsPartOfQuery c number q old new =
    (new ≡ old) ⊎ ((rows : List ℕ) × AreRows c.network (IsAnswerOf c) number q rows × SendsPrefix old rows new)

abbrev pub SendsQueries : Compiled → List Query → List ℕ → List ℕ → Type 0
SendsQueries c queries old new = (rows : List ℕ) × AreRowsFrom c.network (IsAnswerOf c) 1 queries rows × (new ≡ old ++ rows)

abbrev pub SendsFirst : Compiled → List Query → List ℕ → List ℕ → Type 0
SendsFirst c queries old new =
    (many : ℕ) × (rows : List ℕ) × AreRowsFrom c.network (IsAnswerOf c) 1 (take many queries) rows × SendsPrefix old rows new
