-- The rows of queries, and what an answer sends. `Answers q a` is the rule that the answer to a query keeps, as that it is the
-- answer of a compiled value, or the exact one of a network.
--     records_of k n q a                  the records of the answer a to the query q, which has number k
--     AreRows n Answers k q text          the text of the rows of query number k
--     AreRowsFrom n Answers k queries text    the text of the rows of queries that are numbered from k on
--     IsPrinted n Answers queries text    the text of the header and of the rows of all queries, in their order
--     PrintsAll n Answers queries old new     behind the old bytes stands such a text
--     PrintsPart n Answers queries old new    behind the old bytes stands a prefix of such a text for the first queries
use Rattle.std.specs.Prelude.{◌≡◌, ◌+◌, ◌++◌, ℕ, List, [], ◌∷◌, take}
use Rattle.move_model.specs.declared.network.Network.{Network}
use Rattle.move_model.specs.declared.query.Query.{Query}
use Rattle.move_model.specs.declared.query.Query.TheVariants as query
use Rattle.move_files.specs.Outside.{SendsPrefix}
use Rattle.journey_print.specs.Records.{header_record, point_records, record_text, records_text}
use Rattle.range_print.specs.Rows.{range_records}
use Rattle.answer_rows.specs.Answer.{Answer}
use Rattle.answer_rows.specs.Answer.Answer.{point, range}

-- the answer to a query is of its kind
abbrev pub records_of : ℕ → Network → Query → Answer → List (List (List ℕ))
records_of number n (query.At from to depart limit) (point found) =
    point_records number n (record { from = from; to = to; depart = depart; found = found }) found
records_of number n (query.At from to depart limit) (range foot spans) = []
records_of number n (query.Range from to first last limit) (point found) = []
records_of number n (query.Range from to first last limit) (range foot spans) =
    range_records number n (record { from = from; to = to; first = first; last = last; foot = foot; spans = spans })

pub record AreRows (n : Network) (Answers : Query → Answer → Type 0) (number : ℕ) (q : Query) (text : List ℕ) : Type 0 where
  pub answer : Answer
  pub answers : Answers q answer
  pub text_is : text ≡ records_text (records_of number n q answer)

pub data AreRowsFrom (n : Network) (Answers : Query → Answer → Type 0) : ℕ → List Query → List ℕ → Type 0 where
  none : {number : ℕ} → AreRowsFrom n Answers number [] []
  next : {number : ℕ} {q : Query} {queries : List Query} (rows rest : List ℕ) → AreRows n Answers number q rows
      → AreRowsFrom n Answers (number + 1) queries rest → AreRowsFrom n Answers number (q ∷ queries) (rows ++ rest)

-- the queries are numbered from 1
pub record IsPrinted (n : Network) (Answers : Query → Answer → Type 0) (queries : List Query) (text : List ℕ) : Type 0 where
  pub rows : List ℕ
  pub are_rows : AreRowsFrom n Answers 1 queries rows
  pub behind_header : text ≡ record_text header_record ++ rows

pub record PrintsAll (n : Network) (Answers : Query → Answer → Type 0) (queries : List Query) (old new : List ℕ) : Type 0 where
  pub text : List ℕ
  pub printed : IsPrinted n Answers queries text
  pub sent : new ≡ old ++ text

-- so nothing is said of the queries that were not come to
pub record PrintsPart (n : Network) (Answers : Query → Answer → Type 0) (queries : List Query) (old new : List ℕ) : Type 0 where
  pub many : ℕ
  pub text : List ℕ
  pub printed : IsPrinted n Answers (take many queries) text
  pub sent : SendsPrefix old text new
