-- Rows of one query after another.
use Rattle.std.proofs.Common.{◌≡◌, ◌∙◌, ℕ, ◌+◌, ◌++◌, ◌<◌, List, [], ◌∷◌, length, take, get_or, refl, sym, ap, subst, arith, append_assoc, append-nil, take_all, inl, inr}
use Rattle.std.proofs.Math.Seq.{take-append-add}
use Rattle.std.proofs.lemmas.List.{take_more, length-take-le}
use Rattle.move_model.specs.declared.network.Network.{Network}
use Rattle.move_model.specs.declared.query.Place.{Place}
use Rattle.move_model.specs.declared.query.Query.{Query}
use Rattle.move_model.specs.declared.query.Query.TheVariants as query
use Rattle.move_files.specs.Outside.{SendsPrefix}
use Rattle.journey_print.specs.declared.answer.PointAnswer.{PointAnswer}
use Rattle.journey_print.specs.Records.{header_record, point_records, record_text, records_text}
use Rattle.range_print.specs.declared.answer.RangeAnswer.{RangeAnswer}
use Rattle.range_print.specs.Rows.{range_records}
use Rattle.query_table.specs.Queries.{IsQuery}
use Rattle.compiled_laws.proofs.Points.{point_exact}
use Rattle.compiled_laws.proofs.Ranges.{range_exact}
use Rattle.compiled_laws.proofs.Transfers.{point_transfers, range_transfers}
use Rattle.network_file.specs.declared.compiled.Compiled.{Compiled}
use Rattle.network_file.specs.Answers.{IsListedPoint, IsListedSpans}
use Rattle.answer_rows.specs.Answer.{Answer, IsAnswerOf}
use Rattle.answer_rows.specs.Answer.Answer.{point, range}
use Rattle.answer_rows.specs.Printed.{AreRows, AreRowsFrom, PrintsAll, PrintsPart}
use Rattle.answer_rows.specs.Printed.AreRowsFrom.{none, next}
use Rattle.answer_rows.specs.Sent.{SendsQuery, SendsPartOfQuery, SendsQueries, SendsFirst}

pub point_rows : (c : Compiled) (number : ℕ) (from to : Place) (depart limit : ℕ) (answer : PointAnswer) → IsQuery c.network (query.At from to depart limit)
    → answer ≡ record { from = from; to = to; depart = depart; found = answer.found }
    → IsListedPoint c from.node depart to.node limit answer.found
    → AreRows c.network (IsAnswerOf c) number (query.At from to depart limit) (records_text (point_records number c.network answer answer.found))
point_rows c number from to depart limit answer asks asked is = record {
  answer = point answer.found;
  answers = record {
    listed = is;
    transfers = point_transfers c from.node to.node depart limit answer.found is;
    exact = λ right. point_exact c from.node to.node depart limit answer.found right asks.0 asks.1 is;
  };
  text_is = ap (λ (a : PointAnswer). records_text (point_records number c.network a answer.found)) asked;
}

pub range_rows : (c : Compiled) (number : ℕ) (from to : Place) (first last limit : ℕ) (answer : RangeAnswer) → IsQuery c.network (query.Range from to first last limit)
    → answer ≡ record { from = from; to = to; first = first; last = last; foot = answer.foot; spans = answer.spans }
    → IsListedSpans c from.node to.node limit first last answer.foot answer.spans
    → AreRows c.network (IsAnswerOf c) number (query.Range from to first last limit) (records_text (range_records number c.network answer))
range_rows c number from to first last limit answer asks asked is = record {
  answer = range answer.foot answer.spans;
  answers = record {
    listed = is;
    transfers = range_transfers c from.node to.node limit first last answer.foot answer.spans is;
    exact = λ right. range_exact c from.node to.node limit first last answer.foot answer.spans right asks.0 asks.1 is;
  };
  text_is = ap (λ (a : RangeAnswer). records_text (range_records number c.network a)) asked;
}

rows_more : {n : Network} {Answers : Query → Answer → Type 0} {number : ℕ} {queries : List Query} {text : List ℕ} (query : Query) (rows : List ℕ) (at : ℕ)
    → AreRowsFrom n Answers number queries text → at ≡ number + length queries → AreRows n Answers at query rows
    → AreRowsFrom n Answers number (queries ++ query ∷ []) (text ++ rows)
rows_more {n} {Answers} {number} query rows at none e is =
    let same : at ≡ number = omega (arith, e) in
    subst (λ (text : List ℕ). AreRowsFrom n Answers number (query ∷ []) text) (append-nil rows)
    (next rows [] (subst (λ (k : ℕ). AreRows n Answers k query rows) same is) none)
rows_more {n} {Answers} {number} query rows at (next {q = first} {queries = queries} before rest one further) e is =
    subst (λ (text : List ℕ). AreRowsFrom n Answers number (first ∷ (queries ++ query ∷ [])) text) (sym (append_assoc before rest rows))
    (next before (rest ++ rows) one (rows_more query rows at further (omega (arith, e)) is))

-- a prefix of what stands behind other bytes
prefix_behind : (old first mid rest new : List ℕ) → mid ≡ old ++ first → SendsPrefix mid rest new → SendsPrefix old (first ++ rest) new
prefix_behind old first mid rest new there (k, is) =
    (length first + k, is ∙ (ap (λ ws. ws ++ take k rest) there ∙ (append_assoc old first (take k rest) ∙ ap (λ ws. old ++ ws) (sym (take-append-add first rest k)))))

whole_prefix : (old bytes new : List ℕ) → new ≡ old ++ bytes → SendsPrefix old bytes new
whole_prefix old bytes new is = (length bytes, is ∙ ap (λ ws. old ++ ws) (sym (take_all (length bytes) bytes (omega arith))))

module _ (c : Compiled) (queries : List Query) where
  module _ (i at : ℕ) (query : Query) (old mid new : List ℕ) (within : i < length queries)
      (is_query : query ≡ get_or queries i query) (numbered : at ≡ i + 1) (so_far : SendsQueries c (take i queries) old mid) where
    more_rows : (rows : List ℕ) → AreRows c.network (IsAnswerOf c) at query rows
        → AreRowsFrom c.network (IsAnswerOf c) 1 (take (i + 1) queries) (so_far.0 ++ rows)
    more_rows rows is =
        let there : take (i + 1) queries ≡ take i queries ++ query ∷ [] = take_more queries i query within ∙ ap (λ (q : Query). take i queries ++ q ∷ []) (sym is_query) in
        subst (λ (qs : List Query). AreRowsFrom c.network (IsAnswerOf c) 1 qs (so_far.0 ++ rows)) (sym there)
        (rows_more query rows at so_far.1 (omega (arith, numbered, length-take-le i queries (omega arith))) is)

    pub one_more : SendsQuery c at query mid new → SendsQueries c (take (i + 1) queries) old new
    one_more (rows, is, sent) =
        (so_far.0 ++ rows, more_rows rows is, sent ∙ (ap (λ ws. ws ++ rows) so_far.2 ∙ append_assoc old so_far.0 rows))

    pub part_more : SendsPartOfQuery c at query mid new → SendsFirst c queries old new
    part_more (inl same) = (i, so_far.0, so_far.1, whole_prefix old so_far.0 new (same ∙ so_far.2))
    part_more (inr (rows, is, sent)) =
        (i + 1, so_far.0 ++ rows, more_rows rows is, prefix_behind old so_far.0 mid rows new so_far.2 sent)

  -- behind the header row
  pub all_printed : (old mid new : List ℕ) → mid ≡ old ++ record_text header_record
      → SendsQueries c queries mid new → PrintsAll c.network (IsAnswerOf c) queries old new
  all_printed old mid new there (rows, are, sent) =
      record {
        text = record_text header_record ++ rows;
        printed = record { rows = rows; are_rows = are; behind_header = refl };
        sent = sent ∙ (ap (λ ws. ws ++ rows) there ∙ append_assoc old (record_text header_record) rows);
      }

  pub part_printed : (old mid new : List ℕ) → mid ≡ old ++ record_text header_record
      → SendsFirst c queries mid new → PrintsPart c.network (IsAnswerOf c) queries old new
  part_printed old mid new there (many, rows, are, sent) =
      record {
        many = many;
        text = record_text header_record ++ rows;
        printed = record { rows = rows; are_rows = are; behind_header = refl };
        sent = prefix_behind old (record_text header_record) mid rows new there sent;
      }

  pub part_of_header : (old new : List ℕ) → SendsPrefix old (record_text header_record) new → PrintsPart c.network (IsAnswerOf c) queries old new
  part_of_header old new sent =
      record {
        many = 0;
        text = record_text header_record;
        printed = record { rows = []; are_rows = none; behind_header = sym (append-nil (record_text header_record)) };
        sent = sent;
      }

  pub nothing_printed : (old : List ℕ) → PrintsPart c.network (IsAnswerOf c) queries old old
  nothing_printed old = part_of_header old old (0, sym (append-nil old))
