-- What follows where the rule of answers, or that of a count, gives a weaker one.
use Rattle.std.proofs.Common.{ℕ, List}
use Rattle.move_model.specs.declared.network.Network.{Network}
use Rattle.move_model.specs.declared.query.Query.{Query}
use Rattle.answer_rows.specs.Answer.{Answer}
use Rattle.answer_rows.specs.Printed.{AreRows, AreRowsFrom, PrintsAll, PrintsPart}
use Rattle.answer_rows.specs.Printed.AreRowsFrom.{none as no_rows, next as rows_next}
use Rattle.answer_rows.specs.Counted.{CountsEach, CountsFirst}
use Rattle.answer_rows.specs.Counted.CountsEach.{none as no_query, next as query_next}

module _ (n : Network) (P Q : Query → Answer → Type 0) (gives : (q : Query) (answer : Answer) → P q answer → Q q answer) where
  rows_weaker : (number : ℕ) (q : Query) (text : List ℕ) → AreRows n P number q text → AreRows n Q number q text
  rows_weaker number q text is = record { answer = is.answer; answers = gives q is.answer is.answers; text_is = is.text_is }

  all_weaker : {number : ℕ} {queries : List Query} {text : List ℕ} → AreRowsFrom n P number queries text → AreRowsFrom n Q number queries text
  all_weaker no_rows = no_rows
  all_weaker (rows_next {number = number} {q = q} text rest one further) = rows_next text rest (rows_weaker number q text one) (all_weaker further)

  pub PrintsAll-weaker : (queries : List Query) (old new : List ℕ) → PrintsAll n P queries old new → PrintsAll n Q queries old new
  PrintsAll-weaker queries old new is = record {
    text = is.text;
    printed = record { rows = is.printed.rows; are_rows = all_weaker is.printed.are_rows; behind_header = is.printed.behind_header };
    sent = is.sent;
  }

  pub PrintsPart-weaker : (queries : List Query) (old new : List ℕ) → PrintsPart n P queries old new → PrintsPart n Q queries old new
  PrintsPart-weaker queries old new is = record {
    many = is.many;
    text = is.text;
    printed = record { rows = is.printed.rows; are_rows = all_weaker is.printed.are_rows; behind_header = is.printed.behind_header };
    sent = is.sent;
  }

module _ (P Q : Query → ℕ → ℕ → Type 0) (gives : (q : Query) (before after : ℕ) → P q before after → Q q before after) where
  each_weaker : {queries : List Query} {before after : ℕ} → CountsEach P queries before after → CountsEach Q queries before after
  each_weaker no_query = no_query
  each_weaker (query_next {q = q} {before = before} {between = between} one further) = query_next (gives q before between one) (each_weaker further)

  pub CountsFirst-weaker : (queries : List Query) (before after : ℕ) → CountsFirst P queries before after → CountsFirst Q queries before after
  CountsFirst-weaker queries before after (many, is) = (many, each_weaker is)
