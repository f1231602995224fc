-- Searches and openings of one query after another.
use Rattle.std.proofs.Common.{◌≡◌, ◌∙◌, ℕ, ◌+◌, ◌*◌, ◌++◌, ◌<◌, ◌≤◌, List, [], ◌∷◌, length, take, get_or, sym, ap, subst}
use Rattle.std.proofs.lemmas.List.{take_more}
use Rattle.move_model.specs.declared.query.Place.{Place}
use Rattle.move_model.specs.declared.query.Query.{Query}
use Rattle.move_model.specs.declared.query.Query.TheVariants as query
use Rattle.query_table.specs.Queries.{IsQuery}
use Rattle.compiled_laws.proofs.Rows.{first_holds}
use Rattle.network_file.specs.declared.compiled.Compiled.{Compiled}
use Rattle.network_answers.specs.Point.{IsSearched}
use Rattle.network_answers.proofs.PairLaws.{pairs_exact}
use Rattle.range_answers.specs.Range.{IsSearchedWithin, IsOpenedWithin}
use Rattle.answer_rows.specs.Counted.{CountsEach, IsSearchedFor, IsOpenedFor}
use Rattle.answer_rows.specs.Counted.CountsEach.{none, next}
use Rattle.answer_rows.proofs.RangeLaws.{range_listed}

pub point_searched : (c : Compiled) (from to : Place) (depart limit before after : ℕ) → IsQuery c.network (query.At from to depart limit)
    → IsSearched c from.node depart to.node limit before after → IsSearchedFor c (query.At from to depart limit) before after
point_searched c from to depart limit before after asks is = record {
  listed = is;
  exact = λ right. (is.pairs, pairs_exact c from.node depart to.node limit is.pairs right asks.0 asks.1 is.are, is.few);
}

pub range_searched : (c : Compiled) (from to : Place) (first last limit before after : ℕ) → IsQuery c.network (query.Range from to first last limit)
    → IsSearchedWithin c from.node to.node limit first last before after → IsSearchedFor c (query.Range from to first last limit) before after
range_searched c from to first last limit before after asks is = record {
  listed = is;
  exact = λ right profile range. is.few profile (range_listed c right from.node to.node asks.0 asks.1 is.sums is.least limit first last profile range);
}

pub point_opened : (c : Compiled) (from to : Place) (depart limit before after : ℕ) → after ≤ before + limit * length c.table.routes
    → IsOpenedFor c (query.At from to depart limit) before after
point_opened c from to depart limit before after few = record { listed = few; exact = λ right. few }

pub range_opened : (c : Compiled) (from to : Place) (first last limit before after : ℕ) → IsQuery c.network (query.Range from to first last limit)
    → IsOpenedWithin c from.node to.node limit first last before after → IsOpenedFor c (query.Range from to first last limit) before after
range_opened c from to first last limit before after asks is = record {
  listed = is;
  exact = λ right. record {
    row = is.sums.first;
    holds = first_holds c right from.node to.node asks.0 asks.1 is.sums is.least;
    few = is.few;
  };
}

module _ (Counts : Query → ℕ → ℕ → Type 0) where
  counted_more : {queries : List Query} {before between : ℕ} (q : Query) (after : ℕ) → CountsEach Counts queries before between
      → Counts q between after → CountsEach Counts (queries ++ q ∷ []) before after
  counted_more q after none is = next is none
  counted_more q after (next one further) is = next one (counted_more q after further is)

  pub one_counted : (queries : List Query) (i : ℕ) (q : Query) (before between after : ℕ) → i < length queries → q ≡ get_or queries i q
      → CountsEach Counts (take i queries) before between → Counts q between after → CountsEach Counts (take (i + 1) queries) before after
  one_counted queries i q before between after within is_query so_far is =
      let taken : take (i + 1) queries ≡ take i queries ++ q ∷ [] = take_more queries i q within ∙ ap (λ (x : Query). take i queries ++ x ∷ []) (sym is_query) in
      subst (λ (qs : List Query). CountsEach Counts qs before after) (sym taken) (counted_more q after so_far is)
