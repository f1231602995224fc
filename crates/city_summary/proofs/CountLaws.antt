-- How much is searched and opened by a right value.
use Rattle.std.proofs.Common.{ℕ, length}
use Rattle.move_model.specs.declared.query.Place.{Place}
use Rattle.move_model.specs.declared.query.Query.TheVariants as query
use Rattle.network_file.specs.declared.compiled.Compiled.{Compiled}
use Rattle.network_file.specs.Compiled.{IsRight}
use Rattle.compiled_laws.proofs.Rows.{first_holds}
use Rattle.network_answers.specs.Point.{IsSearched}
use Rattle.network_answers.proofs.PairLaws.{pairs_exact}
use Rattle.range_answers.specs.Range as cost
use Rattle.city_maker.specs.Asked.{IsAsked}
use Rattle.answer_rows.proofs.RangeLaws.{range_listed}
use Rattle.answer_rows.specs.Counted.{IsSearchedOver, IsOpenedOver}

pub point_searched : (c : Compiled) (from to : Place) (depart limit before after : ℕ) → IsRight c → IsAsked c.network (query.At from to depart limit)
    → IsSearched c from.node depart to.node limit before after → IsSearchedOver c.network (query.At from to depart limit) before after
point_searched c from to depart limit before after right asked is =
    (is.pairs, pairs_exact c from.node depart to.node limit is.pairs right asked.0 asked.1 is.are, is.few)

pub range_searched : (c : Compiled) (from to : Place) (first last limit before after : ℕ) → IsRight c → IsAsked c.network (query.Range from to first last limit)
    → cost.IsSearchedWithin c from.node to.node limit first last before after → IsSearchedOver c.network (query.Range from to first last limit) before after
range_searched c from to first last limit before after right asked is =
    λ profile range. is.few profile (range_listed c right from.node to.node asked.0 asked.1 is.sums is.least limit first last profile range)

pub range_opened : (c : Compiled) (from to : Place) (first last limit before after : ℕ) → IsRight c → IsAsked c.network (query.Range from to first last limit)
    → cost.IsOpenedWithin c from.node to.node limit first last before after
    → IsOpenedOver c.network (length c.table.routes) (query.Range from to first last limit) before after
range_opened c from to first last limit before after right asked is =
    record { row = is.sums.first; holds = first_holds c right from.node to.node asked.0 asked.1 is.sums is.least; few = is.few }
