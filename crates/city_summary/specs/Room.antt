-- For which queries the memory of answers was taken.
--     limit_of query             the query's greatest number of rides
--     HasRoom c limit works      the memory is for answers of c with at most so many rides
use Rattle.std.specs.Prelude.{ℕ}
use Rattle.move_model.specs.declared.query.Query.{Query}
use Rattle.move_model.specs.declared.query.Query.TheVariants as query
use Rattle.network_file.specs.declared.compiled.Compiled.{Compiled}
use Rattle.network_answers.specs.Point as point
use Rattle.range_answers.specs.Range as range
use Rattle.city_summary.specs.declared.works.Works.{Works}

abbrev pub limit_of : Query → ℕ
limit_of (query.At from to depart limit) = limit
limit_of (query.Range from to first last limit) = limit

pub record HasRoom (c : Compiled) (limit : ℕ) (works : Works) : Type 0 where
  pub points : point.IsRoomFor c limit works.points
  pub ranges : range.IsRoomFor c limit works.ranges
