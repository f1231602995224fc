-- The memory that queries need.
--     point_limit_of q           the greatest number of rides of a point query, and 0 of a range
--     range_limit_of q           the greatest number of rides of a range, and 0 of a point query
--     HasRoom c works q          the memory is for the value c and the query, and the index tells c's least arcs
use Rattle.std.specs.Prelude.{ℕ}
use Rattle.move_model.specs.declared.query.Query.{Query}
use Rattle.move_model.specs.declared.query.Query.TheVariants as query
use Rattle.journey_print.specs.Arcs.{TellsLeastArcs}
use Rattle.network_file.specs.declared.compiled.Compiled.{Compiled}
use Rattle.network_answers.specs.Point.{IsRoomFor as IsRoomForPoint}
use Rattle.range_answers.specs.Range.{IsRoomFor as IsRoomForRange}
use Rattle.answer_rows.specs.declared.works.Works.{Works}

abbrev pub point_limit_of : Query → ℕ
point_limit_of (query.At from to depart limit) = limit
point_limit_of (query.Range from to first last limit) = 0

abbrev pub range_limit_of : Query → ℕ
range_limit_of (query.At from to depart limit) = 0
range_limit_of (query.Range from to first last limit) = limit

abbrev pub HasRoom : Compiled → Works → Query → Type 0
HasRoom c works (query.At from to depart limit) = IsRoomForPoint c limit works.point × TellsLeastArcs works.arcs c.network.arcs
HasRoom c works (query.Range from to first last limit) = IsRoomForRange c limit works.range × TellsLeastArcs works.arcs c.network.arcs
