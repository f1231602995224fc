-- Memory for the greatest limits is memory for each query.
use Rattle.std.proofs.Common.{◌≡◌, ℕ, ◌≤◌, List, length, get_or, arith, ap}
use Rattle.std.specs.Prelude.{All}
use Rattle.move_model.specs.declared.query.Query.{Query}
use Rattle.move_model.specs.declared.query.Query.TheVariants as query
use Rattle.journey_print.specs.Arcs.{TellsLeastArcs}
use Rattle.network_file.specs.declared.compiled.Compiled.{Compiled}
use Rattle.network_answers.specs.Point.{Room, IsRoomFor as IsRoomForPoint}
use Rattle.range_answers.specs.Range.{IsRoomFor as IsRoomForRange}
use Rattle.range_answers.specs.declared.work.RangeWork.{RangeWork}
use Rattle.answer_rows.specs.Room.{point_limit_of, range_limit_of, HasRoom}
use Rattle.answer_rows.specs.declared.works.Works.{Works}

pub room_of : (c : Compiled) (limit : ℕ) (room : Room) → room ≡ record { nodes = length c.hierarchy.ranks; stops = c.table.stops; routes = length c.table.routes; limit = limit }
    → IsRoomForPoint c limit room
room_of c limit room is = record {
  nodes = ap (λ (r : Room). r.nodes) is;
  stops = ap (λ (r : Room). r.stops) is;
  routes = ap (λ (r : Room). r.routes) is;
  within = omega (arith, ap (λ (r : Room). r.limit) is);
}

module _ (c : Compiled) (works : Works) (points ranges : ℕ) (point : IsRoomForPoint c points works.point) (range : IsRoomForRange c ranges works.range)
    (tells : TellsLeastArcs works.arcs c.network.arcs) where
  has_room : (q : Query) → point_limit_of q ≤ points → range_limit_of q ≤ ranges → HasRoom c works q
  has_room (query.At from to depart limit) few less = (
    record {
      nodes = point.nodes;
      stops = point.stops;
      routes = point.routes;
      within = omega (arith, few, point.within);
    },
    tells,
  )
  has_room (query.Range from to first last limit) few less = (
    record {
      first = range.first;
      last = range.last;
      search = range.search;
      profile = range.profile;
      within = omega (arith, less, range.within);
    },
    tells,
  )

  pub all_have_room : (queries : List Query) → All (λ q. point_limit_of q ≤ points) queries → All (λ q. range_limit_of q ≤ ranges) queries
      → All (HasRoom c works) queries
  all_have_room queries few less = λ k d within. has_room (get_or queries k d) (few k d within) (less k d within)

-- where a range keeps its memory, each query has room as before
pub room_kept : (c : Compiled) (works : Works) (work : RangeWork) → ((most : ℕ) → IsRoomForRange c most works.range → IsRoomForRange c most work)
    → (q : Query) → HasRoom c works q → HasRoom c (record { point = works.point; range = work; arcs = works.arcs }) q
room_kept c works work keeps (query.At from to depart limit) is = is
room_kept c works work keeps (query.Range from to first last limit) is = (keeps limit is.0, is.1)
