use Rattle.std.proofs.Common.{◌≡◌, ℕ, ◌+◌, ◌-◌, ◌^◌, ◌<◌, Some, slice_index}
use Rattle.std.specs.Prelude.{slice_get}
use Rattle.move_model.specs.declared.network.StopNo.{StopNo}
use Rattle.route_split.specs.Route.{Route}
use Rattle.route_split.specs.declared.place.Place.{Place}
use Rattle.route_split.specs.Calls.{HoldsTrips}
use Rattle.raptor_rounds.specs.Ways.{Query}
use Rattle.range_lanes.specs.Levels.{Exploited, LeftFalls, Covers, StartsFrom, IsSound}
use Rattle.range_lanes.specs.Lent.{IsLentBy, lent_count}
use Rattle.range_lanes.proofs.scan.scan.Given as goal

abbrev pub invariant-loop-x : goal.invariant-loop-x
invariant-loop-x g l = record {
  falls : LeftFalls l.fn.level l.level l.fn.fresh l.fresh;
  exploited : (n x r i : ℕ) (route : Route) (place : Place) → n < l.x-index → slice_get l.marked n ≡ Some x → slice_get l.table.routes r ≡ Some route
      → slice_get route.places i ≡ Some place → place.stop.0 ≡ x → Exploited l.below l.level route l.table.buffer i (slice_index l.before.ready.items x);
  covers : Covers l.last l.fn.level → Covers l.last l.level;
  sound : (q : Query) → q.last ≡ l.last → q.network.buffer ≡ l.table.buffer → HoldsTrips q.network.trips l.table.routes
      → ((x z : StopNo) → slice_get l.before.from.items x.0 ≡ Some z → slice_index l.before.ready.items x.0 < 2 ^ 32 - 1
      → StartsFrom q l.below x (slice_index l.before.ready.items x.0) z)
      → IsSound q l.below l.fn.level → IsSound q l.below l.level;
  lent : IsLentBy l.table l.held;
  counted : l.opens + lent_count l.fn.held ≡ l.fn.opens + lent_count l.held;
}
