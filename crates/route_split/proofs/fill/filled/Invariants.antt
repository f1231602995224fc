use Rattle.std.proofs.Common.{◌≡◌, take, map}
use Rattle.std.specs.Prelude.{All}
use Rattle.route_split.specs.Table.{route_of, HeadFits}
use Rattle.route_split.specs.Fill.{built}
use Rattle.route_split.proofs.fill.filled.Given as goal

abbrev pub invariant-loop-i : goal.invariant-loop-i
invariant-loop-i l = record {
  heads : All (HeadFits l.flat.seconds.items l.flat.places.items l.flat.trips.items) l.flat.heads.items;
  routes : map (route_of l.flat.seconds.items l.flat.places.items l.flat.trips.items) l.flat.heads.items ≡ map (built l.trips) (take l.i l.groups);
}
