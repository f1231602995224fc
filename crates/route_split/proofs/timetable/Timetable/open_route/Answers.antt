use Rattle.std.proofs.Common.{subst}
use Rattle.std.specs.Prelude.{All}
use Rattle.route_split.specs.Route.{IsRoute}
use Rattle.route_split.specs.Table.{Table}
use Rattle.route_split.proofs.TableLemmas.{route_at}
use Rattle.route_split.proofs.timetable.Timetable.open_route.Goals as goal

pub returns-clause-whole : goal.returns-clause-whole
returns-clause-whole g c =
    route_at c.args.self.now.stops c.args.self.now.routes c.args.route _
    (subst (λ (t : Table). All (IsRoute t.stops) t.routes) c.self.view_is c.self.invariant.2)
    c.rows_of.ensures
