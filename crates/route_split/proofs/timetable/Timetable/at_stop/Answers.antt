use Rattle.std.proofs.Common.{◌-◌, ◌<◌, subst, sym, take, drop}
use Rattle.route_split.specs.Table.{LendsCalls, Table}
use Rattle.route_split.proofs.TableLemmas.{calls_at, calls_rise}
use Rattle.route_split.proofs.timetable.Timetable.at_stop.Goals as goal

pub returns-clause-calls : goal.returns-clause-calls
returns-clause-calls c =
    let from = c.index-from.result.now in
    let to = c.index-to.result.now in
    subst (λ (t : Table). LendsCalls t.routes c.args.stop.0 (take (to - from) (drop from c.deref.result.now))) c.self.view_is
    (rw c.deref.ensures.value
    (calls_at _ _ _ _ c.self.invariant.3 c.args.stop.0 from to
    (subst (λ (t : Table). c.args.stop.0 < t.stops) (sym c.self.view_is) c.requires) c.index-from.ensures c.index-to.ensures))

pub returns-clause-rise : goal.returns-clause-rise
returns-clause-rise c =
    let from = c.index-from.result.now in
    let to = c.index-to.result.now in
    rw c.deref.ensures.value
    (calls_rise _ _ _ _ c.self.invariant.3 c.args.stop.0 from to
    (subst (λ (t : Table). c.args.stop.0 < t.stops) (sym c.self.view_is) c.requires) c.index-from.ensures c.index-to.ensures)
