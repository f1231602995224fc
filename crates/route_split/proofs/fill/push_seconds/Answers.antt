use Rattle.route_split.proofs.BlockLemmas.{none_pushed, rows_pushed}
use Rattle.route_split.proofs.fill.push_seconds.Goals as goal

pub loop-k-init : goal.loop-k-init
loop-k-init c = none_pushed c.args.trips.now c.args.group.now c.args.seconds.now.items

pub loop-k-preserved : goal.loop-k-preserved
loop-k-preserved c =
    rows_pushed c.args.trips.now c.args.group.now c.args.seconds.now.items c.loop-k.seconds.items c.push_arrivals.new.seconds.items
    c.push_departures.new.seconds.items c.loop-k.k c.loop-k.invariant c.in_ok-push_arrivals.ensures c.in_ok-push_departures.ensures
