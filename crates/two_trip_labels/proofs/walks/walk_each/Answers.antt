use Rattle.two_trip_labels.proofs.WalkLemmas.{ready_on, walked_some, changed_on}
use Rattle.two_trip_labels.proofs.walks.walk_each.Goals as goal

pub loop-place-preserved : goal.loop-place-preserved
loop-place-preserved c =
    let was = c.loop-place.invariant in
    let w = c.walk_to.ensures in
    record {
      known = walked_some c.args.row.now c.args.foot.now c.args.second c.args.a1 c.args.c c.loop-place.ready c.walk_to.new.ready c.args.from c.loop-place.place w.falls was.known w.known;
      falls = ready_on c.args.ready.now c.loop-place.ready c.walk_to.new.ready was.falls w.falls;
      changed = λ p. changed_on c.args.row.now c.args.a1 c.args.c c.args.ready.now c.loop-place.ready c.walk_to.new.ready p (was.changed p) (w.changed p);
    }
