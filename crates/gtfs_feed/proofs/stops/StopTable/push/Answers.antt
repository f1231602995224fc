use Rattle.gtfs_feed.proofs.IdLemmas.{inserted}
use Rattle.gtfs_feed.proofs.StopLemmas.{stop-push-named}
use Rattle.gtfs_feed.proofs.stops.StopTable.push.Goals as goal

pub returns-clause-kept : goal.returns-clause-kept
returns-clause-kept c =
    let id = c.args.id.now in
    stop-push-named c.args.self.now _ _ c.args.id.now c.requires.kept c.in_ok-name.ensures c.requires.new
    (record { named = rw c.in_ok-name.ensures c.requires.named; placed = c.requires.both; in_file = c.requires.within })
    (inserted _ _ _ _ _ c.in_ok-insert.ensures.added c.requires.new c.in_ok-insert.ensures.names)
    c.in_ok-push.ensures.ok
    (rw c.len-number.ensures at c.in_ok-push-2.ensures.ok)

pub returns-clause-names : goal.returns-clause-names
returns-clause-names c = inserted _ _ _ _ _ c.in_ok-insert.ensures.added c.requires.new c.in_ok-insert.ensures.names
