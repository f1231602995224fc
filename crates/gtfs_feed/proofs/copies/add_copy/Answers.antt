use Rattle.std.proofs.lemmas.List.Elements.{All-push}
use Rattle.gtfs_feed.specs.Feed.{IsCopyRow}
use Rattle.gtfs_feed.proofs.copies.add_copy.Goals as goal

pub returns-clause-kept : goal.returns-clause-kept
returns-clause-kept c = rw c.in_ok-push.ensures.ok (All-push (IsCopyRow c.args.table.now.trips.items) c.args.copies.now c.in_ok-copy.copy c.requires.kept c.in_ok-copy.ensures.kept)
