use Rattle.std.proofs.Common.{refl, inl}
use Rattle.gtfs_feed.proofs.IdLemmas.{inserted}
use Rattle.gtfs_feed.proofs.StopLemmas.{other-push}
use Rattle.gtfs_feed.proofs.stops.StopTable.push_other.Goals as goal

pub returns-clause-kept : goal.returns-clause-kept
returns-clause-kept c =
    other-push c.args.self.now _ c.args.id.now c.requires.kept (inl (inserted _ _ _ _ _ c.in_ok-insert.ensures.added c.requires.new c.in_ok-insert.ensures.names)) refl c.in_ok-push.ensures.ok

pub returns-clause-names : goal.returns-clause-names
returns-clause-names c = inserted _ _ _ _ _ c.in_ok-insert.ensures.added c.requires.new c.in_ok-insert.ensures.names
