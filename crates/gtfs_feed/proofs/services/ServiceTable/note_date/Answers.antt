use Rattle.gtfs_feed.proofs.NamedLemmas.{noted-same}
use Rattle.gtfs_feed.proofs.services.ServiceTable.note_date.Goals as goal

pub returns-clause-same : goal.returns-clause-same
returns-clause-same c =
    noted-same c.add_exception.result c.args.self.now.services.items c.args.service c.args.exception.added c.args.exception.date c.index_mut.result.now c.add_exception.new.service
    c.args.self.now.names c.index_mut.ensures.value c.requires.within c.requires.same c.add_exception.ensures
