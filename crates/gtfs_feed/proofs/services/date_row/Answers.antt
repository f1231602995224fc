use Rattle.gtfs_feed.proofs.IdLemmas.{is-id}
use Rattle.gtfs_feed.proofs.services.date_row.Goals as goal

pub returns-clause-named : goal.returns-clause-named
returns-clause-named c = rw c.cell.ensures at (is-id _ c.in_ok-check_id.ensures.0)
