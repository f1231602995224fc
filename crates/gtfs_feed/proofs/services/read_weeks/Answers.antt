use Rattle.gtfs_feed.proofs.ServicesLemmas.{named}
use Rattle.gtfs_feed.proofs.services.read_weeks.Goals as goal

pub returns-in-Some-clause-same : goal.returns-in-Some-clause-same
returns-in-Some-clause-same c = named c.in-Some.bytes.now c.read_calendar.result c.read_calendar.ensures.names c.read_calendar.ensures.services
