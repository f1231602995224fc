use Rattle.std.proofs.Common.{refl}
use Rattle.gtfs_feed.specs.Dates as spec
use Rattle.gtfs_feed.proofs.services.date_columns.Goals as goal

pub returns : goal.returns
unfolding spec.date_columns
returns c = rw (c.find_column.ensures, c.find_column-2.ensures, c.find_column-3.ensures) refl
