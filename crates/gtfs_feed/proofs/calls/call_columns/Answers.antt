use Rattle.std.proofs.Common.{refl}
use Rattle.gtfs_feed.specs.Calls as spec
use Rattle.gtfs_feed.proofs.calls.call_columns.Goals as goal

pub returns : goal.returns
unfolding spec.call_columns
returns c = rw (c.find_column.ensures, c.find_column-2.ensures, c.find_column-3.ensures, c.find_column-4.ensures, c.find_column-5.ensures, c.find_column-6.ensures, c.find_column-7.ensures) refl
