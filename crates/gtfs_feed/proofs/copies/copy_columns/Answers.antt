use Rattle.std.proofs.Common.{refl}
use Rattle.gtfs_feed.specs.Copies as spec
use Rattle.gtfs_feed.proofs.copies.copy_columns.Goals as goal

pub returns : goal.returns
unfolding spec.copy_columns
returns c = rw (c.find_column.ensures, c.find_column-2.ensures, c.find_column-3.ensures, c.find_column-4.ensures) refl
