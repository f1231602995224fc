use Rattle.gtfs_feed.proofs.RisingLemmas.{ends}
use Rattle.gtfs_feed.proofs.copies.last_second.Goals as goal

pub overflow_sub-last : goal.overflow_sub-last
overflow_sub-last c = ends c.args.calls.now _ _ c.requires.rises c.in-Some-Some.ensures.value c.in-Some-Some.ensures'.value
