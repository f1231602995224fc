use Rattle.std.proofs.Common.{rules}
use Rattle.gtfs_feed.specs.declared.feed.FeedBytes.{FeedBytes}
use Rattle.top_call.proofs.RejectLemmas.{feed_rule}
use Rattle.top_call.proofs.feed.feed_of.Goals as goal

pub returns-in-Err-clause-rejected : goal.returns-in-Err-clause-rejected
returns-in-Err-clause-rejected c = λ held days trips of_days of_trips.
    let files : FeedBytes = record {
      stops = c.deref.result;
      calendar = c.as_deref.result;
      dates = c.as_deref-2.result;
      trips = c.deref-2.result;
      stop_times = c.deref-3.result;
      frequencies = c.as_deref-3.result;
    } in
    rw c.status_of.ensures.value (feed_rule held files c.in-Err.stopped days trips (search rules) c.in-Err.ensures.refused)
