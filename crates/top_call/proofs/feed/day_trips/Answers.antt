use Rattle.std.proofs.Common.{arith}
use Rattle.top_call.proofs.RejectLemmas.{few_trips}
use Rattle.top_call.proofs.feed.day_trips.Goals as goal

pub expand-requires-clause-calls : goal.expand-requires-clause-calls
expand-requires-clause-calls c = λ k d below. omega (arith, (c.requires.feed.trips_go k d below).few_calls)

pub returns-in-Ok-expand-clause-trips : goal.returns-in-Ok-expand-clause-trips
returns-in-Ok-expand-clause-trips c =
    let numbered = rw c.in-Ok.ensures at c.in-Ok-expand.ensures.trips in
    record {
      before = c.in-Ok-active_before.before;
      ran = record { of_first = c.in-Ok-active_before.ensures.first; of_later = c.in-Ok-active_before.ensures.later };
      few = few_trips _ _ numbered c.in-Ok-expand.ensures.few_trips c.in-Ok-expand.ensures.few_calls;
      numbered = numbered;
    }
