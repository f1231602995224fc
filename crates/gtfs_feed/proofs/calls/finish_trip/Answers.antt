use Rattle.std.proofs.Common.{arith}
use Rattle.std.proofs.lemmas.List.Sorted.{length_permutation}
use Rattle.gtfs_feed.proofs.FinishLemmas.{in-time, finished}
use Rattle.gtfs_feed.proofs.calls.finish_trip.Goals as goal

pub fill_times-requires-clause-in_time : goal.fill_times-requires-clause-in_time
fill_times-requires-clause-in_time c = rw c.as_slice-in-None.ensures.value (in-time c.args.calls.items _ c.in_ok-sort_calls.ensures.ok.same_calls c.requires.in_time)

pub returns-clause-kept : goal.returns-clause-kept
returns-clause-kept c stops services bare kept =
    let t = c.in_ok-trip-in-None.ensures.timely in
    let order = c.in_ok-sort_calls.ensures.ok in
    let long = length_permutation c.args.calls.items c.sort_calls.new.calls.items order.same_calls in
    finished stops services c.args.trip.now c.args.calls.items c.sort_calls.new.calls.items c.in_ok-trip-in-None.field-0 t.0 bare kept order.same_calls
    (omega (arith, long)) (omega (arith, long, c.requires.few)) (rw c.as_slice-in-None.ensures.value at c.in_ok-trip-in-None.ensures.stops) t.1

pub fill_times-requires-clause-few : goal.fill_times-requires-clause-few
fill_times-requires-clause-few c =
    let long = length_permutation c.args.calls.items c.sort_calls.new.calls.items c.in_ok-sort_calls.ensures.ok.same_calls in
    rw c.as_slice-in-None.ensures.value (omega (arith, long, c.requires.few))
