use Rattle.std.proofs.Common.{◌≡◌, ◌∙◌, ◌<◌, ap, arith, length, length-append, List, ◌^◌}
use Rattle.std.specs.Prelude.{map, All}
use Rattle.std.proofs.lemmas.List.Sorted.{length_permutation, sum_by-IsPermutation}
use Rattle.move_model.specs.declared.network.Trip.{Trip}
use Rattle.service_day.specs.Order.{IsNumbered}
use Rattle.service_day.specs.DayTrips.{trips_of_date, night_trips, day_trips, call_count}
use Rattle.service_day.specs.declared.departure.Departure.{Departure}
use Rattle.service_day.specs.Departure.{trip_of}
use Rattle.service_day.proofs.ValidLemmas.{good-day, few_calls, timed, valid}
use Rattle.service_day.proofs.day_trips.expand.Goals as goal

pub count_calls-calls-requires-clause-calls : goal.count_calls-calls-requires-clause-calls
count_calls-calls-requires-clause-calls c =
    let feed = c.args.feed.now in
    let few : All (λ (departure : Departure). length departure.calls.now < 2 ^ 32) c.deref-4.result.now =
    rw c.deref-4.ensures.value (few_calls (length feed.stops) c.in-Ok-gathered.departures.items _ c.in-Ok-gathered.ensures (good-day feed _ _ c.requires.feed c.requires.calls)) in
    few

pub numbered-requires : goal.numbered-requires
numbered-requires c =
    let feed = c.args.feed.now in
    timed (length feed.stops) c.in-Ok-gathered.departures.items _ c.in-Ok-gathered.ensures (good-day feed _ _ c.requires.feed c.requires.calls)

pub returns-in-Ok-numbered-clause-valid : goal.returns-in-Ok-numbered-clause-valid
returns-in-Ok-numbered-clause-valid c =
    let feed = c.args.feed.now in
    valid (length feed.stops) _ c.in-Ok-numbered.trips c.in-Ok-numbered.ensures (rw c.in-Ok-gathered.ensures (good-day feed _ _ c.requires.feed c.requires.calls))

pub returns-in-Ok-numbered-clause-few_trips : goal.returns-in-Ok-numbered-clause-few_trips
returns-in-Ok-numbered-clause-few_trips c =
    let feed = c.args.feed.now in
    let today = c.as_slice-today.result.now in
    let before = c.as_slice-before.result.now in
    let order : IsNumbered (map trip_of c.in-Ok-gathered.departures.items) c.in-Ok-numbered.trips = c.in-Ok-numbered.ensures in
    let given : map trip_of c.in-Ok-gathered.departures.items ≡ day_trips feed today before = c.in-Ok-gathered.ensures in
    let same = length_permutation (map trip_of c.in-Ok-gathered.departures.items) c.in-Ok-numbered.trips order.same_trips in
    omega (arith, same, ap length given, length-append (trips_of_date feed today) (night_trips (trips_of_date feed before)), c.if-trips-gt-MOST_TRIPS.false, c.count_trips.ensures.count, c.count_trips-2.ensures.count)

pub returns-in-Ok-numbered-clause-few_calls : goal.returns-in-Ok-numbered-clause-few_calls
returns-in-Ok-numbered-clause-few_calls c =
    let order : IsNumbered (map trip_of c.in-Ok-gathered.departures.items) c.in-Ok-numbered.trips = c.in-Ok-numbered.ensures in
    let same = sum_by-IsPermutation (λ (trip : Trip). length trip.calls) (map trip_of c.in-Ok-gathered.departures.items) c.in-Ok-numbered.trips order.same_trips in
    let counted : c.count_calls-calls.result ≡ call_count (map trip_of c.in-Ok-gathered.departures.items) =
    c.count_calls-calls.ensures ∙ ap (λ (departures : List Departure). call_count (map trip_of departures)) c.deref-4.ensures.value in
    omega (arith, same, counted, c.if-calls-gt-MOST_CALLS.false)
