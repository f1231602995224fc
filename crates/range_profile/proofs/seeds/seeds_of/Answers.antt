use Rattle.std.proofs.Common.{ℕ, ◌+◌, ◌-◌, ◌<◌, List, [], length, refl, sym, subst}
use Rattle.move_model.specs.declared.network.Network.{Network}
use Rattle.move_model.specs.declared.network.Trip.{Trip}
use Rattle.range_lanes.specs.Hits.{IsCaughtAmong}
use Rattle.range_profile.specs.Seeds.{HasSeed, AreWithin}
use Rattle.range_profile.proofs.ProfileLemmas.{departures_start, seeds_window}
use Rattle.range_profile.proofs.seeds.seeds_of.Goals as goal

-- some network of these trips
with_trips : List Trip → ℕ → Network
with_trips trips buffer = record { nodes = 0; arcs = []; stops = []; trips = trips; buffer = buffer }

pub returns-clause-falling : goal.returns-clause-falling
unfolding with_trips
returns-clause-falling c = (c.in_ok-departures.ensures (with_trips c.args.trips.now c.args.table.now.buffer) refl refl).falling

pub returns-clause-starts : goal.returns-clause-starts
unfolding with_trips
returns-clause-starts c =
    let n = with_trips c.args.trips.now c.args.table.now.buffer in
    departures_start n c.args.row.now c.args.first c.args.last c.in_ok-departures.departures (c.in_ok-departures.ensures n refl refl)

pub returns-clause-within : goal.returns-clause-within
returns-clause-within c = subst (λ n. AreWithin n c.in_ok-stops.stops.items) c.requires.row c.in_ok-stops.ensures.within

pub returns-clause-window : goal.returns-clause-window
returns-clause-window c n is_table trips_are =
    let row = c.args.row.now in
    let count = c.args.last - c.args.first in
    let seeds = c.in_ok-stops.stops.items in
    let buffered : (k : ℕ) → k < count → (o : IsCaughtAmong row c.args.table.now.buffer c.args.trips.now (length c.args.trips.now) (c.args.first + k)) → HasSeed seeds k o.caught.call.stop =
    subst (λ b. (k : ℕ) → k < count → (o : IsCaughtAmong row b c.args.trips.now (length c.args.trips.now) (c.args.first + k)) → HasSeed seeds k o.caught.call.stop) c.buffer.ensures
    c.in_ok-stops.ensures.seeded in
    seeds_window c.args.table.now n row c.args.first c.args.last count seeds c.in_ok-departures.departures is_table.holds (sym is_table.buffer_is) refl
    (subst (λ (ts : List Trip). (k : ℕ) → k < count → (o : IsCaughtAmong row c.args.table.now.buffer ts (length ts) (c.args.first + k)) → HasSeed seeds k o.caught.call.stop) (sym trips_are) buffered)
    (c.in_ok-departures.ensures n trips_are (sym is_table.buffer_is))
