use Rattle.std.proofs.Common.{◌≡◌}
use Rattle.std.proofs.lemmas.Result.{err_from_is_err_and}
use Rattle.network_bytes.specs.declared.stop.ReadStop.TheVariants as stop
use Rattle.network_sections.proofs.FrontLemmas.{in_front, broken as none_in_front, cut_off}
use Rattle.network_codec.specs.Rules.{AreTrips}
use Rattle.network_sections.specs.Network.{with_trips}
use Rattle.network_sections.proofs.NetworkCodecs.{trips_codec, trips_fit}
use Rattle.network_sections.proofs.network.trips.Goals as goal

pub returns-in_err-trips-clause-broken : goal.returns-in_err-trips-clause-broken
returns-in_err-trips-clause-broken c = λ is.
    let p = err_from_is_err_and c.from_residual.result c.from_residual.ensures.1 in
    let broken : c.in_err-trips.field-0.0 ≡ stop.Broken = cc (is, p.1, p.2) in
    cut_off (λ trips. AreTrips (with_trips c.args.network trips)) trips_codec (λ y are. trips_fit c.args.network y c.requires.stops are) c.args.bytes.now c.in_err-trips.field-0.0 c.in_err-trips.ensures broken

pub returns-then-not-are_trips-clause-broken : goal.returns-then-not-are_trips-clause-broken
returns-then-not-are_trips-clause-broken c = λ _.
    none_in_front (λ trips. AreTrips (with_trips c.args.network trips)) trips_codec (λ y are. trips_fit c.args.network y c.requires.stops are) c.args.bytes.now c.in_ok-trips.trips c.in_ok-trips.rest.now c.in_ok-trips.ensures
    (λ are. let yes = c.are_trips.ensures.1 are in let no = c.if-not-are_trips.true in absurd cc)

pub returns-clause-found : goal.returns-clause-found
returns-clause-found c =
    in_front (λ trips. AreTrips (with_trips c.args.network trips)) trips_codec c.args.bytes.now c.in_ok-trips.trips c.in_ok-trips.rest.now (λ i. (c.type_inv.bytes i).fits) c.in_ok-trips.ensures
    (c.are_trips.ensures.0 c.if-not-are_trips.false)
