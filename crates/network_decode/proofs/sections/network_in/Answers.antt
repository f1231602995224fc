use Rattle.std.proofs.Common.{[]}
use Rattle.move_model.specs.declared.network.Network.{Network}
use Rattle.network_codec.specs.File.{Begins}
use Rattle.network_decode.specs.Value.{network_alone}
use Rattle.network_decode.proofs.BeginLemmas.{begins, begins-streets, given-stops, given-trips}
use Rattle.network_decode.proofs.BrokenLemmas.{stopped, broken-streets, broken-stops, broken-trips}
use Rattle.network_decode.proofs.sections.network_in.Goals as goal

abbrev no_network : Network
no_network = record { nodes = 0; arcs = []; stops = []; trips = []; buffer = 0 }

pub returns-in-Err-clause-broken : goal.returns-in-Err-clause-broken
returns-in-Err-clause-broken c = stopped 1 c.args.version c.args.body.now c.in-Err.stop c.stop_in.result c.stop_in.ensures
    (λ is. broken-streets c.args.version no_network c.args.body.now c.args.body.now (begins c.args.version no_network c.args.body.now) (c.in-Err.ensures.broken (cc)))

pub returns-in-Err-stops-clause-broken : goal.returns-in-Err-stops-clause-broken
returns-in-Err-stops-clause-broken c = stopped 2 c.args.version c.args.body.now c.in-Err-stops.stop c.stop_in-in-Err-stops.result c.stop_in-in-Err-stops.ensures
    (λ is.
    let one : Begins 1 c.args.version (network_alone c.in-Ok.found.0) c.args.body.now c.in-Ok.found.1.now =
    begins-streets c.args.version c.in-Ok.found.0 c.args.body.now c.args.body.now c.in-Ok.found.1.now (begins c.args.version c.in-Ok.found.0 c.args.body.now) c.in-Ok.ensures.found in
    broken-stops c.args.version c.in-Ok.found.0 c.args.body.now c.in-Ok.found.1.now one (c.in-Err-stops.ensures.broken (cc)))

pub returns-in-Ok-trips-clause-found : goal.returns-in-Ok-trips-clause-found
returns-in-Ok-trips-clause-found c =
    let one : Begins 1 c.args.version (network_alone c.in-Ok.found.0) c.args.body.now c.in-Ok.found.1.now =
    begins-streets c.args.version c.in-Ok.found.0 c.args.body.now c.args.body.now c.in-Ok.found.1.now (begins c.args.version c.in-Ok.found.0 c.args.body.now) c.in-Ok.ensures.found in
    let two : Begins 2 c.args.version (network_alone c.in-Ok-stops.found.0) c.args.body.now c.in-Ok-stops.found.1.now =
    given-stops c.args.version c.in-Ok.found.0 c.in-Ok-stops.found.0 c.args.body.now c.in-Ok.found.1.now c.in-Ok-stops.found.1.now one c.in-Ok-stops.ensures.found c.in-Ok-stops.ensures.network in
    given-trips c.args.version c.in-Ok-stops.found.0 c.in-Ok-trips.found.0 c.args.body.now c.in-Ok-stops.found.1.now c.in-Ok-trips.found.1.now two c.in-Ok-trips.ensures.found c.in-Ok-trips.ensures.network

pub returns-in-Err-trips-clause-broken : goal.returns-in-Err-trips-clause-broken
returns-in-Err-trips-clause-broken c = stopped 3 c.args.version c.args.body.now c.in-Err-trips.stop c.stop_in-in-Err-trips.result c.stop_in-in-Err-trips.ensures
    (λ is.
    let one : Begins 1 c.args.version (network_alone c.in-Ok.found.0) c.args.body.now c.in-Ok.found.1.now =
    begins-streets c.args.version c.in-Ok.found.0 c.args.body.now c.args.body.now c.in-Ok.found.1.now (begins c.args.version c.in-Ok.found.0 c.args.body.now) c.in-Ok.ensures.found in
    let two : Begins 2 c.args.version (network_alone c.in-Ok-stops.found.0) c.args.body.now c.in-Ok-stops.found.1.now =
    given-stops c.args.version c.in-Ok.found.0 c.in-Ok-stops.found.0 c.args.body.now c.in-Ok.found.1.now c.in-Ok-stops.found.1.now one c.in-Ok-stops.ensures.found c.in-Ok-stops.ensures.network in
    broken-trips c.args.version c.in-Ok-stops.found.0 c.args.body.now c.in-Ok-stops.found.1.now two (c.in-Err-trips.ensures.broken (cc)))
