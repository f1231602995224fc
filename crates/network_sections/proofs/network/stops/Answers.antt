use Rattle.std.proofs.Common.{◌≡◌}
use Rattle.std.proofs.lemmas.Result.{err_from_is_err_and}
use Rattle.network_bytes.specs.declared.stop.ReadStop.TheVariants as stop
use Rattle.network_sections.proofs.FrontLemmas.{in_front, broken as none_in_front, cut_off}
use Rattle.network_codec.specs.Rules.{AreStops}
use Rattle.network_sections.specs.Network.{with_stops}
use Rattle.network_sections.proofs.NetworkCodecs.{stops_codec, stops_fit}
use Rattle.network_sections.proofs.network.stops.Goals as goal

pub returns-in_err-stops-clause-broken : goal.returns-in_err-stops-clause-broken
returns-in_err-stops-clause-broken c = λ is.
    let p = err_from_is_err_and c.from_residual.result c.from_residual.ensures.1 in
    let broken : c.in_err-stops.field-0.0 ≡ stop.Broken = cc (is, p.1, p.2) in
    cut_off (λ stops. AreStops (with_stops c.args.network stops)) stops_codec (λ y are. stops_fit c.args.network y are) c.args.bytes.now c.in_err-stops.field-0.0 c.in_err-stops.ensures broken

pub returns-then-not-right-clause-broken : goal.returns-then-not-right-clause-broken
returns-then-not-right-clause-broken c = λ _.
    none_in_front (λ stops. AreStops (with_stops c.args.network stops)) stops_codec (λ y are. stops_fit c.args.network y are) c.args.bytes.now c.in_ok-stops.stops c.in_ok-stops.rest.now c.in_ok-stops.ensures
    (λ are. let yes = c.in_ok-right.ensures.1 (record { few = are.few; named = are.named; differ = are.differ; keep = are.keep }) in let no = c.if-not-right.true in absurd cc)

pub returns-clause-found : goal.returns-clause-found
returns-clause-found c =
    in_front (λ stops. AreStops (with_stops c.args.network stops)) stops_codec c.args.bytes.now c.in_ok-stops.stops c.in_ok-stops.rest.now (λ i. (c.type_inv.bytes i).fits) c.in_ok-stops.ensures
    (let are = c.in_ok-right.ensures.0 c.if-not-right.false in record { few = are.few; named = are.named; differ = are.differ; keep = are.keep })
