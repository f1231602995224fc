use Rattle.std.proofs.Common.{◌≡◌}
use Rattle.std.proofs.lemmas.Result.{err_from_is_err_and}
use Rattle.network_bytes.specs.declared.stop.ReadStop.TheVariants as stop
use Rattle.network_sections.proofs.NetworkCodecs.{streets_take, streets_broken, streets_cut_off}
use Rattle.network_sections.proofs.network.streets.Goals as goal

pub returns-in_err-network-clause-broken : goal.returns-in_err-network-clause-broken
returns-in_err-network-clause-broken c = λ is.
    let p = err_from_is_err_and c.from_residual.result c.from_residual.ensures.1 in
    let broken : c.in_err-network.field-0.0 ≡ stop.Broken = cc (is, p.1, p.2) in
    streets_cut_off c.args.version c.args.bytes.now c.in_err-network.field-0.0 c.in_err-network.ensures broken

pub are_streets-requires : goal.are_streets-requires
are_streets-requires c = (streets_take c.args.version c.args.bytes.now c.in_ok-network.network c.in_ok-network.rest.now (λ i. (c.type_inv.bytes i).fits) c.in_ok-network.ensures).1

pub returns-then-not-are_streets-clause-broken : goal.returns-then-not-are_streets-clause-broken
returns-then-not-are_streets-clause-broken c = λ _.
    streets_broken c.args.version c.args.bytes.now c.in_ok-network.network c.in_ok-network.rest.now c.in_ok-network.ensures
    (λ are. let yes = c.are_streets.ensures.1 are in let no = c.if-not-are_streets.true in absurd cc)

pub returns-clause-found : goal.returns-clause-found
returns-clause-found c = (
  (streets_take c.args.version c.args.bytes.now c.in_ok-network.network c.in_ok-network.rest.now (λ i. (c.type_inv.bytes i).fits) c.in_ok-network.ensures).0,
  c.are_streets.ensures.0 c.if-not-are_streets.false,
)

pub returns-clause-alone : goal.returns-clause-alone
returns-clause-alone c = (streets_take c.args.version c.args.bytes.now c.in_ok-network.network c.in_ok-network.rest.now (λ i. (c.type_inv.bytes i).fits) c.in_ok-network.ensures).1
