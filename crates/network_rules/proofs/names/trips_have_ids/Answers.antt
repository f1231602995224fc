use Rattle.std.proofs.Common.{refl, subst, arith}
use Rattle.std.specs.Prelude.{All}
use Rattle.std.proofs.lemmas.List.Elements.{All-more}
use Rattle.move_model.specs.declared.network.Trip.{Trip}
use Rattle.network_rules.specs.Rules.{IsId}
use Rattle.network_rules.proofs.RuleLemmas.{whole}
use Rattle.network_rules.proofs.names.trips_have_ids.Goals as goal

abbrev IsNamed : Trip → Type 0
IsNamed trip = IsId trip.name

pub loop-i-preserved : goal.loop-i-preserved
loop-i-preserved c =
    let here : IsId c.as_slice.result.now = c.is_id.ensures.0 c.if-not-is_id.false in
    All-more IsNamed c.args.trips.now c.loop-i.i c.index-trips-i.result c.loop-i-test.true c.loop-i.invariant (subst IsId c.as_slice.ensures here)

pub returns : goal.returns
returns c = (λ _. whole IsNamed c.args.trips.now c.loop-i.i (omega arith) c.loop-i.invariant, λ _. refl)
