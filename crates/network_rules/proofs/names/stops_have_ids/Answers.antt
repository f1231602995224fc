use Rattle.std.proofs.Common.{refl, subst, arith}
use Rattle.std.specs.Prelude.{All}
use Rattle.std.proofs.lemmas.List.Elements.{All-more}
use Rattle.move_model.specs.declared.network.Stop.{Stop}
use Rattle.network_rules.specs.Rules.{IsId}
use Rattle.network_rules.proofs.RuleLemmas.{whole}
use Rattle.network_rules.proofs.names.stops_have_ids.Goals as goal

abbrev IsNamed : Stop → Type 0
IsNamed stop = IsId stop.name

pub loop-i-preserved : goal.loop-i-preserved
loop-i-preserved c =
    let here : IsId c.as_slice.result.now = c.is_id.ensures.0 c.if-not-is_id.false in
    All-more IsNamed c.args.stops.now c.loop-i.i c.index-stops-i.result c.loop-i-test.true c.loop-i.invariant (subst IsId c.as_slice.ensures here)

pub returns : goal.returns
returns c = (λ _. whole IsNamed c.args.stops.now c.loop-i.i (omega arith) c.loop-i.invariant, λ _. refl)
