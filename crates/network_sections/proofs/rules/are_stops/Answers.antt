use Rattle.std.proofs.Common.{List, length, sym, ap, subst, arith}
use Rattle.std.specs.Prelude.{All}
use Rattle.move_model.specs.declared.network.Stop.{Stop}
use Rattle.move_model.specs.Check.{KeepsRules}
use Rattle.network_rules.specs.Rules.{IsId, Differ}
use Rattle.network_sections.proofs.rules.are_stops.Goals as goal

abbrev AreNamed : List Stop → Type 0
AreNamed stops = All (λ stop. IsId stop.name) stops

pub returns-then-not-stops_have_ids : goal.returns-then-not-stops_have_ids
returns-then-not-stops_have_ids c = (
  λ no. absurd cc,
  λ are.
      let yes = c.stops_have_ids.ensures.1 (subst AreNamed (sym c.as_slice-stops.ensures) are.named) in
      let no = c.if-not-stops_have_ids.true in
      absurd cc,
)

pub returns : goal.returns
returns c = (
  λ yes. record {
    few = omega (arith, ap length c.as_slice-stops.ensures);
    named = subst AreNamed c.as_slice-stops.ensures (c.stops_have_ids.ensures.0 c.if-not-stops_have_ids.false);
    differ = subst Differ c.as_slice-stops.ensures (c.in_ok-differ.ensures.0 c.if-not-differ.false);
    keep = subst KeepsRules c.requires.alone (c.keeps.ensures.0 yes);
  },
  λ are. c.keeps.ensures.1 (subst KeepsRules (sym c.requires.alone) are.keep),
)
