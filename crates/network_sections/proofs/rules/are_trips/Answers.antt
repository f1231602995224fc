use Rattle.std.proofs.Common.{List, length, sym, ap, subst, arith}
use Rattle.std.specs.Prelude.{All}
use Rattle.move_model.specs.declared.network.Trip.{Trip}
use Rattle.network_rules.specs.Rules.{IsId, HaveFewCalls}
use Rattle.network_sections.proofs.rules.are_trips.Goals as goal

abbrev AreNamed : List Trip → Type 0
AreNamed trips = All (λ trip. IsId trip.name) trips

pub returns-then-not-trips_have_ids : goal.returns-then-not-trips_have_ids
returns-then-not-trips_have_ids c = (
  λ no. absurd cc,
  λ are.
      let yes = c.trips_have_ids.ensures.1 (subst AreNamed (sym c.as_slice-trips.ensures) are.named) in
      let no = c.if-not-trips_have_ids.true in
      absurd cc,
)

pub returns : goal.returns
returns c = (
  λ yes. record {
    few = omega (arith, ap length c.as_slice-trips.ensures);
    few_calls = subst HaveFewCalls c.as_slice-trips.ensures (c.have_few_calls.ensures.0 c.if-not-have_few_calls.false);
    named = subst AreNamed c.as_slice-trips.ensures (c.trips_have_ids.ensures.0 c.if-not-trips_have_ids.false);
    keep = c.keeps.ensures.0 yes;
  },
  λ are. c.keeps.ensures.1 are.keep,
)
