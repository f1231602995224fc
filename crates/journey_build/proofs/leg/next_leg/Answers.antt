use Rattle.std.proofs.Common.{◌≡◌, ◌+◌, ◌≤◌, ℕ, refl, sym, subst, inl, inr, arith, rules}
use Rattle.std.specs.Prelude.{IsTrue}
use Rattle.std.proofs.lemmas.Bool.{cases_lt}
use Rattle.move_model.specs.declared.network.NodeNo.{NodeNo}
use Rattle.move_model.specs.Streets.{Streets}
use Rattle.move_model.specs.Network.{streets, node_of}
use Rattle.move_model.specs.Journey.{IsRide}
use Rattle.walk_laws.specs.Sums.{IsLeast}
use Rattle.walk_hierarchy.specs.Hierarchy.{IsNode, IsOver, IsUpDownSum, IsWayOver}
use Rattle.journey_build.specs.Built.IsMissed.{no_way, too_late}
use Rattle.journey_build.proofs.StopLemmas.{off_node}
use Rattle.journey_build.proofs.leg.next_leg.Goals as goal

pub returns-in_default-found-clause-missed : goal.returns-in_default-found-clause-missed
returns-in_default-found-clause-missed g c =
    let n = c.args.network.now in
    let h = c.args.hierarchy.now in
    let is : IsRide n c.args.ride c.in-Some.on c.in-Some.off = search rules in
    let none : (m : ℕ) → IsUpDownSum h c.args.place c.node_at.result m → ⊥ = c.in_ok-found.ensures.none.0 (search rules) in
    no_way is (subst (λ (v : NodeNo). (m : ℕ) → IsUpDownSum h c.args.place v m → ⊥) c.node_at.ensures none)

pub returns-then-not-is_in_time-clause-missed : goal.returns-then-not-is_in_time-clause-missed
returns-then-not-is_in_time-clause-missed g c =
    let n = c.args.network.now in
    let h = c.args.hierarchy.now in
    let timed = c.in-Some-found.timed in
    let is : IsRide n c.args.ride c.in-Some.on c.in-Some.off = search rules in
    let found : IsLeast (IsUpDownSum h c.args.place c.node_at.result) timed.seconds = rw c.in-Some-found.is at c.in_ok-found.ensures.seconds in
    let least : IsLeast (IsUpDownSum h c.args.place (node_of n c.in-Some.on.stop)) timed.seconds =
    subst (λ (v : NodeNo). IsLeast (IsUpDownSum h c.args.place v) timed.seconds) c.node_at.ensures found in
    too_late is least (elim (cases_lt c.in-Some.on.dep (c.args.second + timed.seconds + n.buffer)) [
      | inl late ↦ late
      | inr le ↦ let yes : IsTrue c.is_in_time.result = c.is_in_time.ensures.1 le in absurd (search (rules, yes))
    ])

pub returns-clause-leg : goal.returns-clause-leg
returns-clause-leg g c =
    let n = c.args.network.now in
    let h = c.args.hierarchy.now in
    let timed = c.in-Some-found.timed in
    let is : IsRide n c.args.ride c.in-Some.on c.in-Some.off = search rules in
    let ways : (graph : Streets) → IsOver graph h → IsWayOver graph h c.args.place c.node_at.result timed.walk = rw c.in-Some-found.is at c.in_ok-found.ensures.walks in
    let way : IsWayOver (streets n) h c.args.place (node_of n c.in-Some.on.stop) timed.walk =
    subst (λ (v : NodeNo). IsWayOver (streets n) h c.args.place v timed.walk) c.node_at.ensures (ways (streets n) c.requires.over) in
    let found : IsLeast (IsUpDownSum h c.args.place c.node_at.result) timed.seconds = rw c.in-Some-found.is at c.in_ok-found.ensures.seconds in
    let least : IsLeast (IsUpDownSum h c.args.place (node_of n c.in-Some.on.stop)) timed.seconds =
    subst (λ (v : NodeNo). IsLeast (IsUpDownSum h c.args.place v) timed.seconds) c.node_at.ensures found in
    let same : way.seconds ≡ timed.seconds = omega (arith, way.least.least timed.seconds least.attained, least.least way.seconds way.least.attained) in
    let yes : IsTrue c.is_in_time.result = search rules in
    let in_time : c.args.second + timed.seconds + n.buffer ≤ c.in-Some.on.dep = c.is_in_time.ensures.0 yes in
    record {
      on = c.in-Some.on;
      off = c.in-Some.off;
      seconds = way.seconds;
      is_ride = is;
      walks = way.walks;
      way = record { from = c.args.place; to = node_of n c.in-Some.on.stop; way = way };
      in_time = omega (arith, same, in_time);
      place = c.node_at-2.ensures;
      second = refl;
      exists = subst (IsNode h) (sym c.node_at-2.ensures) (off_node n h c.requires.over c.requires.network c.args.ride c.in-Some.on c.in-Some.off is);
    }
