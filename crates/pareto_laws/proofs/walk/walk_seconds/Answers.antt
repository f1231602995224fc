use Rattle.std.proofs.Common.{◌≡◌, ◌+◌, ◌-◌, ◌<◌, ap, subst, sym, arith, length, get_or, drop, rules}
use Rattle.move_model.specs.declared.network.NodeNo.{NodeNo}
use Rattle.move_model.specs.Streets.{IsLeastArc, IsWalk, IsVertex}
use Rattle.move_model.specs.Network.{streets}
use Rattle.pareto_laws.proofs.Walks.{walk_last, walk_arc, walk_alone, walk_more}
use Rattle.pareto_laws.proofs.walk.walk_seconds.Goals as goal
use Rattle.pareto_laws.proofs.walk.walk_seconds.Goals.{then-walk-at-via-then-walk-at, then-walk-at-via-else-walk-at+then-to-eq0, then-walk-at-via-else-walk-at+else-to-eq0+then-to-network}

pub returns-then-walk-at-clause-seconds : goal.returns-then-walk-at-clause-seconds
returns-then-walk-at-clause-seconds c =
    λ m h.
    let last = walk_last (record { 0 = 0 }) h in
    elim c.then-walk-at.branch [
      | then-walk-at-via-then-walk-at w ↦ w.if-walk-at.true (ap (λ (v : NodeNo). v.0) last.0)
      | then-walk-at-via-else-walk-at+then-to-eq0 w ↦ omega (arith, last.1.from_one, w.if-to-eq0.true)
      | then-walk-at-via-else-walk-at+else-to-eq0+then-to-network w ↦ omega (arith, last.1.to_nodes, w.if-to-network.true)
    ]

pub loop-at-init : goal.loop-at-init
loop-at-init c =
    let some : 0 < length c.args.walk.now = search rules in
    let is : IsVertex (streets c.args.network.now) c.args.to = record { from_one = omega (arith, c.if-to-eq0.false); to_nodes = omega (arith, c.if-to-network.false) } in
    record {
      within = omega arith;
      bounded = omega arith;
      on_walk = walk_alone (streets c.args.network.now) c.args.walk.now (length c.args.walk.now - 1) (record { 0 = 0 }) c.args.to (omega arith) some c.if-walk-at.false is;
    }

pub loop-at-preserved : goal.loop-at-preserved
loop-at-preserved c =
    record {
      within = omega (arith, c.loop-at.invariant.within);
      bounded = omega (arith, c.loop-at.invariant.bounded, c.loop-at.invariant.within, c.from-sum.ensures);
      on_walk =
          subst
          (λ k. IsWalk (streets c.args.network.now) (get_or c.args.walk.now (c.loop-at.at - 1) (record { 0 = 0 })) (drop (c.loop-at.at - 1) c.args.walk.now) c.args.to (c.loop-at.sum + k))
          (sym c.from-sum.ensures)
          (walk_more (streets c.args.network.now) c.args.walk.now c.loop-at.at (record { 0 = 0 }) c.args.to c.loop-at.sum c.in-Some.seconds
          c.loop-at-test.true c.loop-at.invariant.within (rw c.as_slice.ensures at c.in-Some.ensures) c.loop-at.invariant.on_walk);
    }

pub returns-in-None-clause-seconds : goal.returns-in-None-clause-seconds
returns-in-None-clause-seconds c =
    λ m h.
    let arc = walk_arc (record { 0 = 0 }) (c.loop-at.at - 1) h (omega (arith, c.loop-at.invariant.within)) in
    let e : c.loop-at.at - 1 + 1 ≡ c.loop-at.at = omega arith in
    let least = subst (λ k. IsLeastArc c.args.network.now.arcs (get_or c.args.walk.now (c.loop-at.at - 1) (record { 0 = 0 })) (get_or c.args.walk.now k (record { 0 = 0 })) arc.0) e arc.1 in
    c.in-None.ensures arc.0 (rw c.as_slice.ensures least.attained)
