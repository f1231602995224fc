use Rattle.std.proofs.Common.{◌≡◌, ℕ, List, sym, subst}
use Rattle.std.proofs.lemmas.Result.{IfOk-weaker}
use Rattle.move_model.specs.Streets.{Streets}
use Rattle.walk_core.specs.Core.{Contraction, IsContraction}
use Rattle.walk_hierarchy.specs.Hierarchy.{Parts, IsOver, GivesDistances}
use Rattle.walk_order.specs.Lists.{AreRanksOf}
use Rattle.walk_order.proofs.HierarchyLemmas.{IsHierarchy-of_core, IsOver-of_core, GivesDistances-of_core}
use Rattle.walk_order.proofs.whole.order.Goals as goal

pub of-requires-clause-rules : goal.of-requires-clause-rules
of-requires-clause-rules c =
    let core = c.in_ok-core.core in
    let is : IsContraction c.core.invariant.graph core = subst (λ (x : Contraction). IsContraction c.core.invariant.graph x) c.core.view_is c.core.invariant.contraction in
    let ranks : AreRanksOf core c.from_vec-ranks.result = subst (λ (r : List ℕ). AreRanksOf core r) (sym c.from_vec-ranks.ensures) c.in_ok-ranks_of.ensures in
    IsHierarchy-of_core c.core.invariant.graph core is c.in_ok-core.ensures.none (record { ranks = c.from_vec-ranks.result; up = c.in_ok-up.up; down = c.in_ok-down.down })
    ranks c.in_ok-up.ensures.arcs c.in_ok-down.ensures.arcs c.in_ok-up.ensures.order c.in_ok-down.ensures.order

pub returns-clause-streets : goal.returns-clause-streets
returns-clause-streets c =
    let core = c.in_ok-core.core in
    let ranks : AreRanksOf core c.from_vec-ranks.result = subst (λ (r : List ℕ). AreRanksOf core r) (sym c.from_vec-ranks.ensures) c.in_ok-ranks_of.ensures in
    let h : Parts = record { ranks = c.from_vec-ranks.result; up = c.in_ok-up.up; down = c.in_ok-down.down } in
    IfOk-weaker c.of.result (λ (x : Parts). x ≡ h) (λ (x : Parts). (graph : Streets) → IsContraction graph c.args.core → IsOver graph x)
    (λ x e. λ graph was.
    subst (λ (y : Parts). IsOver graph y) (sym e)
    (IsOver-of_core graph core (c.in_ok-core.ensures.contraction graph was) c.in_ok-core.ensures.none h ranks c.in_ok-up.ensures.arcs c.in_ok-down.ensures.arcs))
    c.of.ensures

pub returns-clause-distances : goal.returns-clause-distances
returns-clause-distances c =
    let core = c.in_ok-core.core in
    let ranks : AreRanksOf core c.from_vec-ranks.result = subst (λ (r : List ℕ). AreRanksOf core r) (sym c.from_vec-ranks.ensures) c.in_ok-ranks_of.ensures in
    let h : Parts = record { ranks = c.from_vec-ranks.result; up = c.in_ok-up.up; down = c.in_ok-down.down } in
    IfOk-weaker c.of.result (λ (x : Parts). x ≡ h) (λ (x : Parts). (graph : Streets) → IsContraction graph c.args.core → GivesDistances graph x)
    (λ x e. λ graph was.
    subst (λ (y : Parts). GivesDistances graph y) (sym e)
    (GivesDistances-of_core graph core (c.in_ok-core.ensures.contraction graph was) c.in_ok-core.ensures.none h ranks c.in_ok-up.ensures.arcs c.in_ok-down.ensures.arcs))
    c.of.ensures
