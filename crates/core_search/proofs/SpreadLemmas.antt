-- Walks over a core as distances of its graph.
use Rattle.std.proofs.Common.{ℕ, List, Option, Some, None, refl, subst}
use Rattle.move_model.specs.Streets.{Streets}
use Rattle.walk_laws.specs.Sums.{IsSum, IsLeast}
use Rattle.walk_core.specs.Core.{Contraction, Holds, IsCoreArc, IsContraction}
use Rattle.core_search.specs.declared.label.Label.{Label}
use Rattle.core_search.specs.Label.{IsUpto, after, label_at}
use Rattle.core_search.specs.Spread.{Comes, HasLeastLabel, IsCoreWalk, IsApart, StandInCore, IsSpread, IsSpreadOver}
use Rattle.core_search.proofs.OrderLemmas.{less_seconds}

module _ (graph : Streets) (core : Contraction) (is : IsContraction graph core) (old : List (Option Label)) (stand : StandInCore core old) (v : ℕ) (holds : Holds core (record { 0 = v })) where
  -- a distance is a walk over the core
  comes_over : (y : Label) → Comes (IsApart graph) old v y → Comes (IsCoreWalk core) old v y
  comes_over y comes =
      let least : IsLeast (IsSum (IsCoreArc core) comes.from v) comes.m =
      (is.core_distances (record { 0 = comes.from }) (record { 0 = v }) (Some comes.m) (stand comes.from comes.x comes.stood) holds).1 comes.leads in
      record { from = comes.from; x = comes.x; m = comes.m; stood = comes.stood; leads = least.attained; is = comes.is }

  by_distance : (r : Option Label) → HasLeastLabel (IsCoreWalk core) old v r → HasLeastLabel (IsApart graph) old v r
  by_distance None none = λ y comes. none y (comes_over y comes)
  by_distance (Some x) least =
      let c = least.attained in
      let shortest : IsLeast (IsSum (IsCoreArc core) c.from v) c.m = record {
        attained = c.leads;
        least = λ n walk.
            let other : Comes (IsCoreWalk core) old v (after c.x n) =
            record { from = c.from; x = c.x; m = n; stood = c.stood; leads = walk; is = refl } in
            less_seconds c.x c.m n (subst (λ (z : Label). IsUpto z (after c.x n)) c.is (least.least (after c.x n) other));
      } in
      record {
        attained = record {
          from = c.from;
          x = c.x;
          m = c.m;
          stood = c.stood;
          leads = (is.core_distances (record { 0 = c.from }) (record { 0 = v }) (Some c.m) (stand c.from c.x c.stood) holds).0 shortest;
          is = c.is;
        };
        least = λ y comes. least.least y (comes_over y comes);
      }

pub over_graph : (graph : Streets) (core : Contraction) (old new : List (Option Label)) → IsContraction graph core → StandInCore core old → IsSpread core old new → IsSpreadOver graph core old new
over_graph graph core old new is stand spread v holds = by_distance graph core is old stand v holds (label_at new v) (spread v)
