-- What a step keeps.
use Rattle.std.proofs.Common.{◌≡◌, ℕ, List, sym, subst, arith}
use Rattle.move_model.specs.declared.network.Network.{Network}
use Rattle.route_split.specs.Route.{Route}
use Rattle.stop_rows.specs.Rows.{Rows}
use Rattle.two_trip_labels.specs.Closed.{Kept}
use Rattle.two_trip_labels.proofs.Lasting.{closed_earlier}
use Rattle.witness_prune.specs.declared.scratch.Scratch.{Scratch}
use Rattle.witness_prune.specs.Labels.{kept_of, IsDone}
use Rattle.witness_prune.specs.Scratch.{parts_at, IsFootFrom, IsAt, IsBoarded}

module _ (n : Network) (rows : Rows) (routes : List Route) (place z : ℕ) where
  -- what was boarded is kept
  pub boarded_at : (g : ℕ) (s : Scratch) → IsBoarded n rows routes place z g s → IsAt n rows routes place z s
  boarded_at g s b = record {
    exists = b.exists;
    foot = b.foot;
    kept = λ q here.
        let done = b.done q here in
        record { real = done.real; closed = closed_earlier n z z g 0 (parts_at routes rows place s.foot.items) (kept_of s.labels) (omega arith) (done.closed 0) };
  }

  -- it stays so where the seconds on foot and the labels do
  pub boarded_same : (g : ℕ) (s s' : Scratch) → s'.foot ≡ s.foot → s'.labels ≡ s.labels → IsBoarded n rows routes place z g s → IsBoarded n rows routes place z g s'
  boarded_same g s s' e f b =
      let same : s'.foot.items ≡ s.foot.items = cc in
      let kept : kept_of s'.labels ≡ kept_of s.labels = cc in
      record {
        exists = b.exists;
        foot = subst (λ (xs : List ℕ). IsFootFrom rows place xs) (sym same) b.foot;
        done = λ q here. subst (λ (xs : List ℕ). IsDone n q z g (parts_at routes rows place xs) (kept_of s'.labels)) (sym same)
            (subst (λ (k : Kept). IsDone n q z g (parts_at routes rows place s.foot.items) k) (sym kept) (b.done q here));
      }
