use Rattle.std.proofs.Common.{ℕ, inl, inr, ap, ◌∙◌, arith}
use Rattle.stop_rows.specs.Rows.{entry}
use Rattle.two_trip_passes.proofs.WalkLemmas.{walk_of}
use Rattle.two_trip_passes.proofs.walks.walk_place.Goals as goal

pub returns-clause-changed : goal.returns-clause-changed
returns-clause-changed c p = elim (c.walk_from.ensures.changed p) [
  | inl same ↦ inl same
  | inr l ↦ inr (walk_of c.args.rows.now c.args.first.now c.row-row.result.now (record { 0 = c.args.stop }) p _ c.requires.stop
      (c.row-row.ensures.entries p (omega (arith, l.within, c.row-row.ensures.one_each)) ∙ ap (λ (q : ℕ). entry c.args.rows.now q p) c.place.ensures.value) l)
]
