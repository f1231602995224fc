use Rattle.std.proofs.Common.{Bool, List, refl, ap, ◌∙◌, arith}
use Rattle.std.specs.Prelude.{slice_get, count_by}
use Rattle.range_lanes.proofs.LevelLemmas.{set_get}
use Rattle.range_lanes.proofs.LentLemmas.{lent_more, count_set}
use Rattle.range_lanes.proofs.lent.LentRows.lend.Goals as goal

pub returns-clause-held : goal.returns-clause-held
returns-clause-held g c =
    lent_more c.args.table.now c.args.self.now _ c.args.route c.open_route-rows.result c.open_route-rows.ensures.rows refl c.open_route-rows.ensures.marked
    (omega (arith, c.requires.exists, c.requires.held.one_each)) refl c.requires.held

pub returns-clause-holds : goal.returns-clause-holds
returns-clause-holds g c =
    (returns-clause-held g c).held c.args.route
    (ap (λ (xs : List Bool). slice_get xs c.args.route) c.open_route-rows.ensures.marked
    ∙ set_get c.args.self.now.marks c.args.route _ (omega (arith, c.requires.exists, c.requires.held.marks)))

pub returns-clause-counted : goal.returns-clause-counted
returns-clause-counted g c =
    omega (
      arith,
      c.open_route-rows.ensures.counted,
      count_set c.args.self.now.marks c.args.route c.if-marked.ensures,
      ap (λ (xs : List Bool). count_by (λ mark. mark) xs) c.open_route-rows.ensures.marked,
    )
