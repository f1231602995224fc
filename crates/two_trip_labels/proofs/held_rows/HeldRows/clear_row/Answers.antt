use Rattle.std.proofs.Common.{List, length, sym, ap, ◌∙◌}
use Rattle.std.specs.Prelude.{replicate}
use Rattle.piece_laws.specs.declared.labels.Held.{Held}
use Rattle.two_trip_rides.specs.Second.{no_held}
use Rattle.two_trip_labels.proofs.Viewed.{old_viewed, new_viewed, other_viewed}
use Rattle.two_trip_labels.proofs.held_rows.HeldRows.clear_row.Goals as goal

pub returns-clause-others : goal.returns-clause-others
returns-clause-others c r ne = other_viewed c.self.inside.rows.items c.args.self.now c.args.route c.self.view_is c.requires c.fill_row.new.row r ne

pub returns-clause-cleared : goal.returns-clause-cleared
returns-clause-cleared c =
    let vs = c.self.inside.rows.items in
    let read = c.index_mut.result.now in
    sym (new_viewed vs c.args.self.now c.args.route c.self.view_is c.requires c.fill_row.new.row) ∙ c.fill_row.ensures
    ∙ ap (λ (xs : List Held). replicate (length xs) no_held) (old_viewed vs c.args.self.now c.args.route c.self.view_is c.requires read c.index_mut.ensures.value)
