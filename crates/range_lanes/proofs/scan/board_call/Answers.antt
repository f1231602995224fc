use Rattle.std.proofs.Common.{◌≡◌, sym, ap, subst, ◌∙◌, Some}
use Rattle.std.specs.Prelude.{slice_get}
use Rattle.std.proofs.lemmas.Option.{get_or_from_slice_get}
use Rattle.route_split.specs.Route.{Route}
use Rattle.range_lanes.proofs.LentLemmas.{rows_none, rows_same}
use Rattle.range_lanes.proofs.scan.board_call.Goals as goal

pub returns-in-Some-clause-sound : goal.returns-in-Some-clause-sound
returns-in-Some-clause-sound g c q last_is buffer_is holds starts old =
    let h = c.lend.ensures.holds in
    let there = c.index.ensures ∙ get_or_from_slice_get c.lend.new.self.rows.items c.args.call.route (Some h.route) c.index.result.now h.held in
    let same : h.route ≡ c.in-Some.rows = rows_same c.index.result.now h.route c.in-Some.rows there c.in-Some.is in
    let is_route : slice_get c.args.table.now.routes c.args.call.route ≡ Some c.in-Some.rows = h.is_route ∙ ap (λ (v : Route). Some v) same in
    c.board.ensures.sound q last_is (buffer_is ∙ sym c.buffer.ensures) (holds.rows_are c.args.call.route c.in-Some.rows is_route) (λ place at. starts c.in-Some.rows place is_route at) old

pub returns-in_default-clause-boarded : goal.returns-in_default-clause-boarded
returns-in_default-clause-boarded g c route is =
    let h = c.lend.ensures.holds in
    let there = c.index.ensures ∙ get_or_from_slice_get c.lend.new.self.rows.items c.args.call.route (Some h.route) c.index.result.now h.held in
    absurd (rows_none c.index.result.now h.route there c.in_default.is)
