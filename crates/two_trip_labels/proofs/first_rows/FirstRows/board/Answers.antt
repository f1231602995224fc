use Rattle.std.proofs.Common.{ℕ, List, map, set, Vec, Global, slice_index_or, [], subst}
use Rattle.two_trip_labels.specs.First.{BoardsAt}
use Rattle.two_trip_labels.proofs.Viewed.{old_viewed, new_viewed, other_viewed}
use Rattle.two_trip_labels.proofs.first_rows.FirstRows.board.Goals as goal

pub returns-clause-others : goal.returns-clause-others
returns-clause-others c r ne = other_viewed c.self.inside.rows.items c.args.self.now c.args.route c.self.view_is c.requires.route c.board_in.new.held r ne

pub returns-clause-boards : goal.returns-clause-boards
returns-clause-boards c =
    let vs = c.self.inside.rows.items in
    let w = c.board_in.new.held in
    let read = c.index_mut.result.now in
    subst (λ (xs : List ℕ). BoardsAt c.args.rows.now c.args.call c.args.wanted c.args.foot.now c.args.second xs
    (slice_index_or (map (λ (v : Vec ℕ Global). v.items) (set vs c.args.route w)) c.args.route []) c.args.first.now c.board_in.new.first)
    (old_viewed vs c.args.self.now c.args.route c.self.view_is c.requires.route read c.index_mut.ensures.value)
    (subst (λ (xs : List ℕ). BoardsAt c.args.rows.now c.args.call c.args.wanted c.args.foot.now c.args.second read.items xs c.args.first.now c.board_in.new.first)
    (new_viewed vs c.args.self.now c.args.route c.self.view_is c.requires.route w) c.board_in.ensures)
