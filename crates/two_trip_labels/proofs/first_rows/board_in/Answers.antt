use Rattle.std.proofs.Common.{◌≡◌, ◌∙◌, ℕ, List, length, vec_len, sym, subst}
use Rattle.two_trip_labels.specs.First.{BoardsAt}
use Rattle.two_trip_labels.proofs.Viewed.{written}
use Rattle.two_trip_labels.proofs.first_rows.board_in.Goals as goal

pub returns : goal.returns
returns c =
    let f = c.board_first.ensures in
    let new = c.board_first.new.held in
    let many : length new ≡ vec_len c.args.held.now = f.held_falls.as_many ∙ c.as_mut_slice.ensures.len in
    subst (λ (xs : List ℕ). BoardsAt c.args.rows.now c.args.call c.args.wanted c.args.foot.now c.args.second c.args.held.now.items xs c.args.first.now c.board_first.new.first)
    (sym (written new c.args.held.now.items (vec_len c.args.held.now) many))
    (subst (λ (xs : List ℕ). BoardsAt c.args.rows.now c.args.call c.args.wanted c.args.foot.now c.args.second xs new c.args.first.now c.board_first.new.first)
    c.as_mut_slice.ensures.value
    (record { boarded = f.boarded; held_falls = f.held_falls; first_falls = f.first_falls; closed = f.closed; rows_sound = f.rows_sound; sound = f.sound }))
