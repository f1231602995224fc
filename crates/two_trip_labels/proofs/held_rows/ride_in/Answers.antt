use Rattle.std.proofs.Common.{◌≡◌, ◌∙◌, List, length, vec_len, sym, subst}
use Rattle.piece_laws.specs.declared.labels.Held.{Held}
use Rattle.two_trip_labels.specs.Second.{RidesAt}
use Rattle.two_trip_labels.proofs.Viewed.{written}
use Rattle.two_trip_labels.proofs.held_rows.ride_in.Goals as goal

pub returns : goal.returns
returns c =
    let f = c.board_second.ensures in
    let new = c.board_second.new.held in
    let many : length new ≡ vec_len c.args.held.now = f.held_fall.as_many ∙ c.as_mut_slice-rows_held.ensures.len in
    subst (λ (xs : List Held). RidesAt c.args.rows.now c.args.call c.args.label c.args.buffer c.args.foot.now c.args.second c.args.places.now c.args.ready.now c.args.held.now.items xs c.args.best.now c.board_second.new.best)
    (sym (written new c.args.held.now.items (vec_len c.args.held.now) many))
    (subst (λ (xs : List Held). RidesAt c.args.rows.now c.args.call c.args.label c.args.buffer c.args.foot.now c.args.second c.args.places.now c.args.ready.now xs new c.args.best.now c.board_second.new.best)
    c.as_mut_slice-rows_held.ensures.value
    (record { boarded = f.boarded; held_fall = f.held_fall; best_fall = f.best_fall; closed = f.closed; rows_sound = f.rows_sound; sound = f.sound }))
