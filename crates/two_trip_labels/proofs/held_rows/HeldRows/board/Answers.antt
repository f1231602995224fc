use Rattle.std.proofs.Common.{List, map, set, Vec, Global, slice_index_or, [], subst}
use Rattle.piece_laws.specs.declared.labels.Held.{Held}
use Rattle.two_trip_labels.specs.Second.{RidesAt}
use Rattle.two_trip_labels.proofs.Viewed.{old_viewed, new_viewed, other_viewed}
use Rattle.two_trip_labels.proofs.held_rows.HeldRows.board.Goals as goal

pub returns-clause-others : goal.returns-clause-others
returns-clause-others c r ne = other_viewed c.self.inside.rows.items c.args.self.now c.args.route c.self.view_is c.requires.route c.ride_in.new.held r ne

pub returns-clause-boards : goal.returns-clause-boards
returns-clause-boards c =
    let vs = c.self.inside.rows.items in
    let w = c.ride_in.new.held in
    let read = c.index_mut-held.result.now in
    subst (λ (xs : List Held). RidesAt c.args.rows.now c.args.call c.args.label c.args.buffer c.args.foot.now c.args.second c.args.places.now c.args.ready.now xs
    (slice_index_or (map (λ (v : Vec Held Global). v.items) (set vs c.args.route w)) c.args.route []) c.args.best.now c.ride_in.new.best)
    (old_viewed vs c.args.self.now c.args.route c.self.view_is c.requires.route read c.index_mut-held.ensures.value)
    (subst (λ (xs : List Held). RidesAt c.args.rows.now c.args.call c.args.label c.args.buffer c.args.foot.now c.args.second c.args.places.now c.args.ready.now read.items xs c.args.best.now c.ride_in.new.best)
    (new_viewed vs c.args.self.now c.args.route c.self.view_is c.requires.route w) c.ride_in.ensures)
