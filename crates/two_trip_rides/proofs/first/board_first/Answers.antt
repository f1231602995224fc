use Rattle.std.proofs.Common.{◌≤◌, List, ℕ, rules, subst}
use Rattle.std.specs.Prelude.{slice_index}
use Rattle.two_trip_rides.proofs.first.board_first.Goals as goal

pub returns-in-Some-clause-rows_sound : goal.returns-in-Some-clause-rows_sound
returns-in-Some-clause-rows_sound c s boards old =
    let late = subst (λ (xs : List ℕ). c.args.wanted ≤ slice_index xs c.in-Some.row) c.departs.ensures.departs c.in-Some.ensures.caught in
    c.ride_first.ensures.rows_sound s (boards c.place.result c.in-Some.row c.place.ensures (search rules) late) old

pub returns-in-Some-clause-sound : goal.returns-in-Some-clause-sound
returns-in-Some-clause-sound c s rows boards old =
    let late = subst (λ (xs : List ℕ). c.args.wanted ≤ slice_index xs c.in-Some.row) c.departs.ensures.departs c.in-Some.ensures.caught in
    c.ride_first.ensures.sound s rows (boards c.place.result c.in-Some.row c.place.ensures (search rules) late) old
