use Rattle.std.proofs.Common.{ℕ, List, refl, ap, arith, rules}
use Rattle.std.specs.Prelude.{slice_index}
use Rattle.range_lanes.proofs.Riding.{boarded_from}
use Rattle.range_lanes.proofs.ride.board.Goals as goal

pub returns-in-Some-clause-boarded : goal.returns-in-Some-clause-boarded
returns-in-Some-clause-boarded c =
    boarded_from _ c.args.below.now c.ride_on.new.level c.args.rows.now c.args.buffer c.args.on c.args.second c.in-Some.row c.requires.whole c.ride_on.ensures.ridden
    (λ k lt. omega (arith, c.in-Some.ensures.first k lt, c.from.ensures, c.from-2.ensures, ap (λ (xs : List ℕ). slice_index xs k) c.departs.ensures.departs))

pub returns-in-Some-clause-sound : goal.returns-in-Some-clause-sound
returns-in-Some-clause-sound c q last_is buffer_is rows starts was =
    let place = c.place-place.result in
    c.ride_on.ensures.sound q last_is rows
    (record {
      place = place;
      is_place = c.place-place.ensures;
      may_board = search rules;
      catches = λ step from_is. (starts place c.place-place.ensures).each step _ from_is refl
          (omega (arith, c.in-Some.ensures.caught, c.from.ensures, c.from-2.ensures, buffer_is, ap (λ (xs : List ℕ). slice_index xs c.in-Some.row) c.departs.ensures.departs));
    })
    was
