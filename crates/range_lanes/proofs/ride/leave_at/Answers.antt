use Rattle.std.proofs.Common.{ℕ, List, sym, ap, ◌∙◌, subst, arith, rules}
use Rattle.std.specs.Prelude.{slice_index}
use Rattle.std.proofs.lemmas.Option.{same_Some}
use Rattle.route_split.specs.declared.place.Place.{Place}
use Rattle.route_split.specs.Route.{arrivals_of}
use Rattle.raptor_rounds.proofs.TimesLemmas.{arrives_before}
use Rattle.range_lanes.specs.Levels.{Served, Arrives, step_on}
use Rattle.range_lanes.proofs.ride.leave_at.Goals as goal

pub leave-requires-clause-sure : goal.leave-requires-clause-sure
leave-requires-clause-sure c =
    omega (
      arith,
      arrives_before _ c.args.rows.now c.args.call c.args.hold.row c.requires.whole,
      ap (λ (xs : List ℕ). slice_index xs c.args.hold.row) c.arrives-arrivals.ensures.arrives,
    )

pub returns-clause-known : goal.returns-clause-known
returns-clause-known c off at may =
    let place = c.place-place.result in
    subst (λ (v : Place). Served c.args.below.now c.leave.new.level v.stop.0 (slice_index (arrivals_of c.args.rows.now c.args.call) c.args.hold.row))
    (same_Some place off (sym c.place-place.ensures ∙ at))
    (subst (λ (xs : List ℕ). Served c.args.below.now c.leave.new.level place.stop.0 (slice_index xs c.args.hold.row)) c.arrives-arrivals.ensures.arrives
    c.leave.ensures.known)

pub returns-clause-sound : goal.returns-clause-sound
returns-clause-sound c q last_is way was =
    let place = c.place-place.result in
    let left = way place c.trip.result c.place-place.ensures (search rules) c.trip.ensures in
    c.leave.ensures.sound q last_is
    (subst (λ (xs : List ℕ). Arrives q c.args.below.now place.stop (slice_index xs c.args.hold.row) (step_on c.args.hold c.trip.result c.args.call))
    (sym c.arrives-arrivals.ensures.arrives) left)
    was
