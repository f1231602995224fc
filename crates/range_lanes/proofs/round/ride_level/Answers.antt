use Rattle.std.proofs.Common.{◌≡◌, ℕ, ◌+◌, ◌-◌, length, sym, ap, ◌∙◌, subst, arith, Some}
use Rattle.std.specs.Prelude.{slice_get}
use Rattle.std.proofs.lemmas.Option.{slice_get-get_or}
use Rattle.range_lanes.specs.declared.level.Level.{Level}
use Rattle.range_lanes.specs.Levels.{Exploited}
use Rattle.range_lanes.proofs.Starting.{none_before, boards_first, boards_after, starts_after}
use Rattle.range_lanes.proofs.round.ride_level.Goals as goal

pub returns-then-count-eq0-clause-followed : goal.returns-then-count-eq0-clause-followed
returns-then-count-eq0-clause-followed g c r i second route place at_route at_place boards marked =
    let below = c.args.below.now in
    let b = boards_first c.args.first.now c.args.depart place.stop.0 second _ (none_before below (omega (arith, c.if-count-eq0.true))) boards in
    subst (λ s. Exploited below c.scan_first.new.level route c.args.table.now.buffer i s) (sym b.2)
    (c.scan_first.ensures.exploited r i b.0 route place at_route at_place marked b.1)

pub returns-else-count-eq0-clause-followed : goal.returns-else-count-eq0-clause-followed
returns-else-count-eq0-clause-followed g c r i second route place at_route at_place boards marked =
    let below = c.args.below.now in
    let before = c.index-below-count.result in
    let is : slice_get below (length below - 1) ≡ Some before =
    slice_get-get_or below (length below - 1) before (omega (arith, c.if-count-eq0.false)) ∙ ap (λ (v : Level). Some v) (sym c.index-below-count.is) in
    let e = boards_after c.args.first.now c.args.depart place.stop.0 second _ before is boards in
    subst (λ s. Exploited below c.scan.new.level route c.args.table.now.buffer i s) (sym e)
    (c.scan.ensures.exploited r i route place at_route at_place marked)

pub returns-else-count-eq0-clause-sound : goal.returns-else-count-eq0-clause-sound
returns-else-count-eq0-clause-sound g c q first_is last_is depart_is buffer_is holds ready old =
    let below = c.args.below.now in
    let before = c.index-below-count.result in
    let is : slice_get below (length below - 1) ≡ Some before =
    slice_get-get_or below (length below - 1) before (omega (arith, c.if-count-eq0.false)) ∙ ap (λ (v : Level). Some v) (sym c.index-below-count.is) in
    c.scan.ensures.sound q last_is buffer_is holds (λ x z at sure. starts_after q below before x z is (ready before is) at sure) old
