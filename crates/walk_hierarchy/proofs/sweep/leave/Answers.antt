use Rattle.std.proofs.Common.{◌+◌, ◌<◌, length, slice_index_or, refl, ap, ◌∙◌, arith}
use Rattle.walk_hierarchy.specs.declared.labels.Label.{Label}
use Rattle.walk_hierarchy.specs.declared.rows.Half.{Half}
use Rattle.walk_hierarchy.proofs.SearchLaws.{label_low}
use Rattle.walk_hierarchy.proofs.SweepLaws.{near_sweeping, sweeping_more, less_swept, length_with, room_sweeping, sweep_left}
use Rattle.walk_hierarchy.proofs.sweep.leave.Goals as goal

pub loop-half-init : goal.loop-half-init
loop-half-init c = record { sweeping = λ from first. first; less = omega arith; many = refl }

pub overflow_add-label : goal.overflow_add-label
overflow_add-label c =
    let none : Half = record { seconds = 0; to = record { 0 = 0 }; middle = record { 0 = 0 } } in
    let start = c.requires.sweeping.1 in
    let low = label_low c.args.labels.now c.args.at.0 start.going.here.0 start.going.here.1.0 in
    let n = near_sweeping c.args.rows.now (length c.args.labels.now) c.requires.climbs c.requires.sweeping.0 c.args.at.0 c.args.seconds c.loop-half.half-index none
    c.loop-half.labels c.loop-half.waiting c.row-half-items.result.now c.row-half-items.ensures (omega (arith, low, c.requires.climbs.starts)) c.loop-half-test.true
    (c.loop-half.invariant.sweeping c.requires.sweeping.0 start) in
    omega (arith, n.few)

pub mark-requires-clause-exists : goal.mark-requires-clause-exists
mark-requires-clause-exists c =
    let none : Half = record { seconds = 0; to = record { 0 = 0 }; middle = record { 0 = 0 } } in
    let start = c.requires.sweeping.1 in
    let low = label_low c.args.labels.now c.args.at.0 start.going.here.0 start.going.here.1.0 in
    let n = near_sweeping c.args.rows.now (length c.args.labels.now) c.requires.climbs c.requires.sweeping.0 c.args.at.0 c.args.seconds c.loop-half.half-index none
    c.loop-half.labels c.loop-half.waiting c.row-half-items.result.now c.row-half-items.ensures (omega (arith, low, c.requires.climbs.starts)) c.loop-half-test.true
    (c.loop-half.invariant.sweeping c.requires.sweeping.0 start) in
    omega (arith, n.to, c.loop-half.invariant.many)

pub mark-requires-clause-room : goal.mark-requires-clause-room
mark-requires-clause-room c =
    room_sweeping c.args.rows.now c.requires.sweeping.0 c.args.at.0 c.args.seconds c.loop-half.half-index c.loop-half.labels c.loop-half.waiting
    (c.loop-half.invariant.sweeping c.requires.sweeping.0 c.requires.sweeping.1)

pub mark-requires-clause-short : goal.mark-requires-clause-short
mark-requires-clause-short c =
    let none : Half = record { seconds = 0; to = record { 0 = 0 }; middle = record { 0 = 0 } } in
    let start = c.requires.sweeping.1 in
    let low = label_low c.args.labels.now c.args.at.0 start.going.here.0 start.going.here.1.0 in
    let n = near_sweeping c.args.rows.now (length c.args.labels.now) c.requires.climbs c.requires.sweeping.0 c.args.at.0 c.args.seconds c.loop-half.half-index none
    c.loop-half.labels c.loop-half.waiting c.row-half-items.result.now c.row-half-items.ensures (omega (arith, low, c.requires.climbs.starts)) c.loop-half-test.true
    (c.loop-half.invariant.sweeping c.requires.sweeping.0 start) in
    omega (arith, n.few)

pub loop-half-preserved : goal.loop-half-preserved
loop-half-preserved c =
    let none : Half = record { seconds = 0; to = record { 0 = 0 }; middle = record { 0 = 0 } } in
    let rows = c.args.rows.now in
    let places = length c.args.labels.now in
    let i = c.loop-half.half-index in
    let labels = c.loop-half.labels in
    let waiting = c.loop-half.waiting in
    let row = c.row-half-items.result.now in
    let start = c.requires.sweeping.1 in
    let now = c.loop-half.invariant.sweeping c.requires.sweeping.0 start in
    let low = label_low c.args.labels.now c.args.at.0 start.going.here.0 start.going.here.1.0 in
    let exists : c.args.at.0 + 1 < length c.args.rows.now.first.items = omega (arith, low, c.requires.climbs.starts) in
    let n = near_sweeping rows places c.requires.climbs c.requires.sweeping.0 c.args.at.0 c.args.seconds i none
    labels waiting row c.row-half-items.ensures exists c.loop-half-test.true now in
    let half : Half = slice_index_or c.row-half-items.result.now c.loop-half.half-index none in
    let x : Label = record { seconds = c.args.seconds + half.seconds; parent = c.args.at } in
    let to : half.to.0 < length labels = omega (arith, n.to, c.loop-half.invariant.many) in
    let small : x.seconds < 18446744073709551616 = omega (arith, n.few) in
    let less = less_swept rows c.requires.sweeping.0 c.args.at.0 c.args.seconds i half.to.0 x labels waiting to small now in
    rw (c.mark.ensures.labels, c.mark.ensures.waiting)
    (record {
      sweeping = λ from first.
          sweeping_more rows places c.requires.climbs from c.args.seconds i c.args.at none labels waiting row c.row-half-items.ensures exists c.loop-half-test.true c.loop-half.invariant.many
          (c.loop-half.invariant.sweeping from first);
      less = omega (arith, less, c.loop-half.invariant.less);
      many = length_with labels half.to.0 x ∙ c.loop-half.invariant.many;
    })

pub returns-clause-sweep : goal.returns-clause-sweep
returns-clause-sweep c = λ from start.
    sweep_left c.args.rows.now from c.args.at.0 c.args.seconds c.loop-half.half-index c.loop-half.labels c.loop-half.waiting
    (omega (arith, c.loop-half-test.false, c.loop-half.auto.half-index-end, ap length c.row-half-items.ensures))
    (c.loop-half.invariant.sweeping from start)
