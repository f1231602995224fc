use Rattle.std.proofs.Common.{◌≡◌, ◌+◌, ◌<◌, ℕ, length, slice_index_or, refl, ap, subst, ◌∙◌, arith}
use Rattle.walk_hierarchy.specs.declared.labels.Label.{Label}
use Rattle.walk_hierarchy.specs.declared.rows.Half.{Half}
use Rattle.walk_hierarchy.specs.Search.{IsGoing, row_of}
use Rattle.walk_hierarchy.proofs.SearchLaws.{label_low, near, going_more, search_left, marked, onward_same, onward_marked, IsMarked}
use Rattle.walk_hierarchy.proofs.search.leave.Goals as goal

pub loop-half-init : goal.loop-half-init
loop-half-init c = record {
  going = λ from bound first. first;
  onward = onward_same c.args.labels.now c.args.queue.now;
  less = omega arith;
  many = refl;
}

pub overflow_add-label : goal.overflow_add-label
overflow_add-label c =
    let none : Half = record { seconds = 0; to = record { 0 = 0 }; middle = record { 0 = 0 } } in
    let start = c.requires.going.1.1 in
    let low = label_low c.args.labels.now c.args.at.0 start.here.0 start.here.1.0 in
    let n = near c.args.rows.now (length c.args.labels.now) c.requires.climbs c.requires.going.0 c.requires.going.1.0 c.args.at.0 c.args.seconds c.loop-half.half-index c.loop-half.half-index none
    c.loop-half.labels c.loop-half.queue c.row-half-items.result.now c.row-half-items.ensures (omega (arith, low, c.requires.climbs.starts)) c.loop-half-test.true
    (c.loop-half.invariant.going c.requires.going.0 c.requires.going.1.0 start) in
    omega (arith, n.few)

pub mark-requires-clause-exists : goal.mark-requires-clause-exists
mark-requires-clause-exists c =
    let none : Half = record { seconds = 0; to = record { 0 = 0 }; middle = record { 0 = 0 } } in
    let start = c.requires.going.1.1 in
    let low = label_low c.args.labels.now c.args.at.0 start.here.0 start.here.1.0 in
    let n = near c.args.rows.now (length c.args.labels.now) c.requires.climbs c.requires.going.0 c.requires.going.1.0 c.args.at.0 c.args.seconds c.loop-half.half-index c.loop-half.half-index none
    c.loop-half.labels c.loop-half.queue c.row-half-items.result.now c.row-half-items.ensures (omega (arith, low, c.requires.climbs.starts)) c.loop-half-test.true
    (c.loop-half.invariant.going c.requires.going.0 c.requires.going.1.0 start) in
    omega (arith, n.to, c.loop-half.invariant.many)

pub mark-requires-clause-room : goal.mark-requires-clause-room
mark-requires-clause-room c = (c.loop-half.invariant.going c.requires.going.0 c.requires.going.1.0 c.requires.going.1.1).sound.room

pub mark-requires-clause-short : goal.mark-requires-clause-short
mark-requires-clause-short c =
    let none : Half = record { seconds = 0; to = record { 0 = 0 }; middle = record { 0 = 0 } } in
    let start = c.requires.going.1.1 in
    let low = label_low c.args.labels.now c.args.at.0 start.here.0 start.here.1.0 in
    let n = near c.args.rows.now (length c.args.labels.now) c.requires.climbs c.requires.going.0 c.requires.going.1.0 c.args.at.0 c.args.seconds c.loop-half.half-index c.loop-half.half-index none
    c.loop-half.labels c.loop-half.queue c.row-half-items.result.now c.row-half-items.ensures (omega (arith, low, c.requires.climbs.starts)) c.loop-half-test.true
    (c.loop-half.invariant.going c.requires.going.0 c.requires.going.1.0 start) in
    omega (arith, n.few)

pub mark-requires-clause-waits : goal.mark-requires-clause-waits
mark-requires-clause-waits c = λ s waits. (c.loop-half.invariant.going c.requires.going.0 c.requires.going.1.0 c.requires.going.1.1).sound.waits _ s waits

pub loop-half-preserved : goal.loop-half-preserved
loop-half-preserved c =
    let none : Half = record { seconds = 0; to = record { 0 = 0 }; middle = record { 0 = 0 } } in
    let start = c.requires.going.1.1 in
    let now = c.loop-half.invariant.going c.requires.going.0 c.requires.going.1.0 start in
    let low = label_low c.args.labels.now c.args.at.0 start.here.0 start.here.1.0 in
    let exists : c.args.at.0 + 1 < length c.args.rows.now.first.items = omega (arith, low, c.requires.climbs.starts) in
    let n = near c.args.rows.now (length c.args.labels.now) c.requires.climbs c.requires.going.0 c.requires.going.1.0 c.args.at.0 c.args.seconds c.loop-half.half-index c.loop-half.half-index none
    c.loop-half.labels c.loop-half.queue c.row-half-items.result.now c.row-half-items.ensures exists c.loop-half-test.true now in
    let half : Half = slice_index_or c.row-half-items.result.now c.loop-half.half-index none in
    let x : Label = record { seconds = c.args.seconds + half.seconds; parent = c.args.at } in
    let m = marked c.loop-half.labels c.loop-half.queue half.to.0 x (omega (arith, n.to, c.loop-half.invariant.many)) now.sound.room (omega (arith, n.few)) in
    let whole : IsMarked c.loop-half.labels c.loop-half.queue c.mark.new.labels c.mark.new.queue half.to.0 x = rw (c.mark.ensures.labels, c.mark.ensures.queue) m in
    record {
      going = λ from bound first. rw (c.mark.ensures.labels, c.mark.ensures.queue)
          (going_more c.args.rows.now (length c.args.labels.now) c.requires.climbs from bound c.args.seconds c.loop-half.half-index c.args.at none c.loop-half.labels c.loop-half.queue
          c.row-half-items.result.now c.row-half-items.ensures exists c.loop-half-test.true c.loop-half.invariant.many (c.loop-half.invariant.going from bound first));
      onward = onward_marked c.args.labels.now c.args.queue.now c.loop-half.labels c.loop-half.queue c.mark.new.labels c.mark.new.queue half.to.0 x c.loop-half.invariant.onward whole;
      less = omega (arith, whole.less, c.loop-half.invariant.less);
      many = whole.many ∙ c.loop-half.invariant.many;
    }

pub returns-clause-search : goal.returns-clause-search
returns-clause-search c = λ from bound start.
    let row = c.row-half-items.result.now in
    let all : c.loop-half.half-index ≡ length (row_of c.args.rows.now c.args.at.0) =
    omega (arith, c.loop-half-test.false, c.loop-half.auto.half-index-end, ap length c.row-half-items.ensures) in
    search_left c.args.rows.now from bound c.args.at.0 c.args.seconds c.loop-half.labels c.loop-half.queue
    (subst (λ (i : ℕ). IsGoing c.args.rows.now from bound c.args.at.0 c.args.seconds i c.loop-half.labels c.loop-half.queue) all (c.loop-half.invariant.going from bound start))
