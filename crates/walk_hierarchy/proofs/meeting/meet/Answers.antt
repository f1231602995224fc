use Rattle.std.proofs.Common.{◌≡◌, ◌+◌, ℕ, Option, None, length, sym, ap, subst, arith}
use Rattle.std.proofs.lemmas.List.{length-replicate}
use Rattle.move_model.specs.declared.network.NodeNo.{NodeNo}
use Rattle.walk_hierarchy.specs.declared.labels.Label.{Label}
use Rattle.walk_hierarchy.specs.declared.meeting.Meeting.{Meeting}
use Rattle.walk_hierarchy.specs.Hierarchy.{HasArc}
use Rattle.walk_hierarchy.specs.Labels.{AreSums}
use Rattle.walk_hierarchy.specs.Meeting.{IsArcBack, HasBest}
use Rattle.walk_hierarchy.specs.Places.{place_of, by_vertex}
use Rattle.walk_hierarchy.specs.Search.{HasHalf, Climbs}
use Rattle.walk_hierarchy.proofs.HalfLaws.{ascents_climb, descents_climb, up_renumbered, down_renumbered, vertex_at, place_low}
use Rattle.walk_hierarchy.proofs.PlaceLaws.{sums_by, best_by, low_meeting}
use Rattle.walk_hierarchy.proofs.meeting.meet.Goals as goal

pub meet_between-best-requires-clause-climbs : goal.meet_between-best-requires-clause-climbs
meet_between-best-requires-clause-climbs c =
    let s = c.ascents-ascents.ensures in
    let places : length c.args.hierarchy.now.ranks + 1 ≡ length c.args.up.now =
    omega (arith, c.requires.places, ap length c.requires.up_none, length-replicate {A = Option Label} (length c.args.up_queue.now) None) in
    subst (λ (n : ℕ). Climbs c.ascents-ascents.result.now n) places (ascents_climb c.args.hierarchy.now s.rules c.ascents-ascents.result.now s.rows)

pub meet_between-best-requires-clause-other_climbs : goal.meet_between-best-requires-clause-other_climbs
meet_between-best-requires-clause-other_climbs c =
    let s = c.descents-descents.ensures in
    let places : length c.args.hierarchy.now.ranks + 1 ≡ length c.args.up.now =
    omega (arith, c.requires.places, ap length c.requires.up_none, length-replicate {A = Option Label} (length c.args.up_queue.now) None) in
    subst (λ (n : ℕ). Climbs c.descents-descents.result.now n) places (descents_climb c.args.hierarchy.now s.rules c.descents-descents.result.now s.rows)

pub meet_between-best-requires-clause-from : goal.meet_between-best-requires-clause-from
meet_between-best-requires-clause-from c =
    let h = c.args.hierarchy.now in
    let low = place_low h c.ascents-ascents.ensures.rules c.args.a.0 (vertex_at h c.args.a c.requires.a) in
    omega (
      arith,
      ap (λ (v : NodeNo). v.0) c.place-from.ensures,
      low,
      c.requires.places,
      ap length c.requires.up_none,
      length-replicate {A = Option Label} (length c.args.up_queue.now) None,
    )

pub meet_between-best-requires-clause-to : goal.meet_between-best-requires-clause-to
meet_between-best-requires-clause-to c =
    let h = c.args.hierarchy.now in
    let low = place_low h c.ascents-ascents.ensures.rules c.args.b.0 (vertex_at h c.args.b c.requires.b) in
    omega (
      arith,
      ap (λ (v : NodeNo). v.0) c.place-to.ensures,
      low,
      c.requires.places,
      ap length c.requires.up_none,
      length-replicate {A = Option Label} (length c.args.up_queue.now) None,
    )

pub with_name-requires : goal.with_name-requires
with_name-requires c =
    low_meeting (HasHalf c.ascents-ascents.result.now) (HasHalf c.descents-descents.result.now) c.place-from.result.0 c.place-to.result.0
    c.meet_between-best.new.labels c.meet_between-best.new.others c.meet_between-best.result (length c.args.names.now) c.meet_between-best.ensures.best
    (omega (
      arith,
      c.meet_between-best.ensures.many,
      c.requires.names.many,
      c.requires.places,
      ap length c.requires.up_none,
      length-replicate {A = Option Label} (length c.args.up_queue.now) None,
    ))

pub returns-clause-up : goal.returns-clause-up
returns-clause-up c =
    let h = c.args.hierarchy.now in
    let rows = c.ascents-ascents.result.now in
    let s = c.ascents-ascents.ensures in
    let sums : AreSums (HasHalf rows) (place_of h.ranks c.args.a.0) c.meet_between-best.new.labels =
    subst (λ (v : NodeNo). AreSums (HasHalf rows) v.0 c.meet_between-best.new.labels) c.place-from.ensures c.meet_between-best.ensures.labels in
    sums_by h.ranks c.args.names.now c.requires.names c.meet_between-best.new.labels (HasHalf rows) (HasArc h.up) (up_renumbered h s.rules rows s.rows)
    c.args.a.0 (vertex_at h c.args.a c.requires.a) sums

pub returns-clause-down : goal.returns-clause-down
returns-clause-down c =
    let h = c.args.hierarchy.now in
    let rows = c.descents-descents.result.now in
    let s = c.descents-descents.ensures in
    let sums : AreSums (HasHalf rows) (place_of h.ranks c.args.b.0) c.meet_between-best.new.others =
    subst (λ (v : NodeNo). AreSums (HasHalf rows) v.0 c.meet_between-best.new.others) c.place-to.ensures c.meet_between-best.ensures.others in
    sums_by h.ranks c.args.names.now c.requires.names c.meet_between-best.new.others (HasHalf rows) (IsArcBack h.down) (down_renumbered h s.rules rows s.rows)
    c.args.b.0 (vertex_at h c.args.b c.requires.b) sums

pub returns-clause-best : goal.returns-clause-best
returns-clause-best c =
    let h = c.args.hierarchy.now in
    let names = c.args.names.now in
    let rows = c.ascents-ascents.result.now in
    let other = c.descents-descents.result.now in
    let s = c.ascents-ascents.ensures in
    let t = c.descents-descents.ensures in
    let up = c.meet_between-best.new.labels in
    let down = c.meet_between-best.new.others in
    let sums : AreSums (HasHalf rows) (place_of h.ranks c.args.a.0) c.meet_between-best.new.labels =
    subst (λ (v : NodeNo). AreSums (HasHalf rows) v.0 c.meet_between-best.new.labels) c.place-from.ensures c.meet_between-best.ensures.labels in
    let from_is : HasBest (HasHalf rows) (HasHalf other) (place_of h.ranks c.args.a.0) c.place-to.result.0 up down c.meet_between-best.result =
    subst (λ (v : NodeNo). HasBest (HasHalf rows) (HasHalf other) v.0 c.place-to.result.0 up down c.meet_between-best.result) c.place-from.ensures c.meet_between-best.ensures.best in
    let best : HasBest (HasHalf rows) (HasHalf other) (place_of h.ranks c.args.a.0) (place_of h.ranks c.args.b.0) up down c.meet_between-best.result =
    subst (λ (v : NodeNo). HasBest (HasHalf rows) (HasHalf other) (place_of h.ranks c.args.a.0) v.0 up down c.meet_between-best.result) c.place-to.ensures from_is in
    subst (λ (r : Option Meeting). HasBest (HasArc h.up) (IsArcBack h.down) c.args.a.0 c.args.b.0 (by_vertex h.ranks names up) (by_vertex h.ranks names down) r)
    (sym c.with_name.ensures)
    (best_by h.ranks names c.requires.names (HasHalf rows) (HasArc h.up) (HasHalf other) (IsArcBack h.down) (up_renumbered h s.rules rows s.rows) (down_renumbered h t.rules other t.rows)
    c.args.a.0 c.args.b.0 (vertex_at h c.args.a c.requires.a) (vertex_at h c.args.b c.requires.b) up down c.meet_between-best.result sums best)
