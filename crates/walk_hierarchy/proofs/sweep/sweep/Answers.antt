use Rattle.std.proofs.Common.{Option, None, length, refl, sym, ap, ◌∙◌}
use Rattle.std.proofs.lemmas.List.{length-replicate}
use Rattle.walk_hierarchy.specs.declared.labels.Label.{Label}
use Rattle.walk_hierarchy.proofs.SearchLaws.{none_waits}
use Rattle.walk_hierarchy.proofs.SweepLaws.{sweep_first, length_with, waits_label, sweeping_taken, room_sweep, least_swept}
use Rattle.walk_hierarchy.proofs.sweep.sweep.Goals as goal

pub mark-requires-clause-room : goal.mark-requires-clause-room
mark-requires-clause-room c = ap length c.requires.waiting ∙ length-replicate {A = Option (Unit {0})} (length c.args.labels.now) None

pub places-init : goal.places-init
places-init c =
    let x : Label = record { seconds = 0; parent = c.args.from } in
    record {
      sweep = sweep_first c.args.rows.now c.args.from.0 (length c.args.labels.now) x c.args.labels.now c.mark.new.labels c.args.waiting.now c.mark.new.waiting
          c.requires.from refl c.requires.labels c.requires.waiting refl c.mark.ensures.labels c.mark.ensures.waiting;
      many = ap length c.mark.ensures.labels ∙ length_with c.args.labels.now c.args.from.0 x;
    }

pub label-seconds-requires : goal.label-seconds-requires
label-seconds-requires c =
    waits_label c.args.rows.now c.args.from.0 c.in-Some.at _ c.places.labels c.places.waiting c.places.invariant.sweep c.in-Some.ensures.least.held

pub leave-requires-clause-sweeping : goal.leave-requires-clause-sweeping
leave-requires-clause-sweeping c = (
  c.args.from.0,
  sweeping_taken c.args.rows.now c.args.from.0 c.in-Some.at _ c.label-seconds.result c.places.labels c.places.waiting c.take_least.new.self
      c.places.invariant.sweep c.in-Some.ensures.least.held c.label-seconds.ensures c.in-Some.ensures.taken,
)

pub places-preserved : goal.places-preserved
places-preserved c = record {
  sweep = c.leave.ensures.sweep c.args.from.0
      (sweeping_taken c.args.rows.now c.args.from.0 c.in-Some.at _ c.label-seconds.result c.places.labels c.places.waiting c.take_least.new.self
      c.places.invariant.sweep c.in-Some.ensures.least.held c.label-seconds.ensures c.in-Some.ensures.taken);
  many = c.leave.ensures.many ∙ c.places.invariant.many;
}

pub returns-clause-least : goal.returns-clause-least
returns-clause-least c =
    least_swept c.args.rows.now (length c.args.labels.now) c.requires.climbs c.args.from.0 c.places.labels c.places.waiting c.places.invariant.sweep (c.in_default.ensures.none.0 refl)

pub returns-clause-waiting : goal.returns-clause-waiting
returns-clause-waiting c =
    c.in_default.ensures.kept
    ∙ none_waits c.places.waiting (length c.args.labels.now)
    (room_sweep c.args.rows.now c.args.from.0 c.places.labels c.places.waiting c.places.invariant.sweep ∙ c.places.invariant.many)
    (c.in_default.ensures.none.0 refl)
    ∙ sym c.requires.waiting
