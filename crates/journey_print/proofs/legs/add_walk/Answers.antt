use Rattle.std.proofs.Common.{◌≡◌, ◌+◌, ◌<◌, ◌≤◌, ◌^◌, length, get_or, refl, arith}
use Rattle.move_model.specs.declared.network.NodeNo.{NodeNo}
use Rattle.journey_print.specs.Legs.{least_seconds}
use Rattle.journey_print.proofs.IndexLemmas.{least_seconds-told}
use Rattle.journey_print.proofs.LegLemmas.{walk_on, walk_records-drop, walk_records-end}
use Rattle.journey_print.proofs.WritingLemmas.{left_is, none_written, row_written, all_written}
use Rattle.journey_print.proofs.legs.add_walk.Goals as goal

abbrev no_node : NodeNo
no_node = record { 0 = 0 }

pub loop-i-init : goal.loop-i-init
loop-i-init c = λ a b m walk small. (
  record { at = a; left = m; is_walk = walk; ends = refl },
  λ text h. none_written _ _ _ h,
)

pub loop-i-preserved : goal.loop-i-preserved
loop-i-preserved c = λ a b m is small.
    let n = c.args.network.now in
    let walk = c.args.walk.now in
    let i = c.loop-i.i in
    let was = c.loop-i.invariant a b m is small in
    let within : c.loop-i.i + 1 < length c.args.walk.now = omega arith in
    let on = walk_on n walk b (c.args.begin + m) i c.loop-i.begins _ no_node within was.0 refl in
    let told = least_seconds-told c.args.arcs.now n.arcs c.requires (get_or walk i no_node) (get_or walk (i + 1) no_node) in
    let step : c.loop-i.begins + least_seconds c.args.arcs.now (get_or walk i no_node) (get_or walk (i + 1) no_node) < 2 ^ 64
    → c.end-ends.result ≡ c.loop-i.begins + least_seconds c.args.arcs.now (get_or walk i no_node) (get_or walk (i + 1) no_node) = c.end-ends.ensures in
    let ends : c.end-ends.result ≡ c.loop-i.begins + least_seconds n.arcs (get_or walk i no_node) (get_or walk (i + 1) no_node) =
    (rw told at step) (omega (arith, on.ends, small)) in (
      walk_on n walk b (c.args.begin + m) i c.loop-i.begins _ no_node within was.0 (omega (arith, ends)),
      λ text h.
          row_written _ _ _ _ _ _ text
          (left_is
          (walk_records-drop c.args.number c.args.journey n.arcs walk i c.loop-i.begins _ no_node _ _ within (omega arith) (omega arith) (omega (arith, ends)))
          (was.1 text h))
          c.in_ok-add_arc.ensures,
    )

pub returns : goal.returns
returns c = λ a b m is small text h.
    let was = c.loop-i.invariant a b m is small in
    let past : length c.args.walk.now ≤ c.loop-i.i + 1 = omega arith in
    all_written _ _ _ text
    (left_is (walk_records-end c.args.number c.args.journey c.args.network.now.arcs c.args.walk.now c.loop-i.i c.loop-i.begins past)
    (was.1 text h))
