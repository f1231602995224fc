use Rattle.std.proofs.Common.{◌≡◌, ◌<◌, List, Option, Some, length, slice_set, true, ap, ◌∙◌, arith}
use Rattle.std.proofs.lemmas.Bool.Decides.{nat_tests}
use Rattle.std.proofs.lemmas.List.{length-map}
use Rattle.walk_hierarchy.specs.declared.labels.Label.{Label}
use Rattle.walk_hierarchy.specs.Labels.{is_label, label_of}
use Rattle.walk_hierarchy.proofs.LabelLaws.{read_absent, read_held, room_for, touched_first, touched_again, set_view}
use Rattle.walk_hierarchy.proofs.labels.Labels.lower.Goals as goal

pub push_reserved-requires : goal.push_reserved-requires
push_reserved-requires c =
    let q = c.self.inside in
    let low : c.args.at.0 < length q.marks.items = omega (arith, c.requires.exists, ap length c.self.view_is, length-map q.marks.items label_of) in
    let test : is_label c.args.label ≡ true = grind (arith, nat_tests) in
    let absent = read_absent q.marks.items c.args.at.0 c.index.result.now low c.index.ensures c.if-held.true in
    let room = room_for q.marks.items q.touched.items _ c.self.invariant c.args.at c.args.label low test absent in
    omega (arith, room, q.touched.ok.0)

pub invariant_of-self : goal.invariant_of-self
invariant_of-self c =
    let q = c.self.inside in
    let low : c.args.at.0 < length q.marks.items = omega (arith, c.requires.exists, ap length c.self.view_is, length-map q.marks.items label_of) in
    let test : is_label c.args.label ≡ true = grind (arith, nat_tests) in
    let absent = read_absent q.marks.items c.args.at.0 c.index.result.now low c.index.ensures c.if-held.true in
    rw (c.push_reserved.ensures.items, c.push_reserved.ensures.capacity)
    (touched_first q.marks.items q.touched.items _ c.self.invariant c.args.at c.args.label low test absent)

pub returns-then-held-clause-lowered : goal.returns-then-held-clause-lowered
returns-then-held-clause-lowered c =
    let q = c.self.inside in
    let low : c.args.at.0 < length q.marks.items = omega (arith, c.requires.exists, ap length c.self.view_is, length-map q.marks.items label_of) in
    let test : is_label c.args.label ≡ true = grind (arith, nat_tests) in
    set_view q.marks.items q.touched.items _ c.self.invariant c.args.at c.args.label low test
    ∙ ap (λ (labels : List (Option Label)). slice_set labels c.args.at.0 (Some c.args.label)) c.self.view_is

pub invariant_of-self-2 : goal.invariant_of-self-2
invariant_of-self-2 c =
    let q = c.self.inside in
    let low : c.args.at.0 < length q.marks.items = omega (arith, c.requires.exists, ap length c.self.view_is, length-map q.marks.items label_of) in
    let test : is_label c.args.label ≡ true = grind (arith, nat_tests) in
    let some : c.index.result.now.seconds < 18446744073709551615 = omega arith in
    touched_again q.marks.items q.touched.items _ c.self.invariant c.args.at c.args.label low test
    (read_held q.marks.items c.args.at.0 c.index.result.now low c.index.ensures some)

pub returns-clause-lowered : goal.returns-clause-lowered
returns-clause-lowered c =
    let q = c.self.inside in
    let low : c.args.at.0 < length q.marks.items = omega (arith, c.requires.exists, ap length c.self.view_is, length-map q.marks.items label_of) in
    let test : is_label c.args.label ≡ true = grind (arith, nat_tests) in
    set_view q.marks.items q.touched.items _ c.self.invariant c.args.at c.args.label low test
    ∙ ap (λ (labels : List (Option Label)). slice_set labels c.args.at.0 (Some c.args.label)) c.self.view_is
