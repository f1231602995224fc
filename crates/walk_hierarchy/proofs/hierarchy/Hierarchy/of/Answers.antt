use Rattle.std.proofs.Common.{◌≡◌, ◌≤◌, ◌∙◌, length}
use Rattle.std.proofs.lemmas.List.Elements.{All-same}
use Rattle.walk_hierarchy.specs.declared.rows.Side.TheVariants.{Out, Into}
use Rattle.walk_hierarchy.specs.Hierarchy.{Parts}
use Rattle.walk_hierarchy.specs.Places.{placed}
use Rattle.walk_hierarchy.specs.Rows.{vertex_of}
use Rattle.walk_hierarchy.proofs.HalfLaws.{low_up, low_down}
use Rattle.walk_hierarchy.proofs.hierarchy.Hierarchy.of.Goals as goal

pub new-requires-clause-vertices : goal.new-requires-clause-vertices
new-requires-clause-vertices c =
    let h : Parts = record { ranks = c.args.ranks; up = c.args.up; down = c.args.down } in
    let is : c.in_ok-placed_up.placed_up.items ≡ placed c.as_slice-2.result.now c.as_slice-3.result.now = c.in_ok-placed_up.ensures in
    let same : placed c.as_slice-2.result.now c.as_slice-3.result.now ≡ placed c.args.ranks c.args.up = λ i. placed (c.as_slice-2.ensures i) (c.as_slice-3.ensures i) in
    rw c.len-nodes.ensures
    (All-same (λ arc. vertex_of Out arc ≤ length c.args.ranks) c.as_slice-4.result.now (placed c.args.ranks c.args.up) (c.as_slice-4.ensures.value ∙ is ∙ same)
    (low_up h c.requires.rules))

pub new-requires-2-clause-vertices : goal.new-requires-2-clause-vertices
new-requires-2-clause-vertices c =
    let h : Parts = record { ranks = c.args.ranks; up = c.args.up; down = c.args.down } in
    let is : c.in_ok-placed_down.placed_down.items ≡ placed c.as_slice-5.result.now c.as_slice-6.result.now = c.in_ok-placed_down.ensures in
    let same : placed c.as_slice-5.result.now c.as_slice-6.result.now ≡ placed c.args.ranks c.args.down = λ i. placed (c.as_slice-5.ensures i) (c.as_slice-6.ensures i) in
    rw c.len-nodes.ensures
    (All-same (λ arc. vertex_of Into arc ≤ length c.args.ranks) c.as_slice-7.result.now (placed c.args.ranks c.args.down) (c.as_slice-7.ensures.value ∙ is ∙ same)
    (low_down h c.requires.rules))
