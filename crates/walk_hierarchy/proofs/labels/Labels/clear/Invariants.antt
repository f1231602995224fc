use Rattle.std.proofs.Common.{◌≡◌, length, vec_len, vec_capacity}
use Rattle.walk_hierarchy.specs.Labels.{IsTouched}
use Rattle.walk_hierarchy.proofs.labels.Labels.clear.Given as goal

abbrev pub invariant-loop-node : goal.invariant-loop-node
invariant-loop-node l = record {
  touched : IsTouched l.self-inside.marks.items l.self-inside.touched.items (vec_capacity l.self-inside.touched);
  long : length l.self-inside.marks.items ≡ length l.initial.self-inside.marks.items;
}

abbrev pub decreases-loop-node : goal.decreases-loop-node
decreases-loop-node l = vec_len l.self-inside.touched
