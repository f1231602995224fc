use Rattle.std.proofs.Common.{◌≡◌, take, map, vec_capacity}
use Rattle.walk_hierarchy.proofs.LabelLaws.{name_of}
use Rattle.walk_hierarchy.proofs.labels.Labels.list.Given as goal

abbrev pub invariant-loop-place : goal.invariant-loop-place
invariant-loop-place l = record {
  listed : l.settled.items ≡ map (name_of l.names l.self-inside.marks.items) (take l.place-index l.place-items);
  capacity : vec_capacity l.settled ≡ vec_capacity l.fn.settled;
}
