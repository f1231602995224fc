use Rattle.std.proofs.Common.{◌≡◌, length, vec_len, vec_capacity}
use Rattle.core_search.specs.Stored.{IsStored, labels_in}
use Rattle.core_search.proofs.StoreLemmas.{IsMoving}
use Rattle.core_search.proofs.labels.Labels.move_to.Given as goal

abbrev pub invariant-loop-slot : goal.invariant-loop-slot
invariant-loop-slot l = record {
  stored : IsStored l.self-inside.slots.items l.self-inside.index.items (vec_capacity l.self-inside.slots);
  long : length l.self-inside.index.items ≡ length l.initial.self-inside.index.items;
  moving : IsMoving (labels_in l.initial.self-inside.slots.items l.initial.self-inside.index.items) (labels_in l.self-inside.slots.items l.self-inside.index.items) l.waiting;
}

abbrev pub decreases-loop-slot : goal.decreases-loop-slot
decreases-loop-slot l = vec_len l.self-inside.slots
