use Rattle.std.proofs.Common.{◌≡◌, length, vec_len, vec_capacity}
use Rattle.walk_queue.specs.Heap.{IsStored}
use Rattle.walk_queue.proofs.queue.MinQueue.clear.Given as goal

abbrev pub invariant-loop-entry : goal.invariant-loop-entry
invariant-loop-entry g l = record {
  stored : IsStored g.K.Ord.cmp l.self-inside.slots.items l.self-inside.index.items (vec_capacity l.self-inside.slots);
  long : length l.self-inside.index.items ≡ length l.initial.self-inside.index.items;
}

abbrev pub decreases-loop-entry : goal.decreases-loop-entry
decreases-loop-entry g l = vec_len l.self-inside.slots
