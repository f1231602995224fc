use Rattle.std.proofs.Common.{◌≡◌, length, vec_len, vec_capacity}
use Rattle.core_search.specs.Stored.{IsStored}
use Rattle.core_search.proofs.labels.Labels.clear.Given as goal

abbrev pub invariant-loop-slot : goal.invariant-loop-slot
invariant-loop-slot l = record {
  stored : IsStored l.self-inside.slots.items l.self-inside.index.items (vec_capacity l.self-inside.slots);
  long : length l.self-inside.index.items ≡ length l.initial.self-inside.index.items;
}

abbrev pub decreases-loop-slot : goal.decreases-loop-slot
decreases-loop-slot l = vec_len l.self-inside.slots
