use Rattle.std.proofs.Common.{◌≡◌, ℕ, ◌<◌, ◌≤◌, vec_len, length, slice_index_or}
use Rattle.move_model.specs.Streets.{Streets}
use Rattle.walk_laws.specs.Sums.{last_rank}
use Rattle.walk_core.specs.Bridge.{view_of}
use Rattle.walk_core.specs.State.{IsSound, IsRight}
use Rattle.walk_core.proofs.rest.contract_each.Given as goal

abbrev pub invariant-loop-at : goal.invariant-loop-at
invariant-loop-at l = record {
  sound : IsSound (view_of l.out l.into l.rank) l.contracted.items;
  right : (graph : Streets) → IsRight graph (view_of l.initial.out l.initial.into l.initial.rank) → IsRight graph (view_of l.out l.into l.rank);
  labels : vec_len l.scratch.search.labels ≡ length l.rank;
  gone : (v : ℕ) → 1 ≤ v → v < l.at → slice_index_or l.rank v last_rank < last_rank;
}
