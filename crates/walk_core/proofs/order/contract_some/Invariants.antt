use Rattle.std.proofs.Common.{◌≡◌, vec_len, length}
use Rattle.walk_core.specs.Bridge.{view_of}
use Rattle.walk_core.specs.State.{IsSound, Advances}
use Rattle.walk_core.proofs.order.contract_some.Given as goal

abbrev pub invariant-loop-step : goal.invariant-loop-step
invariant-loop-step l = record {
  sound : IsSound (view_of l.out l.into l.rank) l.contracted.items;
  advances : Advances l.keep (view_of l.initial.out l.initial.into l.initial.rank) (view_of l.out l.into l.rank);
  labels : vec_len l.scratch.search.labels ≡ length l.rank;
}
