use Rattle.std.proofs.Common.{◌≡◌, ◌-◌, ◌^◌, length}
use Rattle.raptor_rounds.specs.Least.{Sizes, IsReset}
use Rattle.raptor_rounds.proofs.turns.reset.Given as goal

abbrev pub invariant-loop-x : goal.invariant-loop-x
invariant-loop-x l = record {
  sizes : Sizes (length l.fn.ready.seconds) l.ready l.found;
  reset : IsReset l.first l.depart l.x l.ready l.found;
  best : l.found.best ≡ 2 ^ 64 - 1;
}
