use Rattle.std.proofs.Common.{◌⊎◌, []}
use Rattle.std.specs.Prelude.{◌↔◌, Contains}
use Rattle.move_model.specs.declared.network.StopNo.{StopNo}
use Rattle.shortcut_laws.specs.Pairs.{Pair}
use Rattle.plain_shortcuts.proofs.NeededLemmas.{PairBelow}
use Rattle.plain_shortcuts.proofs.needed.needed_pairs.Given as goal

abbrev pub invariant-loop-k : goal.invariant-loop-k
invariant-loop-k l = (x y : StopNo) → Contains l.pairs.items (x, y) ↔ (Contains {X = Pair} [] (x, y) ⊎ PairBelow l.network l.rides l.k x y)
