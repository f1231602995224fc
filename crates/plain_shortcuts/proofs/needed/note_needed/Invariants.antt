use Rattle.std.proofs.Common.{◌≡◌, ◌⊎◌, ◌+◌, ℕ}
use Rattle.std.specs.Prelude.{◌↔◌, Contains}
use Rattle.move_model.specs.declared.network.StopNo.{StopNo}
use Rattle.move_model.specs.Network.{node_of}
use Rattle.plain_shortcuts.specs.Needed.{AreChanges, HasArrivals}
use Rattle.plain_shortcuts.proofs.NeededLemmas.{NeededBelow}
use Rattle.plain_shortcuts.proofs.needed.note_needed.Given as goal

abbrev pub invariant-loop-k : goal.invariant-loop-k
invariant-loop-k l = (z : ℕ) → l.departs ≡ z + l.network.buffer → AreChanges l.network l.stop z l.changes → HasArrivals l.network (node_of l.network l.stop) z l.arrivals
    → (x y : StopNo) → Contains l.pairs.items (x, y) ↔ (Contains l.fn.pairs.items (x, y) ⊎ NeededBelow l.network l.stop z l.changes l.k x y)
