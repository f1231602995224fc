use Rattle.std.proofs.Common.{◌≡◌, ◌⊎◌}
use Rattle.std.specs.Prelude.{◌↔◌, Contains}
use Rattle.move_model.specs.declared.network.StopNo.{StopNo}
use Rattle.shortcut_build.specs.Collected.{IsAfter, HasNeeded}
use Rattle.shortcut_build.proofs.collect.collect.Given as goal

abbrev pub invariant-loop-k : goal.invariant-loop-k
invariant-loop-k l = record {
  network : l.search.network ≡ l.fn.search.network;
  rows : l.search.rows ≡ l.fn.search.rows;
  after : IsAfter l.search.place l.search.below l.starts l.k;
  pairs : (x y : StopNo) → Contains l.needed (x, y) ↔ (Contains l.fn.needed (x, y) ⊎ HasNeeded l.fn.search.network l.fn.search.rows l.starts l.k x y);
}
