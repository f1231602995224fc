-- The stops where a ride is just caught, by second of a window.
--     HasSeed seeds k stop     the list of the k-th second has the stop
--     Grow old new             no list has lost a stop
--     AreWithin stops seeds    each stop of a list exists
use Rattle.std.specs.Prelude.{◌≡◌, ◌<◌, ℕ, List, length, slice_get, Contains, Some}
use Rattle.std.specs.declared.alloc.Global.{Global}
use Rattle.std.specs.declared.vec.Vec.{Vec}
use Rattle.move_model.specs.declared.network.StopNo.{StopNo}

pub record HasSeed (seeds : List (Vec StopNo Global)) (k : ℕ) (stop : StopNo) : Type 0 where
  pub list : Vec StopNo Global
  pub is_list : slice_get seeds k ≡ Some list
  pub has : Contains list.items stop

pub record Grow (old new : List (Vec StopNo Global)) : Type 0 where
  pub many : length new ≡ length old
  pub each : (k : ℕ) (stop : StopNo) → HasSeed old k stop → HasSeed new k stop

abbrev pub AreWithin : ℕ → List (Vec StopNo Global) → Type 0
AreWithin stops seeds = (k : ℕ) (stop : StopNo) → HasSeed seeds k stop → stop.0 < stops
