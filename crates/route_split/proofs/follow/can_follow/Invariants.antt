use Rattle.std.proofs.Common.{◌≡◌, ℕ, ◌<◌, ◌≤◌, Some}
use Rattle.std.specs.Prelude.{slice_get}
use Rattle.move_model.specs.declared.network.Call.{Call}
use Rattle.route_split.specs.Routes.{place_of}
use Rattle.route_split.proofs.follow.can_follow.Given as goal

abbrev pub invariant-loop-k : goal.invariant-loop-k
invariant-loop-k l = (k : ℕ) (c d : Call) → k < l.k → slice_get l.cs k ≡ Some c → slice_get l.ds k ≡ Some d
    → (place_of c ≡ place_of d) × (c.arr ≤ d.arr) × (c.dep ≤ d.dep)
