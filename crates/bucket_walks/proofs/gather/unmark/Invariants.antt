use Rattle.std.proofs.Common.{◌≡◌, ℕ, Some, None, take, get_or}
use Rattle.std.specs.Prelude.{Contains}
use Rattle.walk_hierarchy.specs.declared.settled.Settled.{Settled}
use Rattle.bucket_walks.proofs.gather.unmark.Given as goal

-- what is left of the marks are those of vertices that are still to come
abbrev pub invariant-loop-there : goal.invariant-loop-there
invariant-loop-there l = record {
  kept : (v m : ℕ) → get_or l.marks v None ≡ Some m → get_or l.initial.marks v None ≡ Some m;
  gone : (there : Settled) → Contains (take l.there-index l.settled) there → get_or l.marks there.node.0 None ≡ None;
}
