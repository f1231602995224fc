use Rattle.std.proofs.Common.{◌≡◌, ◌≤◌, ◌<◌, ℕ, length, take, vec_capacity}
use Rattle.std.specs.Prelude.{false, slice_get, Some}
use Rattle.witness_prune.proofs.open.open_counted.Given as goal

abbrev pub invariant-loop-route : goal.invariant-loop-route
invariant-loop-route g l = record {
  routes : l.routes.items ≡ take l.route l.table.routes;
  many : length l.routes.items ≡ l.route;
  room : length l.table.routes ≤ vec_capacity l.routes;
  marks : length l.marks ≡ length l.table.routes;
  unmarked : (r : ℕ) → l.route ≤ r → r < length l.table.routes → slice_get l.marks r ≡ Some false;
}
