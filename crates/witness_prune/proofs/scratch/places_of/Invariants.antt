use Rattle.std.proofs.Common.{◌≡◌, ◌≤◌, ◌<◌, length, take, vec_capacity}
use Rattle.std.specs.Prelude.{All}
use Rattle.witness_prune.proofs.scratch.places_of.Given as goal

abbrev pub invariant-loop-stop : goal.invariant-loop-stop
invariant-loop-stop l = record {
  places : l.places.items ≡ take l.stop l.rows.places;
  many : length l.places.items ≡ l.stop;
  room : length l.rows.places ≤ vec_capacity l.places;
  within : All (λ p. p < length l.rows.nodes) l.places.items;
}
