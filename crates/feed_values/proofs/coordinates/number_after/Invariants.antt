use Rattle.std.proofs.Common.{◌≡◌, ◌≤◌, drop}
use Rattle.feed_values.specs.Coordinate.{digits_after}
use Rattle.feed_values.proofs.coordinates.number_after.Given as goal

abbrev pub invariant-loop-digit : goal.invariant-loop-digit
invariant-loop-digit l = record {
  so_far : digits_after l.value (drop l.digit-index l.digits) ≡ digits_after l.number l.digits;
  limited : l.value ≤ l.most;
}
