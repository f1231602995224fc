use Rattle.std.proofs.Common.{◌≡◌, ◌<◌, ◌^◌, drop}
use Rattle.move_model.specs.Time.{digits_after}
use Rattle.tables.proofs.value.digits.Given as goal

abbrev pub invariant-loop-digit : goal.invariant-loop-digit
invariant-loop-digit l = record {
  so_far : digits_after l.value (drop l.digit-index l.text) ≡ digits_after 0 l.text;
  fits : l.value < 2 ^ 64;
}
