use Rattle.std.proofs.Common.{◌≡◌, ◌≤◌, drop}
use Rattle.move_model.specs.Time.{digits_after}
use Rattle.move_model.proofs.time.digits.Given as goal

abbrev pub invariant-loop-digit : goal.invariant-loop-digit
invariant-loop-digit l = record {
  so_far : digits_after l.value (drop l.digit-index l.text) ≡ digits_after 0 l.text;
  none : l.digit-index ≤ 0 → l.value ≤ 0;
  one : l.digit-index ≤ 1 → l.value ≤ 9;
  two : l.digit-index ≤ 2 → l.value ≤ 99;
  three : l.digit-index ≤ 3 → l.value ≤ 999;
}
