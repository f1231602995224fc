use Rattle.std.proofs.Common.{◌≡◌, ◌+◌, length}
use Rattle.stop_rows.proofs.PlaceLemmas.{IsMarking}
use Rattle.stop_rows.proofs.places.marks_of.Given as goal

abbrev pub invariant-loop-stop : goal.invariant-loop-stop
invariant-loop-stop l = record {
  marking : IsMarking l.stops l.stop-index l.marks.items;
  many : length l.marks.items ≡ l.last + 1;
}
