use Rattle.std.proofs.Common.{◌≡◌, length}
use Rattle.stop_rows.proofs.PlaceLemmas.{IsNumbering}
use Rattle.stop_rows.proofs.places.number.Given as goal

abbrev pub invariant-loop-v : goal.invariant-loop-v
invariant-loop-v l = record {
  numbering : IsNumbering l.marks l.v l.nodes.items l.at.items;
  many : length l.at.items ≡ length l.marks;
}
