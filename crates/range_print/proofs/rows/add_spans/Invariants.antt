use Rattle.std.proofs.Common.{◌≡◌, ◌+◌, ℕ, List, drop}
use Rattle.std.specs.Prelude.{All}
use Rattle.journey_print.specs.Legs.{IsPrintable}
use Rattle.journey_print.specs.Records.{HasText}
use Rattle.journey_print.proofs.WritingLemmas.{Writes}
use Rattle.range_print.specs.Rows.{spans_from}
use Rattle.range_print.proofs.rows.add_spans.Given as goal

abbrev pub invariant-loop-found : goal.invariant-loop-found
invariant-loop-found l = record {
  count : l.journey ≡ l.begin + l.found-index;
  so_far : All (λ found. IsPrintable l.network found.finding) l.answer.spans → (text : List ℕ) → HasText l.fn.out text
      → Writes l.fn.out l.out (spans_from l.number l.begin l.network l.answer l.answer.spans)
      (spans_from l.number l.journey l.network l.answer (drop l.found-index l.answer.spans)) text;
}
