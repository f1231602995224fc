use Rattle.std.proofs.Common.{◌≡◌, ◌+◌, ℕ, List, drop}
use Rattle.std.specs.Prelude.{All}
use Rattle.journey_print.specs.Legs.{IsPrintable}
use Rattle.journey_print.specs.Records.{HasText, findings_from}
use Rattle.journey_print.proofs.WritingLemmas.{Writes}
use Rattle.journey_print.proofs.rows.add_findings.Given as goal

abbrev pub invariant-loop-finding : goal.invariant-loop-finding
invariant-loop-finding l = record {
  count : l.journey ≡ l.finding-index + 1;
  so_far : All (IsPrintable l.network) l.answer.found → (text : List ℕ) → HasText l.fn.out text
      → Writes l.fn.out l.out (findings_from l.number 1 l.network l.answer l.answer.found)
      (findings_from l.number l.journey l.network l.answer (drop l.finding-index l.answer.found)) text;
}
