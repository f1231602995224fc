use Rattle.std.proofs.Common.{◌≡◌, length, None}
use Rattle.std.specs.List.{AllWithin}
use Rattle.range_spans.proofs.pending.no_leads.Given as goal

abbrev pub invariant-loop-k : goal.invariant-loop-k
invariant-loop-k l = record {
  many : length l.leads ≡ length l.fn.leads;
  none : AllWithin (λ lead. lead ≡ None) l.leads 0 l.k;
}
