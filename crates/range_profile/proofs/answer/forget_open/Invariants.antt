use Rattle.std.proofs.Common.{◌≡◌, length, None}
use Rattle.std.specs.List.{AllWithin}
use Rattle.range_profile.proofs.answer.forget_open.Given as goal

abbrev pub invariant-loop-k : goal.invariant-loop-k
invariant-loop-k l = record {
  many : length l.pending ≡ length l.fn.pending;
  none : AllWithin (λ span. span ≡ None) l.pending 0 l.k;
}
