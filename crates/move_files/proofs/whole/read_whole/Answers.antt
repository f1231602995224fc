use Rattle.std.proofs.Common.{◌≡◌, ◌∙◌, ap, Err, arith}
use Rattle.std.specs.Prelude.{IsErrOf}
use Rattle.move_files.specs.declared.whole.ReadStop.{ReadStop}
use Rattle.move_files.proofs.Fronts.{front-longer, front-more, front-whole}
use Rattle.move_files.proofs.whole.read_whole.Goals as goal

-- the same stop, as the error of a result of another type
same-stop : {T U : Type 0} (stop which : ReadStop) → IsErrOf {T = T} (Err stop) which → IsErrOf {T = U} (Err stop) which
same-stop stop which e = let same : stop ≡ which = cc in ap Err same

pub loop-piece-preserved : goal.loop-piece-preserved
loop-piece-preserved g c = record {
  contents = c.read_more.ensures.contents ∙ c.loop-piece.invariant.contents;
  front = λ t. front-more _ _ _ _ (c.loop-piece.invariant.front t) c.in-Ok-read_more.ensures.grown (rw c.loop-piece.invariant.contents at (c.in-Ok-read_more.ensures.goes_on t));
  faults = λ n. omega (arith, c.loop-piece.invariant.faults n, c.read_more.ensures.read_counts.0 n);
  misses = λ n. omega (arith, c.loop-piece.invariant.misses n, c.read_more.ensures.read_counts.1 n);
  writes = c.read_more.ensures.write_counts ∙ c.loop-piece.invariant.writes;
}

-- the end of the file
pub returns-in-Ok-eq0-clause-ok : goal.returns-in-Ok-eq0-clause-ok
returns-in-Ok-eq0-clause-ok g c = λ t. front-whole _ _ _ _ c.in-Ok-eq0.field-0-test (c.loop-piece.invariant.front t) (rw c.loop-piece.invariant.contents at (c.in-Ok-eq0.ensures.goes_on t))

pub returns-in-Ok-eq0-clause-within : goal.returns-in-Ok-eq0-clause-within
returns-in-Ok-eq0-clause-within g c = omega (arith, c.in-Ok-eq0.ensures.grown, c.in-Ok-eq0.field-0-test)

pub returns-in-Ok-eq0-clause-contents : goal.returns-in-Ok-eq0-clause-contents
returns-in-Ok-eq0-clause-contents g c = c.read_more.ensures.contents ∙ c.loop-piece.invariant.contents

pub returns-in-Ok-eq0-clause-read_counts : goal.returns-in-Ok-eq0-clause-read_counts
returns-in-Ok-eq0-clause-read_counts g c = (λ n. omega (arith, c.loop-piece.invariant.faults n, c.read_more.ensures.read_counts.0 n), λ n. omega (arith, c.loop-piece.invariant.misses n, c.read_more.ensures.read_counts.1 n))

pub returns-in-Ok-eq0-clause-write_counts : goal.returns-in-Ok-eq0-clause-write_counts
returns-in-Ok-eq0-clause-write_counts g c = c.read_more.ensures.write_counts ∙ c.loop-piece.invariant.writes

-- a stop at a read
pub returns-in-Err-clause-missing : goal.returns-in-Err-clause-missing
returns-in-Err-clause-missing g c = λ e. omega (arith, c.loop-piece.invariant.misses c.args.name.now, c.in-Err.ensures.missing (same-stop _ _ e))

pub returns-in-Err-clause-missing_told : goal.returns-in-Err-clause-missing_told
returns-in-Err-clause-missing_told g c = λ t e. rw c.loop-piece.invariant.contents at (c.in-Err.ensures.missing_told t (same-stop _ _ e))

pub returns-in-Err-clause-fault : goal.returns-in-Err-clause-fault
returns-in-Err-clause-fault g c = λ e. omega (arith, c.loop-piece.invariant.faults c.args.name.now, c.in-Err.ensures.fault (same-stop _ _ e))

pub returns-in-Err-clause-fault_told : goal.returns-in-Err-clause-fault_told
returns-in-Err-clause-fault_told g c = λ t e. rw c.loop-piece.invariant.contents at (c.in-Err.ensures.fault_told t (same-stop _ _ e))

pub returns-in-Err-clause-too_long : goal.returns-in-Err-clause-too_long
returns-in-Err-clause-too_long g c = λ n e. absurd (c.in-Err.ensures.never_too_long n (same-stop _ _ e))

pub returns-in-Err-clause-too_long_told : goal.returns-in-Err-clause-too_long_told
returns-in-Err-clause-too_long_told g c = λ t n e. absurd (c.in-Err.ensures.never_too_long n (same-stop _ _ e))

pub returns-in-Err-clause-contents : goal.returns-in-Err-clause-contents
returns-in-Err-clause-contents g c = c.read_more.ensures.contents ∙ c.loop-piece.invariant.contents

pub returns-in-Err-clause-read_counts : goal.returns-in-Err-clause-read_counts
returns-in-Err-clause-read_counts g c = (λ n. omega (arith, c.loop-piece.invariant.faults n, c.read_more.ensures.read_counts.0 n), λ n. omega (arith, c.loop-piece.invariant.misses n, c.read_more.ensures.read_counts.1 n))

pub returns-in-Err-clause-write_counts : goal.returns-in-Err-clause-write_counts
returns-in-Err-clause-write_counts g c = c.read_more.ensures.write_counts ∙ c.loop-piece.invariant.writes

-- past the limit
pub returns-clause-too_long_told : goal.returns-clause-too_long_told
returns-clause-too_long_told g c = λ t n e. front-longer _ _ _ (c.loop-piece.invariant.front t) (omega arith)
