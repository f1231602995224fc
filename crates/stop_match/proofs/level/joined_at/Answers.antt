use Rattle.std.proofs.Common.{◌≡◌, ◌<◌, length, inl, inr, arith}
use Rattle.std.proofs.lemmas.Bool.{cases_lt}
use Rattle.std.proofs.lemmas.List.{get_or_default}
use Rattle.stop_match.specs.Cell.{no_cell}
use Rattle.stop_match.proofs.LevelLemmas.{Within-trans}
use Rattle.stop_match.proofs.level.joined_at.Goals as goal

pub loop-c-preserved : goal.loop-c-preserved
loop-c-preserved c = λ k d from less.
    let fine = c.args.fine.now in
    let first = c.joined-whole.ensures.first in
    let second = c.joined-whole.ensures.second in
    elim (cases_lt k c.loop-c.c) [
      | inl before ↦ Within-trans _ c.loop-c.whole _ (c.loop-c.invariant k d from before) first
      | inr here ↦
          let same : c.loop-c.c ≡ k = omega arith in
          let lt : c.loop-c.c < length fine = omega arith in
          rw (get_or_default fine c.loop-c.c no_cell d lt, same) at second
    ]
