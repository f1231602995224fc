use Rattle.std.proofs.Common.{◌∙◌, sym}
use Rattle.tables.proofs.Marks.{marked, unmarked}
use Rattle.tables.proofs.rows.without_marks.Goals as goal

pub loop-after-preserved : goal.loop-after-preserved
loop-after-preserved c =
    let (found, after, long) = c.in-Some.ensures.cases in
    rw after (sym (marked _ found) ∙ c.loop-after.invariant)

pub returns : goal.returns
returns c = sym (unmarked _ c.in_default.ensures.cases) ∙ c.loop-after.invariant
