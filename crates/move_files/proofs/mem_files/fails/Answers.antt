use Rattle.std.proofs.Common.{arith}
use Rattle.std.proofs.lemmas.Map.Text.{text_keys}
use Rattle.move_files.proofs.mem_files.fails.Goals as goal

pub returns-then-fails-clause-others : goal.returns-then-fails-clause-others
returns-then-fails-clause-others c = grind (arith, text_keys)

pub returns-then-fails-clause-other_faults : goal.returns-then-fails-clause-other_faults
returns-then-fails-clause-other_faults c = grind (arith, text_keys)

pub returns-then-fails-clause-never_falls : goal.returns-then-fails-clause-never_falls
returns-then-fails-clause-never_falls c = λ n. grind (arith, text_keys)

pub returns-else-fails-clause-others : goal.returns-else-fails-clause-others
returns-else-fails-clause-others c = grind (arith, text_keys)

pub returns-else-fails-clause-other_faults : goal.returns-else-fails-clause-other_faults
returns-else-fails-clause-other_faults c = grind (arith, text_keys)

pub returns-else-fails-clause-never_falls : goal.returns-else-fails-clause-never_falls
returns-else-fails-clause-never_falls c = λ n. grind (arith, text_keys)
