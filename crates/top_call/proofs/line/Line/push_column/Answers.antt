use Rattle.std.proofs.Common.{append_assoc, refl}
use Rattle.top_call.specs.Status.{cause_words}
use Rattle.top_call.proofs.line.Line.push_column.Goals as goal

pub returns-clause-text : goal.returns-clause-text
unfolding cause_words
returns-clause-text c = rw (c.push_all-2.ensures, c.push_all.ensures, c.column_text.ensures.text, append_assoc) refl
