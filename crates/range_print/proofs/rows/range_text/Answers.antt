use Rattle.std.proofs.Common.{[]}
use Rattle.range_print.proofs.rows.range_text.Goals as goal

pub returns : goal.returns
returns c = λ all. c.text_of.ensures _ (c.in_ok-add_range.ensures all [] c.new_writer-out.ensures)
