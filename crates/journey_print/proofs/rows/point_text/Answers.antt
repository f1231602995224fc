use Rattle.std.proofs.Common.{[]}
use Rattle.journey_print.proofs.rows.point_text.Goals as goal

pub returns : goal.returns
returns c = λ all. c.text_of.ensures _ (c.in_ok-add_point.ensures all [] c.new_writer-out.ensures)
