use Rattle.std.proofs.Common.{[]}
use Rattle.journey_print.proofs.rows.header_text.Goals as goal

pub returns : goal.returns
returns c = c.text_of.ensures _ (c.in_ok-add_header.ensures [] c.new_writer-out.ensures)
