use Rattle.std.proofs.Common.{◌∙◌, ap}
use Rattle.move_model.specs.Time.{time_text}
use Rattle.range_print.specs.Rows.{range_none_record}
use Rattle.range_print.proofs.records.add_none_row.Goals as goal

pub returns : goal.returns
unfolding range_none_record
returns c =
    rw (
      c.as_bytes.ensures.value ∙ c.format.ensures.text,
      c.as_slice.ensures,
      c.as_bytes-2.ensures.value ∙ c.format-2.ensures.text,
      c.as_slice-2.ensures,
      c.as_bytes-3.ensures.value ∙ c.format-3.ensures.text,
      c.bytes.ensures ∙ c.write_time.ensures ∙ ap time_text c.from.ensures,
      c.bytes-2.ensures ∙ c.write_time-2.ensures ∙ ap time_text c.from-2.ensures,
    ) at c.add_record.ensures
