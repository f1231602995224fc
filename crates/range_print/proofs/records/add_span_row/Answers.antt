use Rattle.std.proofs.Common.{◌∙◌, ap}
use Rattle.move_model.specs.Time.{time_text}
use Rattle.range_print.specs.Rows.{span_record}
use Rattle.range_print.proofs.records.add_span_row.Goals as goal

pub returns-clause-row : goal.returns-clause-row
unfolding span_record
returns-clause-row c =
    rw (
      c.as_bytes.ensures.value ∙ c.format.ensures.text,
      c.as_bytes-2.ensures.value ∙ c.format-2.ensures.text,
      c.as_bytes-3.ensures.value ∙ c.format-3.ensures.text,
      c.as_slice.ensures,
      c.as_bytes-4.ensures.value ∙ c.format-4.ensures.text,
      c.as_slice-2.ensures,
      c.as_bytes-5.ensures.value ∙ c.format-5.ensures.text,
      c.bytes.ensures ∙ c.write_time.ensures ∙ ap time_text c.from.ensures,
      c.bytes-2.ensures ∙ c.write_time-2.ensures ∙ ap time_text c.from-2.ensures,
      c.bytes-3.ensures ∙ c.write_time-3.ensures,
    ) at c.add_record.ensures
