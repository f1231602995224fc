use Rattle.std.proofs.Common.{◌≡◌, ◌∙◌, ◌-◌, ap, arith, decimal}
use Rattle.move_model.specs.Time.{time_text}
use Rattle.range_print.specs.Rows.{foot_record}
use Rattle.range_print.proofs.records.add_foot_row.Goals as goal

pub returns-clause-row : goal.returns-clause-row
unfolding foot_record
returns-clause-row c =
    let on_foot : c.saturating_sub-on_foot.result ≡ c.args.foot.now.pair.arrive - c.args.answer.now.first = omega (arith, c.saturating_sub-on_foot.ensures, c.from-3.ensures) in
    rw (
      c.as_bytes.ensures.value ∙ c.format.ensures.text,
      c.as_bytes-2.ensures.value ∙ c.format-2.ensures.text ∙ ap decimal on_foot,
      c.as_slice.ensures,
      c.as_bytes-3.ensures.value ∙ c.format-3.ensures.text,
      c.as_slice-2.ensures,
      c.as_bytes-4.ensures.value ∙ c.format-4.ensures.text,
      c.bytes.ensures ∙ c.write_time.ensures ∙ ap time_text c.from.ensures,
      c.bytes-2.ensures ∙ c.write_time-2.ensures ∙ ap time_text c.from-2.ensures,
    ) at c.add_record.ensures
