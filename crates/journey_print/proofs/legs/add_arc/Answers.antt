use Rattle.std.proofs.Common.{◌∙◌}
use Rattle.journey_print.specs.Legs.{walk_record}
use Rattle.journey_print.proofs.legs.add_arc.Goals as goal

pub returns : goal.returns
unfolding walk_record
returns c =
    rw (
      c.as_bytes.ensures.value ∙ c.format.ensures.text,
      c.as_bytes-2.ensures.value ∙ c.format-2.ensures.text,
      c.as_bytes-3.ensures.value ∙ c.format-3.ensures.text,
      c.as_bytes-4.ensures.value ∙ c.format-4.ensures.text,
      c.bytes.ensures ∙ c.write_time.ensures,
      c.bytes-2.ensures ∙ c.write_time-2.ensures,
    ) at c.add_record.ensures
