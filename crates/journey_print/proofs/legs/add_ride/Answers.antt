use Rattle.std.proofs.Common.{◌≡◌, ◌∙◌, ap, arith, decimal}
use Rattle.move_model.specs.declared.network.NodeNo.{NodeNo}
use Rattle.move_model.specs.Time.{time_text}
use Rattle.journey_print.specs.Legs.{ride_record}
use Rattle.journey_print.proofs.legs.add_ride.Goals as goal

pub returns-clause-row : goal.returns-clause-row
unfolding ride_record
returns-clause-row c =
    let departs : c.from.result ≡ c.args.on.now.dep = omega (arith, c.from.ensures) in
    let arrives : c.from-2.result ≡ c.args.off.now.arr = omega (arith, c.from-2.ensures) in
    rw (
      c.as_bytes.ensures.value ∙ c.format.ensures.text,
      c.as_bytes-2.ensures.value ∙ c.format-2.ensures.text,
      c.as_slice.ensures,
      c.name_of.ensures,
      c.as_bytes-3.ensures.value ∙ (c.format-3.ensures.text ∙ ap (λ (v : NodeNo). decimal v.0) c.vertex_of.ensures),
      c.name_of-2.ensures,
      c.as_bytes-4.ensures.value ∙ (c.format-4.ensures.text ∙ ap (λ (v : NodeNo). decimal v.0) c.vertex_of-2.ensures),
      c.bytes.ensures ∙ (c.write_time.ensures ∙ ap time_text departs),
      c.bytes-2.ensures ∙ (c.write_time-2.ensures ∙ ap time_text arrives),
    ) at c.add_record.ensures
