use Rattle.std.proofs.Common.{◌≤◌, length, ◌∙◌, ◌++◌, ap, arith}
use Rattle.std.specs.Prelude.{decimal}
use Rattle.std.proofs.lemmas.Fmt.{length-decimal-le}
use Rattle.move_model.proofs.time.TimeText.push_hours.Goals as goal

pub returns-else-hours-lt10-clause-room : goal.returns-else-hours-lt10-clause-room
returns-else-hours-lt10-clause-room c h =
    let short : length (decimal c.args.hours) ≤ 16 = length-decimal-le 16 c.args.hours (omega arith) h (omega arith) in
    let text = c.push_all.ensures ∙ ap (λ old. old ++ c.as_bytes.result.now) c.requires ∙ c.as_bytes.ensures.value ∙ c.format.ensures.text in
    rw text short
