use Rattle.std.proofs.Common.{◌≡◌, ◌∙◌, true, false, sym, ap}
use Rattle.std.specs.Prelude.{◌==◌, slice_index}
use Rattle.std.proofs.lemmas.List.{take_rest}
use Rattle.street_graph.specs.Text.{number_of}
use Rattle.street_graph.specs.Co.{signed_of, signed_by}
use Rattle.street_graph.proofs.co.signed_number.Goals as goal

pub returns-then-is_negative : goal.returns-then-is_negative
unfolding signed_of
returns-then-is_negative c =
    let minus : (slice_index c.args.field.now 0 == 45) ≡ true = sym c.is_negative.ensures.value ∙ c.if-is_negative.true in
    rw minus (c.signed_by.ensures ∙ ap (signed_by true) (c.number.ensures ∙ ap number_of (take_rest c.args.field.now 1)))

pub returns-else-is_negative : goal.returns-else-is_negative
unfolding signed_of
returns-else-is_negative c =
    let plus : (slice_index c.args.field.now 0 == 45) ≡ false = sym c.is_negative.ensures.value ∙ c.if-is_negative.false in
    rw plus (c.signed_by-else-is_negative.ensures ∙ ap (signed_by false) c.number-else-is_negative.ensures)
