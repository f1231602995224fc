-- Ids of a table's rows.
--     is_empty text                      the text has no byte
--     repeated_broken earlier id         the rule that an id was in no earlier row (Repeated)
--     unknown_broken cause names id      the rule that a table of these names has an id
use Rattle.std.specs.Prelude.{ℕ, ◌==◌, Bool, List, length, Option, Some, None, is_some, if◌then◌else◌}
use Rattle.move_model.specs.declared.refusal.Cause.{Cause}
use Rattle.move_model.specs.declared.refusal.Cause.TheVariants as cause
use Rattle.tables.specs.Names.{place_of}

abbrev pub is_empty : List ℕ → Bool
is_empty text = length text == 0

unfoldable pub repeated_broken : List (List ℕ) → List ℕ → Option Cause
repeated_broken earlier id = if is_some (place_of id earlier) then Some cause.Repeated else None

unfoldable pub unknown_broken : Cause → List (List ℕ) → List ℕ → Option Cause
unknown_broken because names id = if is_some (place_of id names) then None else Some because
