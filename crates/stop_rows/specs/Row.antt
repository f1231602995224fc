-- The entries of one row.
--     start                      the label of the vertex where a search begins
--     entry_of label             the seconds of a label, or never where there is none or they are too many
use Rattle.std.specs.Prelude.{ℕ, nat_le, if◌then◌else◌, Option, Some, None}
use Rattle.core_search.specs.declared.label.Label.{Label}
use Rattle.stop_rows.specs.Rows.{never, last_second}

abbrev pub start : Label
start = record { seconds = 0; rest = record { a = 0; b = 0; trip = 0; ready = 0; y = 0; a1 = 0; c = 0 } }

abbrev pub entry_of : Option Label → ℕ
entry_of None = never
entry_of (Some label) = if nat_le label.seconds last_second then label.seconds else never
