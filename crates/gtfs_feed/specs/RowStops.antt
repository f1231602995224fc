-- Why a row was not taken.
--     Breaks broken stop               the rules of a row, of which this is the first cause, stop it
--     IsRowStop file rows row stop     what a stop says of the file, the row and the cause of its refusal
use Rattle.std.specs.Prelude.{◌≡◌, ℕ, ◌<◌, ◌≤◌, ◌⊎◌, Option, Some}
use Rattle.move_model.specs.declared.refusal.FileKind.{FileKind}
use Rattle.move_model.specs.declared.refusal.Cause.{Cause}
use Rattle.move_model.specs.declared.refusal.Cause.TheVariants as cause
use Rattle.gtfs_feed.specs.declared.refuse.RowStop.{RowStop}
use Rattle.gtfs_feed.specs.declared.refuse.RowStop.TheVariants as row_stop

-- a file of too many rows is refused for their number, and another for the rule that the row breaks
abbrev pub IsRowStop : FileKind → ℕ → ℕ → RowStop → FileKind → ℕ → Cause → Type 0
IsRowStop file rows row stop refused at because =
    (refused ≡ file) × (((at ≡ 0) × (because ≡ cause.Limit rows) × (50000000 < rows)) ⊎ ((at ≡ row) × (stop ≡ row_stop.Broken because) × (rows ≤ 50000000)))

-- a row that breaks a rule is stopped by it
abbrev pub Breaks : Option Cause → RowStop → Type 0
Breaks broken row_stop.NoMemory = Unit {0}
Breaks broken (row_stop.Broken because) = broken ≡ Some because
