-- The tables of a feed's files: the rules of a whole file, and of each row.
--     rows_broken rows                        the rule that a file has at most 50,000,000 rows (Limit)
--     file_broken missing rows                the first broken rule of the whole file, where `missing` is that of its columns
--     IsAccepted missing rows broken          no rule is broken, where `broken i` is the first rule that the i-th row breaks
--     IsTableRefusal missing rows broken row cause   the first rule that is broken, with its row; row 0 is the whole file
--     Refuses stop P                          the stop is for want of memory, or P holds of its file, row and cause
--     RefusesTable kind missing rows broken stop   the stop is for want of memory, or a refusal of this table
use Rattle.std.specs.Prelude.{◌≡◌, ℕ, ◌+◌, ◌<◌, ◌⊎◌, List, length, Option, Some, None, nat_le, if◌then◌else◌}
use Rattle.move_model.specs.declared.refusal.Cause.{Cause}
use Rattle.move_model.specs.declared.refusal.Cause.TheVariants as cause
use Rattle.move_model.specs.declared.refusal.FileKind.{FileKind}
use Rattle.move_model.specs.declared.refusal.Stopped.{Stopped}
use Rattle.move_model.specs.declared.refusal.Stopped.TheVariants as stopped
use Rattle.refusals.specs.Refusal.{or_then}

unfoldable pub rows_broken : List (List (List ℕ)) → Option Cause
rows_broken rows = if nat_le (length rows) 50000000 then None else Some (cause.Limit (length rows))

-- a column is missing, or else there are too many rows
abbrev pub file_broken : Option Cause → List (List (List ℕ)) → Option Cause
file_broken missing rows = or_then missing (rows_broken rows)

pub record IsAccepted (missing : Option Cause) (rows : List (List (List ℕ))) (broken : ℕ → Option Cause) : Type 0 where
  pub whole : file_broken missing rows ≡ None
  pub each : (i : ℕ) → i < length rows → broken i ≡ None

-- the first of the rows, which are numbered from 1, that breaks a rule
pub record IsRefusedRow (rows : List (List (List ℕ))) (broken : ℕ → Option Cause) (row : ℕ) (because : Cause) : Type 0 where
  pub place : ℕ
  pub number : row ≡ place + 1
  pub within : place < length rows
  pub earlier : (i : ℕ) → i < place → broken i ≡ None
  pub breaks : broken place ≡ Some because

-- the rules of the whole file come first, as row 0, and then those of the rows
abbrev pub IsTableRefusal : Option Cause → List (List (List ℕ)) → (ℕ → Option Cause) → ℕ → Cause → Type 0
IsTableRefusal missing rows broken row because =
    ((row ≡ 0) × (file_broken missing rows ≡ Some because)) ⊎ ((file_broken missing rows ≡ None) × IsRefusedRow rows broken row because)

abbrev pub Refuses : Stopped → (FileKind → ℕ → Cause → Type 0) → Type 0
Refuses stopped.NoMemory P = Unit {0}
Refuses (stopped.Refused refusal) P = P refusal.file refusal.row refusal.cause

abbrev pub RefusesTable : FileKind → Option Cause → List (List (List ℕ)) → (ℕ → Option Cause) → Stopped → Type 0
RefusesTable kind missing rows broken stop = Refuses stop (λ file row because. (file ≡ kind) × IsTableRefusal missing rows broken row because)
