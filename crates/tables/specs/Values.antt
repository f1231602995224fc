-- The values of a table's cells, and the rules on them.
--     number_of text, number_in text              the whole number that a text is, or None; the same with 0 for None
--     is_within low high text                     the text is a whole number of a range
--     number_broken low high text                 the rule that it is one (Number)
--     id_rules, id_broken text                    the rules of an id, in their order (IdEmpty, IdLong, NotUtf8)
--     time_in text, time_broken text              the second that a time is, or 0; the rule that a text is a time (Time)
use Rattle.std.specs.Prelude.{◌^◌, ◌&&◌, ◌==◌, ℕ, Bool, List, [], ◌∷◌, length, Option, Some, None, unwrap_or, is_some, nat_lt, nat_le, if◌then◌else◌}
use Rattle.std.specs.Str.{is_utf8}
use Rattle.move_model.specs.declared.refusal.Cause.{Cause}
use Rattle.move_model.specs.declared.refusal.Cause.TheVariants as cause
use Rattle.move_model.specs.Time.{digits_after, time_of}
use Rattle.refusals.specs.Refusal.{first_cause}

abbrev pub below : ℕ → Option ℕ → Option ℕ
below bound None = None
below bound (Some n) = if nat_lt n bound then Some n else None

-- a whole number: 1 to 20 decimal digits, below 2 ^ 64
unfoldable pub number_of : List ℕ → Option ℕ
number_of text = if nat_lt 0 (length text) && nat_le (length text) 20 then below (2 ^ 64) (digits_after 0 text) else None

abbrev pub number_in : List ℕ → ℕ
number_in text = unwrap_or (number_of text) 0

abbrev pub is_within : ℕ → ℕ → List ℕ → Bool
is_within low high text = is_some (number_of text) && nat_le low (number_in text) && nat_le (number_in text) high

unfoldable pub number_broken : ℕ → ℕ → List ℕ → Option Cause
number_broken low high text = if is_within low high text then None else Some cause.Number

-- an id has a byte, at most 255 of them, and is text in UTF-8
unfoldable pub id_empty : List ℕ → Option Cause
id_empty text = if length text == 0 then Some cause.IdEmpty else None

unfoldable pub id_long : List ℕ → Option Cause
id_long text = if nat_le (length text) 255 then None else Some (cause.IdLong (length text))

unfoldable pub id_not_utf8 : List ℕ → Option Cause
id_not_utf8 text = if is_utf8 text then None else Some cause.NotUtf8

abbrev pub id_rules : List (List ℕ → Option Cause)
id_rules = id_empty ∷ id_long ∷ id_not_utf8 ∷ []

abbrev pub id_broken : List ℕ → Option Cause
id_broken text = first_cause id_rules text

abbrev pub time_in : List ℕ → ℕ
time_in text = unwrap_or (time_of text) 0

unfoldable pub time_broken : List ℕ → Option Cause
time_broken text = if is_some (time_of text) then None else Some cause.Time
