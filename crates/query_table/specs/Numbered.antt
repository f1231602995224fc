-- Stops that are numbered by their ids.
--     Numbers stops number found     the number, where there is one, is that of the stop that was found
--     IsNumbered entries stops       the entries of a map give of each id the number of the first stop with it
use Rattle.std.specs.Prelude.{◌≡◌, ◌<◌, ℕ, List, length, slice_get, Option, Some, None}
use Rattle.std.specs.Borrow.{Bor}
use Rattle.std.specs.Map.{lookup}
use Rattle.std.specs.Str.{bytes_eq}
use Rattle.move_model.specs.declared.network.Stop.{Stop}
use Rattle.query_table.specs.Places.{stop_named}

abbrev pub Numbers : List Stop → Option ℕ → Option Stop → Type 0
Numbers stops None found = found ≡ None
Numbers stops (Some number) found = (slice_get stops number ≡ found) × (number < length stops)

abbrev pub IsNumbered : List (Bor (List ℕ) × ℕ) → List Stop → Type 0
IsNumbered entries stops = (id : List ℕ) → Numbers stops (lookup (λ (key : Bor (List ℕ)). bytes_eq id key.now) entries) (stop_named id stops)
