-- Pairs of stops.
--     Pair               two stops
--     IsBefore p q       the one pair stands before the other, by its first stop, then by its second
--     IsRising pairs     each pair stands before every later one, so none stands twice
use Rattle.std.specs.Prelude.{ℕ, ◌<◌, List, [], ◌∷◌, length, slice_index_or}
use Rattle.move_model.specs.declared.network.StopNo.{StopNo}
use Rattle.move_model.specs.Shortcut.{IsLess}

abbrev pub Pair : Type 0
Pair = StopNo × StopNo

abbrev pub no_pair : Pair
no_pair = (record { 0 = 0 }, record { 0 = 0 })

abbrev pub pair_at : List Pair → ℕ → Pair
pair_at pairs k = slice_index_or pairs k no_pair

abbrev pub IsBefore : Pair → Pair → Type 0
IsBefore p q = IsLess (p.0.0 ∷ p.1.0 ∷ []) (q.0.0 ∷ q.1.0 ∷ [])

pub record IsRising (pairs : List Pair) : Type 0 where
  pub each : (i j : ℕ) → i < j → j < length pairs → IsBefore (pair_at pairs i) (pair_at pairs j)
