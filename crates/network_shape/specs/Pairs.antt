-- The order of transfers.
--     IsPairBefore a b       a stands before b, by the stop that it leaves and then by that at its end
use Rattle.std.specs.Prelude.{[], ◌∷◌}
use Rattle.move_model.specs.declared.journey.Shortcut.{Shortcut}
use Rattle.move_model.specs.Shortcut.{IsLess}

abbrev pub IsPairBefore : Shortcut → Shortcut → Type 0
IsPairBefore a b = IsLess (a.from.0 ∷ a.to.0 ∷ []) (b.from.0 ∷ b.to.0 ∷ [])
