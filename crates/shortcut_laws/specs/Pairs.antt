-- Pairs of stops as shortcuts.
--     Pair                       two stops
--     IsPairBefore p q           the one pair stands before the other, by its first stop, then by its second
--     ArePairsRising pairs       each pair stands before the next one, so none stands twice
--     IsPairNeeded n x y         some start needs a walk from x to y
--     AreNeededPairs n pairs     the pairs are exactly these
--     shortcut_of seconds pair   the walk between the stops of a pair, with its seconds
use Rattle.std.specs.Prelude.{ℕ, ◌↔◌, List, [], ◌∷◌, length, Contains}
use Rattle.std.specs.List.{AllAdjacentBelow}
use Rattle.move_model.specs.declared.network.Network.{Network}
use Rattle.move_model.specs.declared.network.StopNo.{StopNo}
use Rattle.move_model.specs.declared.journey.Shortcut.{Shortcut}
use Rattle.move_model.specs.Shortcut.{IsLess}
use Rattle.piece_laws.specs.Pieces.{IsNeeded}

abbrev pub Pair : Type 0
Pair = StopNo × StopNo

abbrev pub IsPairBefore : Pair → Pair → Type 0
IsPairBefore p q = IsLess (p.0.0 ∷ p.1.0 ∷ []) (q.0.0 ∷ q.1.0 ∷ [])

abbrev pub ArePairsRising : List Pair → Type 0
ArePairsRising pairs = AllAdjacentBelow IsPairBefore pairs (length pairs)

-- a candidate from u at second z that nothing betters walks from x to y
pub record IsPairNeeded (n : Network) (x y : StopNo) : Type 0 where
  pub u : StopNo
  pub z : ℕ
  pub needed : IsNeeded n (u ∷ []) z x y

abbrev pub AreNeededPairs : Network → List Pair → Type 0
AreNeededPairs n pairs = (x y : StopNo) → Contains pairs (x, y) ↔ IsPairNeeded n x y

abbrev pub shortcut_of : (StopNo → StopNo → ℕ) → Pair → Shortcut
shortcut_of seconds pair = record { from = pair.0; to = pair.1; seconds = seconds pair.0 pair.1 }
