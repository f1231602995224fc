-- What a write that stopped leaves.
--     HoldsPartOf old bytes new      what was held, or the first bytes of these
use Rattle.std.specs.Prelude.{◌≡◌, ◌⊎◌, ℕ, List, take, Option, Some}

abbrev pub HoldsPartOf : Option (List ℕ) → List ℕ → Option (List ℕ) → Type 0
HoldsPartOf old bytes new = (new ≡ old) ⊎ ((n : ℕ) × (new ≡ Some (take n bytes)))
