-- What stands in front of bytes.
--     IsInFront form Rules bytes x rest      the form of x stands in front, with the rest behind it, and x keeps the rules
--     HasNoneInFront form Rules bytes        the form of no value that keeps the rules stands in front
use Rattle.std.specs.Prelude.{◌≡◌, ℕ, List, ◌++◌}

abbrev pub IsInFront : {X : Type 0} → (X → List ℕ) → (X → Type 0) → List ℕ → X → List ℕ → Type 0
IsInFront form Rules bytes x rest = (bytes ≡ form x ++ rest) × Rules x

abbrev pub HasNoneInFront : {X : Type 0} → (X → List ℕ) → (X → Type 0) → List ℕ → Type 0
HasNoneInFront {X} form Rules bytes = (x : X) (rest : List ℕ) → Rules x → bytes ≡ form x ++ rest → ⊥
