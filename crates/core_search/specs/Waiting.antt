-- Labels that wait, one at most for each vertex.
--     HasNone labels             no vertex has a label
--     IsPut old new v x          the label x came to v, where the lesser of it and the one that waited waits now
--     admitted                   the same for an optional label
--     IsTaken old new v x        x, the least label, was taken from v
use Rattle.std.specs.Prelude.{◌≡◌, ◌≢◌, ◌⊎◌, ℕ, List, Option, Some, None, length}
use Rattle.core_search.specs.declared.label.Label.{Label}
use Rattle.core_search.specs.Label.{IsUpto, label_at}

abbrev pub HasNone : List (Option Label) → Type 0
HasNone labels = (v : ℕ) → label_at labels v ≡ None

pub record IsPut (old new : List (Option Label)) (v : ℕ) (x : Label) : Type 0 where
  pub y : Label
  pub held : label_at new v ≡ Some y
  pub upto : IsUpto y x
  pub is : (y ≡ x) ⊎ (label_at old v ≡ Some y)
  pub lowered : (z : Label) → label_at old v ≡ Some z → IsUpto y z
  pub others : (u : ℕ) → u ≢ v → label_at new u ≡ label_at old u
  pub many : length new ≡ length old

abbrev pub IsAdmitted : List (Option Label) → List (Option Label) → ℕ → Option Label → Type 0
IsAdmitted old new v None = new ≡ old
IsAdmitted old new v (Some x) = IsPut old new v x

pub record IsTaken (old new : List (Option Label)) (v : ℕ) (x : Label) : Type 0 where
  pub held : label_at old v ≡ Some x
  pub least : (u : ℕ) (y : Label) → label_at old u ≡ Some y → IsUpto x y
  pub here : label_at new v ≡ None
  pub others : (u : ℕ) → u ≢ v → label_at new u ≡ label_at old u
  pub many : length new ≡ length old
