-- The first broken rule of an input. A rule looks at a place and gives the cause where it is broken there, else None.
--     HoldAt rules x                               every rule holds at the place x
--     IsFirstBroken rules x cause                  the first rule that is broken at x gives this cause
--     Accepted rules at n                          every rule holds at each of the places of n rows
--     IsFirstRefusal rules at n row cause          this row is the first that breaks a rule, by the first rule that it breaks
--     FileAccepted, IsFileRefusal                  the same with the rules of the whole file first, as row 0
--     or_then, first_cause                         the first cause of two, and of a list of rules
--     Tests result broken value                    the result is this value where the cause is None, else the cause
use Rattle.std.specs.Prelude.{◌≡◌, ◌<◌, ◌+◌, ◌⊎◌, ℕ, List, [], ◌∷◌, ◌++◌, Option, Some, None, Result, Ok, Err}
use Rattle.std.specs.List.{AllByRecursion}

-- every rule holds at a place
abbrev pub HoldAt : {X C : Type 0} → List (X → Option C) → X → Type 0
HoldAt rules x = AllByRecursion (λ rule. rule x ≡ None) rules

-- a rule is broken at a place, and each rule before it in the order holds there
pub record IsFirstBroken {X C : Type 0} (rules : List (X → Option C)) (x : X) (cause : C) : Type 0 where
  pub before : List (X → Option C)
  pub rule : X → Option C
  pub after : List (X → Option C)
  pub order : rules ≡ before ++ rule ∷ after
  pub hold : HoldAt before x
  pub broken : rule x ≡ Some cause

-- every rule holds at the place of each of the first n rows
abbrev pub Accepted : {X C : Type 0} → List (X → Option C) → (ℕ → X) → ℕ → Type 0
Accepted rules at n = (i : ℕ) → i < n → HoldAt rules (at i)

-- of n rows, which are numbered from 1, this one is the first that breaks a rule, and the first rule that it breaks has this cause
pub record IsFirstRefusal {X C : Type 0} (rules : List (X → Option C)) (at : ℕ → X) (n row : ℕ) (cause : C) : Type 0 where
  pub place : ℕ
  pub number : row ≡ place + 1
  pub within : place < n
  pub earlier : Accepted rules at place
  pub broken : IsFirstBroken rules (at place) cause

-- every rule of the whole file holds, and every rule of a row at each row
abbrev pub FileAccepted : {F X C : Type 0} → List (F → Option C) → F → List (X → Option C) → (ℕ → X) → ℕ → Type 0
FileAccepted whole file rules at n = HoldAt whole file × Accepted rules at n

-- the rules of the whole file come first, as row 0, and then those of the rows
abbrev pub IsFileRefusal : {F X C : Type 0} → List (F → Option C) → F → List (X → Option C) → (ℕ → X) → ℕ → ℕ → C → Type 0
IsFileRefusal whole file rules at n row cause =
    ((row ≡ 0) × IsFirstBroken whole file cause) ⊎ (HoldAt whole file × IsFirstRefusal rules at n row cause)

-- the first cause of two
abbrev pub or_then : {C : Type 0} → Option C → Option C → Option C
or_then None later = later
or_then (Some cause) later = Some cause

-- the cause of the first rule that is broken at a place
abbrev pub first_cause : {X C : Type 0} → List (X → Option C) → X → Option C
first_cause [] x = None
first_cause (rule ∷ rules) x = or_then (rule x) (first_cause rules x)

-- a test of a rule gives a value where the rule holds, and otherwise the cause
abbrev pub Tests : {V C : Type 0} → Result V C → Option C → V → Type 0
Tests (Ok v) broken value = (broken ≡ None) × (v ≡ value)
Tests (Err cause) broken value = broken ≡ Some cause
