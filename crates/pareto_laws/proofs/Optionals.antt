-- Optional numbers, where an absent number is greater than all others: the lesser of two, and the total of two.
use Rattle.std.proofs.Common.{◌≡◌, ℕ, ◌+◌, ◌≤◌, ◌⊎◌, min, refl, ap, inl, inr, arith, Option, Some, None}
use Rattle.std.proofs.lemmas.Bool.{cases_lt}
use Rattle.std.proofs.lemmas.Option.{same_Some}

-- there is a number, and it is at most m
abbrev pub AtMost : Option ℕ → ℕ → Type 0
AtMost None m = ⊥
AtMost (Some l) m = l ≤ m

abbrev pub lesser : Option ℕ → Option ℕ → Option ℕ
lesser None p = p
lesser (Some l) None = Some l
lesser (Some l) (Some k) = Some (min l k)

abbrev pub total : Option ℕ → Option ℕ → Option ℕ
total None p = None
total (Some l) None = None
total (Some l) (Some k) = Some (l + k)

pub AtMost-more : (o : Option ℕ) (l m : ℕ) → AtMost o l → l ≤ m → AtMost o m
AtMost-more None l m h e = h
AtMost-more (Some k) l m h e = omega arith

pub lesser_left : (o p : Option ℕ) (m : ℕ) → AtMost o m → AtMost (lesser o p) m
lesser_left None p m h = absurd h
lesser_left (Some l) None m h = h
lesser_left (Some l) (Some k) m h = omega arith

pub lesser_right : (o p : Option ℕ) (m : ℕ) → AtMost p m → AtMost (lesser o p) m
lesser_right None p m h = h
lesser_right (Some l) None m h = absurd h
lesser_right (Some l) (Some k) m h = omega arith

pub lesser_is : (o p : Option ℕ) (m : ℕ) → lesser o p ≡ Some m → (o ≡ Some m) ⊎ (p ≡ Some m)
lesser_is None p m e = inr e
lesser_is (Some l) None m e = inl e
lesser_is (Some l) (Some k) m e = min_is l k m (same_Some _ _ e)
  where
    min_is : (l k m : ℕ) → min l k ≡ m → (Some l ≡ Some m) ⊎ (Some k ≡ Some m)
    min_is l k m e = elim (cases_lt l k) [ inl h ↦ inl (ap Some (omega arith)) | inr h ↦ inr (ap Some (omega arith)) ]

pub lesser_cases : (o p : Option ℕ) (m : ℕ) → AtMost (lesser o p) m → AtMost o m ⊎ AtMost p m
lesser_cases None p m h = inr h
lesser_cases (Some l) None m h = inl h
lesser_cases (Some l) (Some k) m h = min_cases l k m h
  where
    min_cases : (l k m : ℕ) → min l k ≤ m → (l ≤ m) ⊎ (k ≤ m)
    min_cases l k m h = grind arith

pub total_of : (o p : Option ℕ) (l k : ℕ) → AtMost o l → AtMost p k → AtMost (total o p) (l + k)
total_of None p l k h g = absurd h
total_of (Some a) None l k h g = absurd g
total_of (Some a) (Some b) l k h g = omega arith

pub record IsTotal (o p : Option ℕ) (m : ℕ) : Type 0 where
  pub left : ℕ
  pub right : ℕ
  pub left_is : AtMost o left
  pub right_is : AtMost p right
  pub within : left + right ≤ m

pub total_parts : (o p : Option ℕ) (m : ℕ) → AtMost (total o p) m → IsTotal o p m
total_parts None p m h = absurd h
total_parts (Some a) None m h = absurd h
total_parts (Some a) (Some b) m h =
    record { left = a; right = b; left_is = omega arith; right_is = omega arith; within = h }

-- a number that is there
pub AtMost_some : (o : Option ℕ) (m : ℕ) → AtMost o m → (l : ℕ) × (o ≡ Some l) × (l ≤ m)
AtMost_some None m h = absurd h
AtMost_some (Some l) m h = (l, refl, h)
