-- What a queue holds: a list of optional keys, one for each place.
-- The least key comes first, and of equal keys that at the least place.
--     key_at keys p              the key at place p, or None where p has none
--     improves cmp k held        whether k is less than the key held, or none is held
--     IsEmpty keys               no place has a key
--     IsLeast cmp keys p k       k is the least key, and p the least place that has it
use Rattle.std.specs.Prelude.{◌≡◌, ℕ, ◌≤◌, ◌⊎◌, Bool, true, List, Option, Some, None, slice_index_or}
use Rattle.std.specs.Ordering.{is_lt}
use Rattle.std.specs.declared.cmp.Ordering.{Ordering}
use Rattle.std.specs.declared.cmp.Ordering.TheVariants.{Less, Equal}

abbrev pub key_at : {K : Type 0} → List (Option K) → ℕ → Option K
key_at keys place = slice_index_or keys place None

abbrev pub improves : {K : Type 0} → (K → K → Ordering) → K → Option K → Bool
improves cmp key None = true
improves cmp key (Some held) = is_lt (cmp key held)

abbrev pub IsEmpty : {K : Type 0} → List (Option K) → Type 0
IsEmpty keys = (place : ℕ) → key_at keys place ≡ None

-- the key stands at the place; any other key is greater, or is equal and stands at a later place
pub record IsLeast {K : Type 0} (cmp : K → K → Ordering) (keys : List (Option K)) (place : ℕ) (key : K) : Type 0 where
  pub held : key_at keys place ≡ Some key
  pub least : (p : ℕ) (k : K) → key_at keys p ≡ Some k → (cmp key k ≡ Less) ⊎ ((cmp key k ≡ Equal) × (place ≤ p))
