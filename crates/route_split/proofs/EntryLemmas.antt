-- The entries of lists that are made of others.
use Rattle.std.proofs.Common.{◌≡◌, ℕ, zero, suc, ◌+◌, ◌<◌, ◌⊎◌, inl, inr, List, [], ◌∷◌, ◌++◌, length, map, refl, sym, ap, ◌∙◌, arith, Some}
use Rattle.std.specs.Prelude.{slice_get, Contains}
use Rattle.std.specs.Option.{option_map}
use Rattle.std.proofs.lemmas.Option.{slice_get_within, slice_get-get_or, slice_get-map, get_or_from_slice_get, same_Some}
use Rattle.route_split.proofs.KeptLemmas.{none_at}

-- an entry of a list that was mapped
pub map_entry : {X Y : Type 0} (f : X → Y) (xs : List X) (k : ℕ) (y : Y) → slice_get (map f xs) k ≡ Some y → (x : X) × (slice_get xs k ≡ Some x) × (f x ≡ y)
map_entry f [] k y at = absurd (none_at y at)
map_entry f (x ∷ xs) zero y at = (x, refl, same_Some (f x) y at)
map_entry f (x ∷ xs) (suc k) y at = map_entry f xs k y at

pub entry_map : {X Y : Type 0} (f : X → Y) (xs : List X) (k : ℕ) (x : X) → slice_get xs k ≡ Some x → slice_get (map f xs) k ≡ Some (f x)
entry_map f xs k x at = slice_get-map f xs k ∙ ap (option_map f) at

pub some_at : {X : Type 0} (xs : List X) (k : ℕ) → k < length xs → (x : X) × (slice_get xs k ≡ Some x)
some_at [] k low = absurd (omega arith)
some_at (x ∷ xs) zero low = (x, refl)
some_at (x ∷ xs) (suc k) low = some_at xs k (omega arith)

-- equal entries of two lists whose maps are equal
pub same_at : {X Y : Type 0} (f : X → Y) (xs ys : List X) (k : ℕ) (x y : X) → map f xs ≡ map f ys → slice_get xs k ≡ Some x → slice_get ys k ≡ Some y → f x ≡ f y
same_at f xs ys k x y same at_x at_y =
    same_Some (f x) (f y) (sym (entry_map f xs k x at_x) ∙ ap (λ l. slice_get l k) same ∙ entry_map f ys k y at_y)

pub same_maps : {X Y : Type 0} (f : X → Y) (xs ys : List X) → length xs ≡ length ys
    → ((k : ℕ) (x y : X) → slice_get xs k ≡ Some x → slice_get ys k ≡ Some y → f x ≡ f y) → map f xs ≡ map f ys
same_maps f [] [] long same = refl
same_maps f [] (y ∷ ys) long same = absurd (omega (arith, long))
same_maps f (x ∷ xs) [] long same = absurd (omega (arith, long))
same_maps f (x ∷ xs) (y ∷ ys) long same =
    ap (λ z. z ∷ map f xs) (same 0 x y refl refl)
    ∙ ap (λ l. f y ∷ l) (same_maps f xs ys (omega (arith, long)) (λ k a b at_a at_b. same (suc k) a b at_a at_b))

pub append_cases : {X : Type 0} (xs ys : List X) (p : ℕ) (z : X) → slice_get (xs ++ ys) p ≡ Some z
    → (slice_get xs p ≡ Some z) ⊎ ((q : ℕ) × (p ≡ length xs + q) × (slice_get ys q ≡ Some z))
append_cases [] ys p z at = inr (p, omega arith, at)
append_cases (x ∷ xs) ys zero z at = inl at
append_cases (x ∷ xs) ys (suc p) z at = elim (append_cases xs ys p z at) [
  | inl first ↦ inl first
  | inr behind ↦ inr (behind.0, omega (arith, behind.1), behind.2)
]

pub append_behind : {X : Type 0} (xs ys : List X) (q : ℕ) (z : X) → slice_get ys q ≡ Some z → (p : ℕ) × (slice_get (xs ++ ys) p ≡ Some z)
append_behind [] ys q z at = (q, at)
append_behind (x ∷ xs) ys q z at = let rest = append_behind xs ys q z at in (suc rest.0, rest.1)

pub contains_entry : {X : Type 0} (xs : List X) (p : ℕ) (x : X) → slice_get xs p ≡ Some x → Contains xs x
contains_entry xs p x at = (p, slice_get_within xs p x at, get_or_from_slice_get xs p x x at)

pub entry_contained : {X : Type 0} (xs : List X) (x : X) → Contains xs x → (p : ℕ) × (slice_get xs p ≡ Some x)
entry_contained xs x (p, low, is) = (p, slice_get-get_or xs p x low ∙ ap (λ y. Some y) is)
