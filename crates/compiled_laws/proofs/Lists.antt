-- Mapped lists by their items.
use Rattle.std.proofs.Common.{◌≡◌, List, map, refl, ap, ◌∙◌, arith}
use Rattle.std.specs.Prelude.{All, Contains}
use Rattle.std.proofs.lemmas.List.{get_or-map, length-map}
use Rattle.std.proofs.lemmas.List.Elements.{All-map, All-weaker, All-contains, All-contains_itself}

pub Contains-map : {X Y : Type 0} (f : X → Y) (xs : List X) (x : X) → Contains xs x → Contains (map f xs) (f x)
Contains-map f xs x (k, lt, e) = (k, omega (arith, lt, length-map xs f), get_or-map f xs k x (f x) lt ∙ ap f e)

-- what holds of each item that the list has holds of all
pub All-from_contains : {X : Type 0} (P : X → Type 0) (xs : List X) → ((x : X) → Contains xs x → P x) → All P xs
All-from_contains P xs each = All-weaker (Contains xs) P each xs (All-contains_itself xs)

pub record IsImage {X Y : Type 0} (f : X → Y) (xs : List X) (y : Y) : Type 0 where
  pub item : X
  pub has : Contains xs item
  pub is : f item ≡ y

pub image_of : {X Y : Type 0} (f : X → Y) (xs : List X) (y : Y) → Contains (map f xs) y → IsImage f xs y
image_of f xs y has =
    All-contains (IsImage f xs) (map f xs) y
    (All-map (IsImage f xs) f xs (All-from_contains (λ x. IsImage f xs (f x)) xs (λ x h. record { item = x; has = h; is = refl }))) has
