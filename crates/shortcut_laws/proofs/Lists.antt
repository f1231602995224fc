-- Lists of what a function gives.
use Rattle.std.proofs.Common.{◌≡◌, ◌+◌, ◌<◌, List, length, map, get_or, sym, ap, ◌∙◌, arith}
use Rattle.std.specs.Prelude.{Contains}
use Rattle.std.specs.List.{AllAdjacentBelow}
use Rattle.std.proofs.lemmas.List.{length-map, get_or-map}
use Rattle.std.proofs.lemmas.List.Elements.{Contains-get_or}

pub Contains-map : {X Y : Type 0} (f : X → Y) (xs : List X) (x : X) → Contains xs x → Contains (map f xs) (f x)
Contains-map f xs x (k, lt, e) = (k, omega (arith, lt, length-map xs f), get_or-map f xs k x (f x) lt ∙ ap f e)

-- an item of which the function gives y; it is a value of the list whatever default is read past the end
pub Contains-from_map : {X Y : Type 0} (f : X → Y) (xs : List X) (d : X) (y : Y) → Contains (map f xs) y → (x : X) × Contains xs x × (f x ≡ y)
Contains-from_map f xs d y (k, lt, e) =
    let low : k < length xs = omega (arith, lt, length-map xs f) in
    (get_or xs k d, Contains-get_or xs k d low, sym (get_or-map f xs k d y low) ∙ e)

pub adjacent_map : {X Y : Type 0} (f : X → Y) (R : Y → Y → Type 0) (xs : List X) (c : X) → AllAdjacentBelow (λ a b. R (f a) (f b)) xs (length xs)
    → AllAdjacentBelow R (map f xs) (length (map f xs))
adjacent_map f R xs c rising k d lt =
    let long = length-map xs f in
    let low : k + 1 < length xs = omega (arith, lt, long) in
    let here = get_or-map f xs k c d (omega arith) in
    let next = get_or-map f xs (k + 1) c d low in
    rw (here, next) (rising k c low)
