-- Lists: filters of parts, of maps and of sorted lists.
use Rattle.std.proofs.Common.{◌≡◌, ℕ, zero, suc, ◌+◌, ◌<◌, ◌≤◌, Bool, true, false, cond, List, [], ◌∷◌, ◌++◌, length, take, drop, refl, sym, ap, ◌∙◌, arith, append-nil, length-append, length-drop, length-take}
use Rattle.std.specs.Prelude.{map, filter, All}
use Rattle.std.specs.List.{AllWithin}
use Rattle.std.proofs.lemmas.List.{take-append-drop, get_or-take, get_or-drop}
use Rattle.std.proofs.lemmas.List.Elements.{All-head, All-tail, filter-append}

-- a change that leaves each element as it is
pub map-same : {X : Type 0} (f : X → X) → ((x : X) → f x ≡ x) → (xs : List X) → map f xs ≡ xs
map-same f h [] = refl
map-same f h (x ∷ xs) = λ i. h x i ∷ map-same f h xs i

pub map-agree : {X Y : Type 0} (f g : X → Y) → ((x : X) → f x ≡ g x) → (xs : List X) → map f xs ≡ map g xs
map-agree f g h [] = refl
map-agree f g h (x ∷ xs) = λ i. h x i ∷ map-agree f g h xs i

pub filter-map : {X Y : Type 0} (p : Y → Bool) (f : X → Y) (xs : List X) → filter p (map f xs) ≡ map f (filter (λ x. p (f x)) xs)
filter-map p f [] = refl
filter-map p f (x ∷ xs) = by (p (f x)) (filter-map p f xs)
  where
    by : (b : Bool) → filter p (map f xs) ≡ map f (filter (λ x. p (f x)) xs)
        → cond b (f x ∷ filter p (map f xs)) (filter p (map f xs)) ≡ map f (cond b (x ∷ filter (λ x. p (f x)) xs) (filter (λ x. p (f x)) xs))
    by true e = λ i. f x ∷ e i
    by false e = e

pub filter_all : {X : Type 0} (p : X → Bool) (xs : List X) → All (λ x. p x ≡ true) xs → filter p xs ≡ xs
filter_all p [] h = refl
filter_all p (x ∷ xs) h =
    let here : p x ≡ true = All-head (λ x. p x ≡ true) x xs h in
    let rest = filter_all p xs (All-tail (λ x. p x ≡ true) x xs h) in
    rw here (λ i. x ∷ rest i)

pub filter_none : {X : Type 0} (p : X → Bool) (xs : List X) → All (λ x. p x ≡ false) xs → filter p xs ≡ []
filter_none p [] h = refl
filter_none p (x ∷ xs) h =
    let here : p x ≡ false = All-head (λ x. p x ≡ false) x xs h in
    rw here (filter_none p xs (All-tail (λ x. p x ≡ false) x xs h))

-- what passes from a place on, where nothing before it does
pub filter_from : {X : Type 0} (p : X → Bool) (xs : List X) (i : ℕ) → AllWithin (λ x. p x ≡ false) xs 0 i → AllWithin (λ x. p x ≡ true) xs i (length xs)
    → filter p xs ≡ drop i xs
filter_from p [] zero below above = refl
filter_from p [] (suc i) below above = refl
filter_from p (x ∷ xs) zero below above = filter_all p (x ∷ xs) (λ k d h. above k d (omega arith) h)
filter_from p (x ∷ xs) (suc i) below above =
    let here : p x ≡ false = below 0 x (omega arith) (omega arith) in
    rw here (filter_from p xs i (λ k d low high. below (suc k) d (omega arith) (omega arith)) (λ k d low high. above (suc k) d (omega arith) (omega arith)))

pub length-filter-le : {X : Type 0} (p : X → Bool) (xs : List X) → length (filter p xs) ≤ length xs
length-filter-le p [] = omega arith
length-filter-le p (x ∷ xs) = by (p x) (length-filter-le p xs)
  where
    by : (b : Bool) → length (filter p xs) ≤ length xs → length (cond b (x ∷ filter p xs) (filter p xs)) ≤ length (x ∷ xs)
    by true h = omega arith
    by false h = omega arith

-- what passes before a place, and what passes from it on
filter_split : {X : Type 0} (p : X → Bool) (i : ℕ) (xs : List X) → filter p xs ≡ filter p (take i xs) ++ filter p (drop i xs)
filter_split p i xs = ap (filter p) (sym (take-append-drop i xs)) ∙ filter-append p (take i xs) (drop i xs)

-- where the last but one passes, and so the last, two pass
pub two_pass : {X : Type 0} (p : X → Bool) (xs : List X) (n : ℕ) → length xs ≡ n + 2 → AllWithin (λ x. p x ≡ true) xs n (length xs) → 2 ≤ length (filter p xs)
two_pass p xs n long h =
    let last = filter_all p (drop n xs) (λ k d low. rw (get_or-drop n xs k d) (h (n + k) d (omega arith) (omega (arith, low, length-drop n xs)))) in
    omega (arith, ap length (filter_split p n xs), length-append (filter p (take n xs)) (filter p (drop n xs)), ap length last, length-drop n xs)

-- where all but the last fail, at most one passes
pub one_pass : {X : Type 0} (p : X → Bool) (xs : List X) (n : ℕ) → length xs ≡ n + 1 → AllWithin (λ x. p x ≡ false) xs 0 n → length (filter p xs) < 2
one_pass p xs n long h =
    let none = filter_none p (take n xs) (λ k d low. rw (get_or-take n xs k d (omega (arith, low, length-take n xs))) (h k d (omega arith) (omega (arith, low, length-take n xs)))) in
    omega (arith, ap length (filter_split p n xs), length-append (filter p (take n xs)) (filter p (drop n xs)), ap length none, length-filter-le p (drop n xs), length-drop n xs)

-- the part between two places, where what stands before and behind it fails
pub filter_part : {X : Type 0} (p : X → Bool) (xs : List X) (i n : ℕ) → AllWithin (λ x. p x ≡ false) xs 0 i
    → AllWithin (λ x. p x ≡ true) (drop i xs) 0 n → AllWithin (λ x. p x ≡ false) (drop i xs) n (length (drop i xs))
    → filter p xs ≡ take n (drop i xs)
filter_part p xs i n before in' behind =
    let rest = drop i xs in
    let none = filter_none p (take i xs) (λ k d low. rw (get_or-take i xs k d (omega (arith, low, length-take i xs))) (before k d (omega arith) (omega (arith, low, length-take i xs)))) in
    let all = filter_all p (take n rest) (λ k d low. rw (get_or-take n rest k d (omega (arith, low, length-take n rest))) (in' k d (omega arith) (omega (arith, low, length-take n rest)))) in
    let end = filter_none p (drop n rest) (λ k d low. rw (get_or-drop n rest k d) (behind (n + k) d (omega arith) (omega (arith, low, length-drop n rest)))) in
    filter_split p i xs ∙ (λ j. none j ++ filter_split p n rest j) ∙ (λ j. all j ++ end j) ∙ append-nil (take n rest)
