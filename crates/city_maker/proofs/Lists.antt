-- What holds of each item of a list that is made from others.
use Rattle.std.proofs.Common.{◌≡◌, ℕ, ◌+◌, ◌*◌, ◌<◌, ◌≤◌, Bool, true, false, cond, List, [], ◌∷◌, length, sym, subst, arith, length-append}
use Rattle.std.specs.Prelude.{All}
use Rattle.std.specs.List.{flat_map, range_with_len, enumerate_from}
use Rattle.std.proofs.lemmas.List.Elements.{All-nil, All-cons, All-head, All-tail, All-append}
use Rattle.std.proofs.lemmas.List.FromFn.{length-range_with_len, get_or-range_with_len}

pub All-flat_map : {X Y : Type 0} (P : Y → Type 0) (f : X → List Y) (xs : List X) → All (λ x. All P (f x)) xs → All P (flat_map f xs)
All-flat_map P f [] h = All-nil P
All-flat_map P f (x ∷ xs) h =
    All-append P (f x) (flat_map f xs) (All-head (λ x. All P (f x)) x xs h) (All-flat_map P f xs (All-tail (λ x. All P (f x)) x xs h))

pub All-range : (P : ℕ → Type 0) (a n : ℕ) → ((k : ℕ) → a ≤ k → k < a + n → P k) → All P (range_with_len a n)
All-range P a n h = λ k d low.
    let within : k < n = omega (arith, low, length-range_with_len a n) in
    subst P (sym (get_or-range_with_len a n k d within)) (h (a + k) (omega arith) (omega arith))

pub All-enumerate_from : {X : Type 0} (P : X → Type 0) (n : ℕ) (xs : List X) → All P xs → All (λ (p : ℕ × X). P p.1) (enumerate_from n xs)
All-enumerate_from P n [] h = All-nil (λ p. P p.1)
All-enumerate_from P n (x ∷ xs) h =
    All-cons (λ p. P p.1) (n, x) (enumerate_from (n + 1) xs) (All-head P x xs h) (All-enumerate_from P (n + 1) xs (All-tail P x xs h))

pub All-one : {X : Type 0} (P : X → Type 0) (b : Bool) (x : X) → (b ≡ true → P x) → All P (cond b (x ∷ []) [])
All-one P true x h = All-cons P x [] (h (λ i. true)) (All-nil P)
All-one P false x h = All-nil P

pub All-two : {X : Type 0} (P : X → Type 0) (b : Bool) (x y : X) → (b ≡ true → P x × P y) → All P (cond b (x ∷ y ∷ []) [])
All-two P true x y h = let both = h (λ i. true) in All-cons P x (y ∷ []) both.0 (All-cons P y [] both.1 (All-nil P))
All-two P false x y h = All-nil P

pub length-flat_map-eq : {X Y : Type 0} (f : X → List Y) (m : ℕ) (xs : List X) → ((x : X) → length (f x) ≡ m) → length (flat_map f xs) ≡ length xs * m
length-flat_map-eq f m [] h = omega arith
length-flat_map-eq f m (x ∷ xs) h = omega (arith, length-append (f x) (flat_map f xs), h x, length-flat_map-eq f m xs h)

pub length-flat_map-le : {X Y : Type 0} (f : X → List Y) (m : ℕ) (xs : List X) → ((x : X) → length (f x) ≤ m) → length (flat_map f xs) ≤ length xs * m
length-flat_map-le f m [] h = omega arith
length-flat_map-le f m (x ∷ xs) h = omega (arith, length-append (f x) (flat_map f xs), h x, length-flat_map-le f m xs h)
