-- The first place at which a test passes.
use Rattle.std.proofs.Common.{◌≡◌, ◌∙◌, ◌+◌, ◌<◌, ℕ, suc, List, [], ◌∷◌, length, get_or, map, Bool, true, false, cond, Some, None, refl, ap, arith}
use Rattle.std.specs.Prelude.{position, nat_lt, not, is_none, ◌||◌}
use Rattle.std.specs.List.{position_or_len, list_any}
use Rattle.std.proofs.lemmas.List.{length-map}
use Rattle.std.proofs.lemmas.List.Sums.{position_or_len_is}

pub position-at : {X : Type 0} (p : X → Bool) (xs : List X) (i : ℕ) (d : X) → i < length xs
    → ((k : ℕ) → k < i → p (get_or xs k d) ≡ false) → p (get_or xs i d) ≡ true → position p xs ≡ Some i
position-at p xs i d lt before here =
    let first : position_or_len p xs ≡ i = position_or_len_is p xs i d (omega arith) before (λ _. here) in
    let within : nat_lt i (length xs) ≡ true = grind arith in
    rw (first, within) refl

pub position-none : {X : Type 0} (p : X → Bool) (xs : List X) (d : X)
    → ((k : ℕ) → k < length xs → p (get_or xs k d) ≡ false) → position p xs ≡ None
position-none p xs d before =
    let first : position_or_len p xs ≡ length xs = position_or_len_is p xs (length xs) d (omega arith) before (λ h. absurd (omega (arith, h))) in
    let past : nat_lt (length xs) (length xs) ≡ false = grind arith in
    rw (first, past) refl

position_or_len-map : {X Y : Type 0} (p : Y → Bool) (f : X → Y) (xs : List X) → position_or_len p (map f xs) ≡ position_or_len (λ x. p (f x)) xs
position_or_len-map p f [] = refl
position_or_len-map p f (x ∷ xs) = rw (position_or_len-map p f xs) refl

pub position-map : {X Y : Type 0} (p : Y → Bool) (f : X → Y) (xs : List X) → position p (map f xs) ≡ position (λ x. p (f x)) xs
position-map p f xs = rw (position_or_len-map p f xs, length-map xs f) refl

lt-suc : (n m : ℕ) → nat_lt n m ≡ nat_lt (1 + n) (suc m)
lt-suc n m = grind arith

first-cons : (b : Bool) (n m : ℕ) (rest : Bool) → rest ≡ nat_lt n m → (b || rest) ≡ nat_lt (cond (not b) (1 + n) 0) (suc m)
first-cons true n m rest e = grind arith
first-cons false n m rest e = e ∙ lt-suc n m

any-is : {X : Type 0} (p : X → Bool) (xs : List X) → list_any p xs ≡ nat_lt (position_or_len p xs) (length xs)
any-is p [] = refl
any-is p (x ∷ xs) = first-cons (p x) (position_or_len p xs) (length xs) (list_any p xs) (any-is p xs)

none-of : (b : Bool) (n : ℕ) → not b ≡ is_none (cond b (Some n) None)
none-of true n = refl
none-of false n = refl

-- a test passes nowhere where there is no first place
pub not-list_any : {X : Type 0} (p : X → Bool) (xs : List X) → not (list_any p xs) ≡ is_none (position p xs)
not-list_any p xs = ap not (any-is p xs) ∙ none-of _ (position_or_len p xs)
