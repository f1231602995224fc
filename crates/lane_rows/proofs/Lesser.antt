-- The lesser of two numbers in each lane.
use Rattle.std.proofs.Common.{◌≡◌, ℕ, ◌-◌, ◌^◌, ◌<◌, ◌≤◌, Bool, true, false, cond, min, nat_lt, List, [], ◌∷◌, map, refl, sym, ap₂, arith, ltb-true, ltb-false}
use Rattle.std.proofs.Math.Nat.{min-eq_left, min-eq_right}
use lib.Lanes.{zip2, sel_l, top}

lesser : (b : Bool) (x y : ℕ) → nat_lt x y ≡ b → cond (top 31 (cond b (2 ^ 32 - 1) 0)) x y ≡ min x y
lesser true x y less = let below : x < y = ltb-true x y less in sym (min-eq_left (omega arith))
lesser false x y over = sym (min-eq_right (ltb-false x y over))

pub each_lesser : (xs ys : List ℕ) → sel_l (map (top 31) (zip2 (λ a b. cond (nat_lt a b) (2 ^ 32 - 1) 0) xs ys)) xs ys ≡ zip2 min xs ys
each_lesser [] ys = refl
each_lesser (x ∷ xs) [] = refl
each_lesser (x ∷ xs) (y ∷ ys) = ap₂ (λ m ms. m ∷ ms) (lesser (nat_lt x y) x y refl) (each_lesser xs ys)
