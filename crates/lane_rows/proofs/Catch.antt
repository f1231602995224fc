-- One entry of a row, counted in each lane.
use Rattle.std.proofs.Common.{◌≡◌, ℕ, zero, suc, ◌+◌, ◌-◌, ◌%◌, ◌^◌, ◌<◌, ◌≤◌, Bool, true, false, cond, nat_lt, List, [], ◌∷◌, map, length, get_or, replicate, count_by, take, refl, sym, ap, ◌∙◌, subst, arith, add-zero}
use Rattle.std.proofs.Math.Nat.{mod-eq_of_lt}
use Rattle.std.proofs.lemmas.List.{length-take-le}
use Rattle.std.proofs.lemmas.List.Sums.{count_by_more_no, count_by_more_yes, count_by-le-length}
use lib.Lanes.{zip2, sel_l, top}

-- how many of the first i entries are below r
abbrev pub found_below : List ℕ → ℕ → ℕ → ℕ
found_below row i r = count_by (λ x. nat_lt x r) (take i row)

lane : (b : Bool) (c h : ℕ) → (b ≡ true → h ≡ c + 1) → (b ≡ false → h ≡ c) → h < 2 ^ 32
    → (c + cond (top 31 (cond b (2 ^ 32 - 1) 0)) 1 0) % 2 ^ 32 ≡ h
lane true c h found missed fits = subst (λ n. n % 2 ^ 32 ≡ h) (found refl) (mod-eq_of_lt fits)
lane false c h found missed fits = subst (λ n. n % 2 ^ 32 ≡ h) (missed refl ∙ sym (add-zero c)) (mod-eq_of_lt fits)

one_lane : (row : List ℕ) (i : ℕ) → i < length row → length row < 2 ^ 32 → (r : ℕ)
    → (found_below row i r + cond (top 31 (cond (nat_lt (get_or row i 0) r) (2 ^ 32 - 1) 0)) 1 0) % 2 ^ 32 ≡ found_below row (i + 1) r
one_lane row i here few r =
    let most = count_by-le-length (λ x. nat_lt x r) (take (i + 1) row) in
    let long = length-take-le (i + 1) row (omega arith) in
    lane (nat_lt (get_or row i 0) r) (found_below row i r) (found_below row (i + 1) r)
    (λ yes. count_by_more_yes (λ x. nat_lt x r) row i 0 here yes)
    (λ no. count_by_more_no (λ x. nat_lt x r) row i 0 here no)
    (omega (arith, most, long))

each_lane : (row : List ℕ) (i : ℕ) → i < length row → length row < 2 ^ 32 → (rs : List ℕ)
    → zip2 (λ a b. (a + b) % 2 ^ 32) (map (found_below row i) rs)
    (sel_l (map (top 31) (zip2 (λ a b. cond (nat_lt a b) (2 ^ 32 - 1) 0) (replicate (length rs) (get_or row i 0)) rs))
    (replicate (length rs) 1) (replicate (length rs) 0))
    ≡ map (found_below row (i + 1)) rs
each_lane row i here few [] = refl
each_lane row i here few (r ∷ rs) =
    ap (λ n. n ∷ zip2 (λ a b. (a + b) % 2 ^ 32) (map (found_below row i) rs)
    (sel_l (map (top 31) (zip2 (λ a b. cond (nat_lt a b) (2 ^ 32 - 1) 0) (replicate (length rs) (get_or row i 0)) rs))
    (replicate (length rs) 1) (replicate (length rs) 0))) (one_lane row i here few r)
    ∙ ap (λ l. found_below row (i + 1) r ∷ l) (each_lane row i here few rs)

pub eight_lanes : (row found rs : List ℕ) (i : ℕ) → i < length row → length row < 2 ^ 32 → length rs ≡ 8
    → found ≡ map (found_below row i) rs
    → zip2 (λ a b. (a + b) % 2 ^ 32) found
    (sel_l (map (top 31) (zip2 (λ a b. cond (nat_lt a b) (2 ^ 32 - 1) 0) (replicate 8 (get_or row i 0)) rs))
    (replicate 8 1) (replicate 8 0))
    ≡ map (found_below row (i + 1)) rs
eight_lanes row found rs i here few eight was =
    subst (λ f. zip2 (λ a b. (a + b) % 2 ^ 32) f
    (sel_l (map (top 31) (zip2 (λ a b. cond (nat_lt a b) (2 ^ 32 - 1) 0) (replicate 8 (get_or row i 0)) rs))
    (replicate 8 1) (replicate 8 0))
    ≡ map (found_below row (i + 1)) rs) (sym was)
    (subst (λ n. zip2 (λ a b. (a + b) % 2 ^ 32) (map (found_below row i) rs)
    (sel_l (map (top 31) (zip2 (λ a b. cond (nat_lt a b) (2 ^ 32 - 1) 0) (replicate n (get_or row i 0)) rs))
    (replicate n 1) (replicate n 0))
    ≡ map (found_below row (i + 1)) rs) eight (each_lane row i here few rs))

-- before the first entry
pub none_yet : (rs : List ℕ) → length rs ≡ 8 → replicate 8 0 ≡ map (λ r. count_by (λ x. nat_lt x r) []) rs
none_yet rs eight = subst (λ n. replicate n 0 ≡ map (λ r. count_by (λ x. nat_lt x r) []) rs) eight (zeros rs)
  where
    zeros : (rs : List ℕ) → replicate (length rs) 0 ≡ map (λ r. count_by (λ x. nat_lt x r) []) rs
    zeros [] = refl
    zeros (r ∷ rs) = ap (λ l. 0 ∷ l) (zeros rs)
