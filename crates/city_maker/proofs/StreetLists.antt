-- The streets from one vertex more.
use Rattle.std.proofs.Common.{◌≡◌, ℕ, ◌+◌, ◌-◌, ◌≤◌, Bool, true, false, cond, List, [], ◌∷◌, ◌++◌, length, sym, ap, ◌∙◌, arith, length-append}
use Rattle.std.specs.Prelude.{nat_lt}
use Rattle.std.specs.List.{flat_map, range_with_len, enumerate_from}
use Rattle.std.proofs.lemmas.Grind.{flat_map-append}
use Rattle.move_model.specs.declared.network.Arc.{Arc}
use Rattle.city_maker.specs.Streets.{Street, row_of, column_of, street_right, street_below, streets_from, both_ways}
use Rattle.city_maker.proofs.Ranges.{flat_map_range_more}

enumerate_from-append : {X : Type 0} (n : ℕ) (xs ys : List X) → enumerate_from n (xs ++ ys) ≡ enumerate_from n xs ++ enumerate_from (n + length xs) ys
enumerate_from-append n [] ys = ap (λ (m : ℕ). enumerate_from m ys) (omega arith)
enumerate_from-append n (x ∷ xs) ys =
    let rest = enumerate_from-append (n + 1) xs ys in
    let e : (n + 1) + length xs ≡ n + length (x ∷ xs) = omega arith in
    ap (λ zs. (n, x) ∷ zs) (rest ∙ ap (λ (m : ℕ). enumerate_from (n + 1) xs ++ enumerate_from m ys) e)

one_or_none : {X : Type 0} (b : Bool) (x : X) → length (cond b (x ∷ []) []) ≤ 1
one_or_none true x = omega arith
one_or_none false x = omega arith

pub few_streets : (side v : ℕ) → length (streets_from side v) ≤ 2
few_streets side v =
    let right : length (street_right side v) ≤ 1 = one_or_none (nat_lt (column_of side v + 1) side) (record { from = v; to = v + 1 }) in
    let below : length (street_below side v) ≤ 1 = one_or_none (nat_lt (row_of side v + 1) side) (record { from = v; to = v + side }) in
    omega (arith, right, below, length-append (street_right side v) (street_below side v))

pub streets_more : (side v : ℕ) → 1 ≤ v
    → flat_map (streets_from side) (range_with_len 1 (v + 1 - 1)) ≡ flat_map (streets_from side) (range_with_len 1 (v - 1)) ++ streets_from side v
streets_more side v h =
    let e : v + 1 - 1 ≡ (v - 1) + 1 = omega arith in
    let w : 1 + (v - 1) ≡ v = omega arith in
    ap (λ (n : ℕ). flat_map (streets_from side) (range_with_len 1 n)) e
    ∙ flat_map_range_more (streets_from side) 1 (v - 1)
    ∙ ap (λ (n : ℕ). flat_map (streets_from side) (range_with_len 1 (v - 1)) ++ streets_from side n) w

pub arcs_more : (number n : ℕ) (arcs : List Arc) (before more : List Street) → arcs ≡ flat_map (both_ways number) (enumerate_from n before)
    → arcs ++ flat_map (both_ways number) (enumerate_from (n + length before) more) ≡ flat_map (both_ways number) (enumerate_from n (before ++ more))
arcs_more number n arcs before more e =
    ap (λ (xs : List Arc). xs ++ flat_map (both_ways number) (enumerate_from (n + length before) more)) e
    ∙ sym (ap (flat_map (both_ways number)) (enumerate_from-append n before more) ∙ flat_map-append (both_ways number) (enumerate_from n before) (enumerate_from (n + length before) more))
