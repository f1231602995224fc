-- What stands before a text's marks.
use Rattle.std.proofs.Common.{◌≡◌, ◌≤◌, ℕ, List, [], ◌∷◌, length, take, drop, Bool, true, false, refl, ◌∙◌, arith}
use Rattle.std.specs.Prelude.{◌==◌, ◌&&◌, if◌then◌else◌}
use Rattle.std.specs.Cmp.Lexicographic.{pointwise}
use Rattle.std.specs.Bool.{nat_eq}
use Rattle.csv.specs.Reading.{is_bom, strip_bom}
use Rattle.tables.specs.Table.{cut_marks}

abbrev pub mark : List ℕ
mark = 0xEF ∷ 0xBB ∷ 0xBF ∷ []

regroup : (x y z : Bool) → ((x && y) && z) ≡ (x && (y && (z && true)))
regroup true true true = refl
regroup true true false = refl
regroup true false z = refl
regroup false y z = refl

one : (x : Bool) → (x && false) ≡ true → ⊥
one true e = cc e
one false e = cc e

two : (x y : Bool) → (x && (y && false)) ≡ true → ⊥
two true y e = one y e
two false y e = cc e

same : (a b c : ℕ) → is_bom a b c ≡ pointwise nat_eq (a ∷ b ∷ c ∷ []) mark
same a b c = regroup (a == 0xEF) (b == 0xBB) (c == 0xBF)

pub marked : (xs : List ℕ) → pointwise nat_eq (take 3 xs) mark ≡ true → cut_marks xs ≡ cut_marks (drop 3 xs)
unfolding cut_marks
marked [] e = cc e
marked (a ∷ []) e = absurd (one _ e)
marked (a ∷ b ∷ []) e = absurd (two _ _ e)
marked (a ∷ b ∷ c ∷ xs) e = let t : is_bom a b c ≡ true = same a b c ∙ e in rw t refl

pub unmarked : (xs : List ℕ) → pointwise nat_eq (take 3 xs) mark ≡ false → cut_marks xs ≡ xs
unfolding cut_marks
unmarked [] e = refl
unmarked (a ∷ []) e = refl
unmarked (a ∷ b ∷ []) e = refl
unmarked (a ∷ b ∷ c ∷ xs) e = let t : is_bom a b c ≡ false = same a b c ∙ e in rw t refl

-- csv's own cut finds nothing behind ours
pick : (b : Bool) (cut xs rest : List ℕ) → strip_bom cut ≡ cut → (b ≡ false → strip_bom xs ≡ xs) → strip_bom (if b then cut else xs) ≡ (if b then cut else xs)
pick true cut xs rest f g = f
pick false cut xs rest f g = g refl

pub none-left : (xs : List ℕ) → strip_bom (cut_marks xs) ≡ cut_marks xs
unfolding cut_marks strip_bom
none-left [] = refl
none-left (a ∷ []) = refl
none-left (a ∷ b ∷ []) = refl
none-left (a ∷ b ∷ c ∷ xs) = pick (is_bom a b c) (cut_marks xs) (a ∷ b ∷ c ∷ xs) [] (none-left xs) (λ e. rw e refl)

-- no byte is added
le-pick : (b : Bool) (cut xs : List ℕ) (n : ℕ) → length cut ≤ n → length xs ≤ n → length (if b then cut else xs) ≤ n
le-pick true cut xs n f g = f
le-pick false cut xs n f g = g

pub cut_marks-le : (xs : List ℕ) → length (cut_marks xs) ≤ length xs
unfolding cut_marks
cut_marks-le [] = omega arith
cut_marks-le (a ∷ []) = omega arith
cut_marks-le (a ∷ b ∷ []) = omega arith
cut_marks-le (a ∷ b ∷ c ∷ xs) = le-pick (is_bom a b c) (cut_marks xs) (a ∷ b ∷ c ∷ xs) _ (omega (arith, cut_marks-le xs)) (omega arith)
