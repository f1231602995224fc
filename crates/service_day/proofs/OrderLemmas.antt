-- The order of trips by their seconds.
use Rattle.std.proofs.Common.{◌≡◌, ◌≢◌, ℕ, suc, ◌-◌, ◌<◌, ◌≤◌, ◌⊎◌, inl, inr, List, [], ◌∷◌, length, drop, refl, ◌∙◌, arith, min, length-drop}
use Rattle.std.specs.Prelude.{map}
use Rattle.std.specs.Cmp.Lexicographic.{slice_cmp}
use Rattle.std.specs.Ordering.{nat_cmp}
use Rattle.std.specs.declared.cmp.Ordering.{Ordering}
use Rattle.std.specs.declared.cmp.Ordering.TheVariants.{Less, Equal, Greater}
use Rattle.std.proofs.lemmas.Bool.{cases_order}
use Rattle.std.proofs.lemmas.Bool.Decides.{nat_tests}
use Rattle.move_model.specs.declared.network.Call.{Call}
use Rattle.service_day.specs.Order.{call_cmp}
use Rattle.service_day.specs.declared.shift.Shift.{Shift}
use Rattle.service_day.specs.Shift.{shifted, shifted_call, first_arrival}

none_less : (n : ℕ) → Less ≡ nat_cmp 0 (suc n)
none_less n = grind (arith, nat_tests)

some_greater : (n : ℕ) → Greater ≡ nat_cmp (suc n) 0
some_greater n = grind (arith, nat_tests)

-- two lists of which one is over compare as their lengths
over : {A B C D : Type 0} (R : C → D → Ordering) (f : A → C) (g : B → D) (xs : List A) (ys : List B) → (length xs ≡ 0) ⊎ (length ys ≡ 0)
    → slice_cmp R (map f xs) (map g ys) ≡ nat_cmp (length xs) (length ys)
over R f g [] [] h = refl
over R f g [] (y ∷ ys) h = none_less (length ys)
over R f g (x ∷ xs) [] h = some_greater (length xs)
over R f g (x ∷ xs) (y ∷ ys) (inl h) = absurd (omega (arith, h))
over R f g (x ∷ xs) (y ∷ ys) (inr h) = absurd (omega (arith, h))

nat_cmp-sub : (a b i : ℕ) → i ≤ a → i ≤ b → nat_cmp (a - i) (b - i) ≡ nat_cmp a b
nat_cmp-sub a b i h k = grind (arith, nat_tests)

-- after as many calls as both have, the longer list comes later
pub slice_cmp-end : {A B C D : Type 0} (R : C → D → Ordering) (f : A → C) (g : B → D) (xs : List A) (ys : List B) (i : ℕ)
    → i ≡ min (length xs) (length ys)
    → slice_cmp R (map f (drop i xs)) (map g (drop i ys)) ≡ nat_cmp (length xs) (length ys)
slice_cmp-end R f g xs ys i e =
    let one : (length xs - i ≡ 0) ⊎ (length ys - i ≡ 0) = grind arith in
    let short : (length (drop i xs) ≡ 0) ⊎ (length (drop i ys) ≡ 0) = simp length-drop one in
    over R f g (drop i xs) (drop i ys) short ∙ simp length-drop (nat_cmp-sub (length xs) (length ys) i (omega arith) (omega arith))

pub less : (a b : ℕ) → a < b → nat_cmp a b ≡ Less
less a b h = grind (arith, nat_tests)

pub equal : (a b : ℕ) → a ≡ b → nat_cmp a b ≡ Equal
equal a b h = grind (arith, nat_tests)

greater : (a b : ℕ) → b < a → nat_cmp a b ≡ Greater
greater a b h = grind (arith, nat_tests)

-- first arrivals that differ decide
pub slice_cmp-arrivals : (shift other : Shift) (calls next : List Call) → first_arrival shift calls ≢ first_arrival other next
    → nat_cmp (first_arrival shift calls) (first_arrival other next) ≡ slice_cmp call_cmp (map (shifted_call shift) calls) (map (shifted_call other) next)
slice_cmp-arrivals shift other [] [] h = absurd (h refl)
slice_cmp-arrivals shift other [] (y ∷ next) h = less 0 (shifted other y.arr) (omega (arith, h))
slice_cmp-arrivals shift other (x ∷ calls) [] h = greater (shifted shift x.arr) 0 (omega (arith, h))
slice_cmp-arrivals shift other (x ∷ calls) (y ∷ next) h =
    elim (cases_order (shifted shift x.arr) (shifted other y.arr)) [
      | inr (inl lt) ↦ rw (less (shifted shift x.arr) (shifted other y.arr) lt) refl
      | inl same ↦ absurd (h same)
      | inr (inr gt) ↦ rw (greater (shifted shift x.arr) (shifted other y.arr) gt) refl
    ]
