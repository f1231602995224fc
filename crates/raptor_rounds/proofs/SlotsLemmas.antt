-- The rides that slots have.
use Rattle.std.proofs.Common.{◌≡◌, ℕ, zero, suc, ◌+◌, ◌-◌, ◌<◌, ◌≤◌, List, [], ◌∷◌, ◌++◌, length, get_or, take, subst, sym, refl, ap, ◌∙◌, arith, append_assoc}
use Rattle.std.proofs.lemmas.List.{take_more}
use Rattle.std.proofs.lemmas.Option.{slice_get_past, slice_get-get_or}
use Rattle.move_model.specs.declared.journey.Ride.{Ride}
use Rattle.raptor_rounds.specs.declared.labels.Step.{Step}
use Rattle.raptor_rounds.specs.Answers.{before, turned_onto}

pub before_zero : (slots : List Step) (fuel : ℕ) → before slots fuel 0 ≡ []
unfolding before
before_zero slots zero = refl
before_zero slots (suc fuel) = refl

pub before_none : (slots : List Step) (by : ℕ) → before slots 0 by ≡ []
unfolding before
before_none slots by = refl

pub before_past : (slots : List Step) (fuel by : ℕ) → length slots < by → before slots fuel by ≡ []
unfolding before
before_past slots zero by h = refl
before_past slots (suc fuel) zero h = refl
before_past slots (suc fuel) (suc i) h = rw (before, slice_get_past slots i (omega arith)) refl

pub before_more : (slots : List Step) (fuel by : ℕ) (d : Step) → 0 < by → by ≤ length slots
    → before slots (suc fuel) by ≡ (get_or slots (by - 1) d).ride ∷ before slots fuel (get_or slots (by - 1) d).by
unfolding before
before_more slots fuel zero d pos within = absurd (omega arith)
before_more slots fuel (suc i) d pos within =
    let e : i ≡ suc i - 1 = omega arith in
    subst (λ k. before slots (suc fuel) (suc i) ≡ (get_or slots k d).ride ∷ before slots fuel (get_or slots k d).by) e
    (rw (before, slice_get-get_or slots i d (omega arith)) refl)

turned_last : (xs : List Ride) (y : Ride) (zs : List Ride) → turned_onto (xs ++ y ∷ []) zs ≡ y ∷ turned_onto xs zs
turned_last [] y zs = refl
turned_last (x ∷ xs) y zs = turned_last xs y (x ∷ zs)

pub turned_more : (xs rides zs : List Ride) (at : ℕ) (d : Ride) → 0 < at → at ≤ length xs
    → rides ++ turned_onto (take at xs) zs ≡ (rides ++ get_or xs (at - 1) d ∷ []) ++ turned_onto (take (at - 1) xs) zs
turned_more xs rides zs at d pos within =
    let i : ℕ = at - 1 in
    let e : at ≡ i + 1 = omega arith in
    let split : take at xs ≡ take i xs ++ get_or xs i d ∷ [] = ap (λ n. take n xs) e ∙ take_more xs i d (omega arith) in
    ap (λ l. rides ++ turned_onto l zs) split ∙ ap (λ l. rides ++ l) (turned_last (take i xs) (get_or xs i d) zs)
    ∙ sym (append_assoc rides (get_or xs i d ∷ []) (turned_onto (take i xs) zs))
