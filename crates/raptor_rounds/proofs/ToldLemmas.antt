-- From the kept numbers to the answers.
use Rattle.std.proofs.Common.{◌≡◌, ℕ, zero, suc, ◌+◌, ◌-◌, ◌^◌, ◌<◌, ◌≤◌, List, [], ◌∷◌, ◌++◌, length, take, drop, map, get_or, nat_lt, subst, sym, refl, ap, ◌∙◌, arith, Bool, true, false, cond, Option, Some, None}
use Rattle.std.specs.Prelude.{slice_get, IfSome, replicate}
use Rattle.std.specs.Option.{option_map}
use Rattle.std.proofs.Math.Seq.{take-append_seam}
use Rattle.std.proofs.lemmas.List.{length-map, length-take-le, get_or-take, get_or-map}
use Rattle.std.proofs.lemmas.Option.{slice_get-get_or}
use Rattle.std.proofs.lemmas.Bool.{le-ltb}
use Rattle.std.proofs.lemmas.Bool.Decides.{nat_tests}
use Rattle.move_model.specs.declared.journey.Ride.{Ride}
use Rattle.move_model.specs.Listed.{IsListed, HasBest}
use Rattle.raptor_rounds.specs.declared.labels.Step.{Step}
use Rattle.raptor_rounds.specs.declared.labels.Best.{Best}
use Rattle.raptor_rounds.specs.Ways.{Query, HasChain}
use Rattle.raptor_rounds.specs.Ways.HasChain.{none, link}
use Rattle.raptor_rounds.specs.Least.{IsBestOf}
use Rattle.raptor_rounds.specs.Answers.{Arrival, Kept, before, turned_onto, arrival_of, answer_of, IsAnswer}
use Rattle.raptor_rounds.proofs.LawLemmas.{listed_of, length-turned}

pub chain_before : (slots : List Step) (bound fuel by : ℕ) (rides : List Ride) → length rides ≤ fuel → HasChain slots bound by rides → before slots fuel by ≡ rides
unfolding before
chain_before slots bound zero by rides few none = refl
chain_before slots bound (suc fuel) by rides few none = refl
chain_before slots bound zero by rides few (link {rides = rest} lt at further) = absurd (omega (arith, few))
chain_before slots bound (suc fuel) by rides few (link {i = i} {step = step} {rides = rest} lt at further) =
    rw (before, at) (ap (λ l. step.ride ∷ l) (chain_before slots bound fuel step.by rest (omega arith) further))

module _ (q : Query) (slots : List Step) (bound k : ℕ) (b : Best) (small : k ≤ 255) (is : IsBestOf q slots bound k b)
    (range : (rides : List Ride) (arrive : ℕ) → IsListed q.network q.first q.last q.list q.depart rides arrive → arrive < 2 ^ 64 - 1) where
  rides_listed : b.second < 2 ^ 64 - 1 → IsListed q.network q.first q.last q.list q.depart (arrival_of slots b).rides b.second
  rides_listed lt =
      let e = is.sound lt in
      let left = e.ends.left in
      let same = chain_before slots bound 255 b.step.by left.rides (omega (arith, left.few, e.few)) left.chain in
      let listed = listed_of q left.rides b.step.ride e.ends.stop e.ends.second e.ends.walk left.leaves e.ends.entry in
      subst (λ rs. IsListed q.network q.first q.last q.list q.depart (turned_onto rs (b.step.ride ∷ [])) b.second) (sym same)
      (subst (λ a. IsListed q.network q.first q.last q.list q.depart (turned_onto left.rides (b.step.ride ∷ [])) a) (sym e.ends.sum_is) listed)

  rides_few : b.second < 2 ^ 64 - 1 → length (arrival_of slots b).rides ≤ k
  rides_few lt =
      let e = is.sound lt in
      let left = e.ends.left in
      let same = chain_before slots bound 255 b.step.by left.rides (omega (arith, left.few, e.few)) left.chain in
      subst (λ rs. length (turned_onto rs (b.step.ride ∷ [])) ≤ k) (sym same) (omega (arith, length-turned left.rides (b.step.ride ∷ []), left.few, e.few))

  below : nat_lt b.second (2 ^ 64 - 1) ≡ true → b.second < 2 ^ 64 - 1
  below e = grind (arith, nat_tests)

  best_by : (t : Bool) → nat_lt b.second (2 ^ 64 - 1) ≡ t
      → HasBest q.network q.first q.last q.list q.depart k (option_map (λ a. a.second) (cond t (Some (arrival_of slots b)) None))
  best_by true e = (record { rides = (arrival_of slots b).rides; listed = rides_listed (below e); few = rides_few (below e) }, λ rides other few listed. is.least rides other few listed)
  best_by false e = λ rides other few listed.
      let big : 2 ^ 64 - 1 ≤ b.second = grind (arith, nat_tests) in
      omega (arith, is.least rides other few listed, range rides other listed, big)

  attains_by : (t : Bool) → nat_lt b.second (2 ^ 64 - 1) ≡ t
      → IfSome (cond t (Some (arrival_of slots b)) None) (λ a. IsListed q.network q.first q.last q.list q.depart a.rides a.second)
  attains_by true e = rides_listed (below e)
  attains_by false e = tt

  few_by : (t : Bool) → nat_lt b.second (2 ^ 64 - 1) ≡ t → IfSome (cond t (Some (arrival_of slots b)) None) (λ a. length a.rides ≤ k)
  few_by true e = rides_few (below e)
  few_by false e = tt

  pub is_answer : IsAnswer q.network q.first q.last q.list q.depart k (answer_of slots b)
  is_answer = record {
    best = best_by (nat_lt b.second (2 ^ 64 - 1)) refl;
    attains = attains_by (nat_lt b.second (2 ^ 64 - 1)) refl;
    few = few_by (nat_lt b.second (2 ^ 64 - 1)) refl;
  }

pub answers_long : (slots : List Step) (limit : ℕ) (bests : List Best) → limit < length bests → length (map (answer_of slots) (take (limit + 1) bests)) ≡ limit + 1
answers_long slots limit bests room = omega (arith, length-map (take (limit + 1) bests) (answer_of slots), length-take-le (limit + 1) bests (omega arith))

-- the answer that is kept for each number of rides
pub answers_are : (q : Query) (slots : List Step) (bound limit : ℕ) (bests : List Best) → limit ≤ 255 → limit < length bests
    → ((rides : List Ride) (arrive : ℕ) → IsListed q.network q.first q.last q.list q.depart rides arrive → arrive < 2 ^ 64 - 1)
    → ((k : ℕ) (b : Best) → k ≤ limit → slice_get bests k ≡ Some b → IsBestOf q slots bound k b)
    → (k : ℕ) → k ≤ limit → IsAnswer q.network q.first q.last q.list q.depart k (get_or (map (answer_of slots) (take (limit + 1) bests)) k None)
answers_are q slots bound limit bests small room range best k few =
    let none : Best = record { second = 0; step = record { ride = record { trip = record { 0 = 0 }; board = 0; alight = 0 }; by = 0 } } in
    let b : Best = get_or bests k none in
    let at : get_or (map (answer_of slots) (take (limit + 1) bests)) k None ≡ answer_of slots b =
    get_or-map (answer_of slots) (take (limit + 1) bests) k none None (omega (arith, few, length-take-le (limit + 1) bests (omega arith)))
    ∙ ap (answer_of slots) (get_or-take (limit + 1) bests k none (omega arith)) in
    subst (IsAnswer q.network q.first q.last q.list q.depart k) (sym at)
    (is_answer q slots bound k b (omega arith) (best k b few (slice_get-get_or bests k none (omega arith))) range)

-- before the first run there is no answer
pub none_first : (slots : List Step) (limit : ℕ) (b : Best) → 2 ^ 64 - 1 ≤ b.second → map (answer_of slots) (take 1 (replicate (limit + 1) b)) ≡ None ∷ []
none_first slots limit b big =
    ap (λ n. map (answer_of slots) (take 1 (replicate n b))) (next limit) ∙ ap (λ t. cond t (Some (arrival_of slots b)) None ∷ []) (le-ltb b.second (2 ^ 64 - 1) big)
  where
    next : (n : ℕ) → n + 1 ≡ suc n
    next n = omega arith

-- a slice that is put back whole
pub put_back : {X : Type 0} (len : ℕ) (xs ys : List X) → length xs ≡ len → take len (xs ++ drop (length xs) ys) ≡ xs
put_back len xs ys e = subst (λ n. take n (xs ++ drop (length xs) ys) ≡ xs) e (take-append_seam xs (drop (length xs) ys))

abbrev pub kept : ℕ → ℕ → ℕ → List (Option Arrival) → Kept
kept stops routes limit answers = record { stops = stops; routes = routes; limit = limit; answers = answers }

pub kept_same : (stops m n limit : ℕ) (a b : List (Option Arrival)) → m ≡ n → a ≡ b → kept stops m limit a ≡ kept stops n limit b
kept_same stops m n limit a b e f = ap (λ k. kept stops k limit a) e ∙ ap (kept stops n limit) f
