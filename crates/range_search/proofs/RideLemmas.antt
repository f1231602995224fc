-- The rides of a chain, the last first.
use Rattle.std.proofs.Common.{◌≡◌, ℕ, zero, suc, List, [], ◌∷◌, ◌++◌, refl, sym, ap, ◌∙◌, subst, arith, Some}
use Rattle.std.specs.Prelude.{slice_get}
use Rattle.std.proofs.lemmas.List.{append_assoc}
use Rattle.std.proofs.lemmas.Option.{same_Some}
use Rattle.move_model.specs.declared.network.StopNo.{StopNo}
use Rattle.move_model.specs.declared.journey.Ride.{Ride}
use Rattle.raptor_rounds.specs.Answers.{turned_onto}
use Rattle.range_lanes.specs.declared.level.Step.{Step}
use Rattle.range_lanes.specs.declared.level.Level.{Level}
use Rattle.range_lanes.specs.State.{IsChain}
use Rattle.range_lanes.specs.State.IsChain.{first, next}

turned_onto_append : (xs ys : List Ride) → turned_onto xs ys ≡ turned_onto xs [] ++ ys
turned_onto_append [] ys = refl
turned_onto_append (x ∷ xs) ys =
    turned_onto_append xs (x ∷ ys) ∙ sym (append_assoc (turned_onto xs []) (x ∷ []) ys) ∙ ap (λ v. v ++ ys) (sym (turned_onto_append xs (x ∷ [])))

pub turned_push : (x : Ride) (xs : List Ride) → turned_onto (x ∷ xs) [] ≡ turned_onto xs [] ++ x ∷ []
turned_push x xs = turned_onto_append xs (x ∷ [])

-- the last ride of a chain is the step at its stop
pub chain_step : (levels : List Level) (k : ℕ) (y : StopNo) (chain : List Ride) → IsChain levels k y chain → (level : Level) → slice_get levels k ≡ Some level
    → (step : Step) × (slice_get level.steps.items y.0 ≡ Some step)
chain_step levels zero y chain (first {level = l} {step = s} is_l is_s) level is =
    (s, subst (λ (v : Level). slice_get v.steps.items y.0 ≡ Some s) (same_Some l level (sym is_l ∙ is)) is_s)
chain_step levels (suc k) y chain (next {level = l} {step = s} is_l is_s rest) level is =
    (s, subst (λ (v : Level). slice_get v.steps.items y.0 ≡ Some s) (same_Some l level (sym is_l ∙ is)) is_s)

pub chain_ends : (levels : List Level) (k : ℕ) (y : StopNo) (chain : List Ride) → IsChain levels k y chain → k ≡ 0 → (level : Level) → slice_get levels k ≡ Some level
    → (step : Step) → slice_get level.steps.items y.0 ≡ Some step → chain ≡ step.ride ∷ []
chain_ends levels zero y chain (first {level = l} {step = s} is_l is_s) none level is step at =
    let e : s ≡ step = same_Some s step (sym (subst (λ (v : Level). slice_get v.steps.items y.0 ≡ Some s) (same_Some l level (sym is_l ∙ is)) is_s) ∙ at) in
    ap (λ (v : Step). v.ride ∷ []) e
chain_ends levels (suc k) y chain (next is_l is_s rest) none level is step at = absurd (omega (arith, none))

pub record Rest (levels : List Level) (j : ℕ) (step : Step) (chain : List Ride) : Type 0 where
  pub rides : List Ride
  pub chain_is : chain ≡ step.ride ∷ rides
  pub rest : IsChain levels j step.from rides

pub chain_goes_on : (levels : List Level) (k j : ℕ) (y : StopNo) (chain : List Ride) → IsChain levels k y chain → k ≡ suc j → (level : Level) → slice_get levels k ≡ Some level
    → (step : Step) → slice_get level.steps.items y.0 ≡ Some step → Rest levels j step chain
chain_goes_on levels zero j y chain (first is_l is_s) more level is step at = absurd (omega (arith, more))
chain_goes_on levels (suc k) j y chain (next {level = l} {step = s} {rides = rides} is_l is_s rest) more level is step at =
    let e : s ≡ step = same_Some s step (sym (subst (λ (v : Level). slice_get v.steps.items y.0 ≡ Some s) (same_Some l level (sym is_l ∙ is)) is_s) ∙ at) in
    record {
      rides = rides;
      chain_is = ap (λ (v : Step). v.ride ∷ rides) e;
      rest = subst (λ i. IsChain levels i step.from rides) (omega (arith, more)) (subst (λ (v : Step). IsChain levels k v.from rides) e rest);
    }

-- what was put last after the rides before it
pub pushed : (step : Step) (chain before mid new : List Ride) (rides : List Ride) → chain ≡ step.ride ∷ rides → mid ≡ before ++ turned_onto rides [] → new ≡ mid ++ step.ride ∷ []
    → new ≡ before ++ turned_onto chain []
pushed step chain before mid new rides chain_is mid_is new_is =
    new_is ∙ ap (λ v. v ++ step.ride ∷ []) mid_is ∙ append_assoc before (turned_onto rides []) (step.ride ∷ [])
    ∙ ap (λ v. before ++ v) (sym (turned_push step.ride rides)) ∙ ap (λ v. before ++ turned_onto v []) (sym chain_is)

-- the only ride of a chain was put last
pub pushed_first : (ride : Ride) (chain before mid new : List Ride) → chain ≡ ride ∷ [] → mid ≡ before → new ≡ mid ++ ride ∷ [] → new ≡ before ++ turned_onto chain []
pushed_first ride chain before mid new chain_is mid_is new_is =
    new_is ∙ ap (λ v. v ++ ride ∷ []) mid_is ∙ ap (λ v. before ++ turned_onto v []) (sym chain_is)
