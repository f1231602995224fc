-- What a run answers.
--     Arrival                                 an arrival, and the rides of a journey that attains it
--     Kept                                    for what the rounds were made, and the answers of the last run by number of rides
--     answer_at r k                           the answer for at most k rides
--     IsAnswer n first last list d k answer   the answer is that of all listed journeys with at most k rides
--     IsEntryWithin stops e                   the entry joins stops that exist, and its seconds are within the bound
--     HasSeconds entry                        seconds of a row are within the bound
--     turned_onto xs ys                       the first list turned round and put before the second
--     before slots fuel by                    the rides that the slots have from `by` on, the last first
--     answer_of slots b                       the answer that a kept arrival and the slots stand for
use Rattle.std.specs.Prelude.{ℕ, zero, suc, ◌<◌, ◌≤◌, nat_lt, if◌then◌else◌, List, [], ◌∷◌, length, slice_get, slice_index_or, Option, Some, None, IfSome}
use Rattle.std.specs.Option.{option_map}
use Rattle.move_model.specs.declared.network.Network.{Network}
use Rattle.move_model.specs.declared.journey.Ride.{Ride}
use Rattle.move_model.specs.declared.journey.Shortcut.{Shortcut}
use Rattle.move_model.specs.Listed.{IsListed, HasBest}
use Rattle.raptor_rounds.specs.declared.labels.Step.{Step}
use Rattle.raptor_rounds.specs.declared.labels.Best.{Best}

pub record Arrival : Type 0 where
  pub second : ℕ
  pub rides : List Ride

pub record Kept : Type 0 where
  pub stops : ℕ
  pub routes : ℕ
  pub limit : ℕ
  pub answers : List (Option Arrival)

abbrev pub answer_at : Kept → ℕ → Option Arrival
answer_at r k = slice_index_or r.answers k None

-- the least arrival, and rides that attain it; or None where there is no such journey
pub record IsAnswer (n : Network) (first last : List (Option ℕ)) (list : List Shortcut) (d k : ℕ) (answer : Option Arrival) : Type 0 where
  pub best : HasBest n first last list d k (option_map (λ a. a.second) answer)
  pub attains : IfSome answer (λ a. IsListed n first last list d a.rides a.second)
  pub few : IfSome answer (λ a. length a.rides ≤ k)

pub record IsEntryWithin (stops : ℕ) (e : Shortcut) : Type 0 where
  pub from_within : e.from.0 < stops
  pub to_within : e.to.0 < stops
  pub bounded : e.seconds ≤ 9000000000000000000

abbrev pub HasSeconds : Option ℕ → Type 0
HasSeconds entry = IfSome entry (λ m. m ≤ 9000000000000000000)

abbrev pub turned_onto : List Ride → List Ride → List Ride
turned_onto [] ys = ys
turned_onto (x ∷ xs) ys = turned_onto xs (x ∷ ys)

unfoldable pub before : List Step → ℕ → ℕ → List Ride
before slots zero by = []
before slots (suc fuel) zero = []
before slots (suc fuel) (suc i) = elim (slice_get slots i) [ None ↦ [] | Some step ↦ step.ride ∷ before slots fuel step.by ]

abbrev pub arrival_of : List Step → Best → Arrival
arrival_of slots b = record { second = b.second; rides = turned_onto (before slots 255 b.step.by) (b.step.ride ∷ []) }

abbrev pub answer_of : List Step → Best → Option Arrival
answer_of slots b = if nat_lt b.second 18446744073709551615 then Some (arrival_of slots b) else None
