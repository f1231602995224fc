-- What a sort by stop sequence says.
use Rattle.std.proofs.Common.{◌≡◌, ℕ, List, Bor}
use Rattle.std.specs.Prelude.{IsPermutation, Result, Ok, Err, OnOk}
use Rattle.std.specs.Fn.{Called, ComputesKey}
use Rattle.std.specs.List.Sorted.{IsSortedByKey, IsStableByKey}
use Rattle.std.specs.Ordering.{nat_cmp}
use Rattle.std.proofs.lemmas.List.Sorted.{IsNonDecreasingBy-from_sort_by_key}
use denote.Param.Members.{Mut}
use Rattle.trip_calls.specs.declared.kept.KeptCall.{KeptCall}
use Rattle.trip_calls.specs.Order.{IsTripOrder}

pub ordered : {E F : Type 0} {g : Mut F (Bor KeptCall × Unit {0}) ℕ} {f : F} (r : Result (Unit {0}) E) (kept sorted : List KeptCall) → IsPermutation kept sorted
    → OnOk r ((key : KeptCall → ℕ) → ComputesKey g key f → IsSortedByKey key nat_cmp sorted)
    → ((a : Bor KeptCall × Unit {0}) (n : ℕ) (f' : F) → Called g f a n f' → (n ≡ a.0.now.sequence) × (f' ≡ f))
    → IsStableByKey (λ (call : KeptCall). call.sequence) nat_cmp kept sorted → OnOk r (IsTripOrder kept sorted)
ordered (Ok x) kept sorted p up calls stable =
    record { same_calls = p; rising = IsNonDecreasingBy-from_sort_by_key (λ (call : KeptCall). call.sequence) sorted up calls; in_turn = stable }
ordered (Err e) kept sorted p up calls stable = tt
