-- The order of a trip's calls.
--     IsTripOrder kept sorted     these are the calls by rising stop sequence, where calls with one sequence keep their order
use Rattle.std.specs.Prelude.{List, IsPermutation}
use Rattle.std.specs.List.Sorted.{IsNonDecreasingBy, IsStableByKey}
use Rattle.std.specs.Ordering.{nat_cmp}
use Rattle.trip_calls.specs.declared.kept.KeptCall.{KeptCall}

pub record IsTripOrder (kept sorted : List KeptCall) : Type 0 where
  pub same_calls : IsPermutation kept sorted
  pub rising : IsNonDecreasingBy (λ call. call.sequence) sorted
  pub in_turn : IsStableByKey (λ call. call.sequence) nat_cmp kept sorted
