-- The calls of a trip that are tested and filled in.
use Rattle.std.proofs.Common.{◌≡◌, ◌∙◌, ℕ, ◌<◌, ◌≤◌, List, [], length, map, All, refl, sym, ap, subst, arith}
use Rattle.std.specs.Prelude.{IsPermutation}
use Rattle.std.proofs.lemmas.List.{length-map, get_or-map}
use Rattle.std.proofs.lemmas.List.Sorted.{All-permutation}
use Rattle.std.proofs.lemmas.List.Elements.{All-map}
use Rattle.move_model.specs.declared.network.Call.{Call}
use Rattle.move_model.specs.declared.network.StopNo.{StopNo}
use Rattle.trip_calls.specs.declared.kept.KeptCall.{KeptCall}
use Rattle.trip_calls.specs.Filled.{IsInTime, IsTimely}
use Rattle.gtfs_feed.specs.declared.feed.FeedTrip.{FeedTrip}
use Rattle.gtfs_feed.specs.Feed.{IsFeedTrip}
use Rattle.gtfs_feed.specs.Kept.{IsBareTrip, IsKept, IsKeptList, IsRising}

unmap : {X Y : Type 0} (P : Y → Type 0) (f : X → Y) (xs : List X) → All P (map f xs) → All (λ x. P (f x)) xs
unmap P f xs h = λ k d lt. let n : k < length (map f xs) = rw (length-map xs f) lt in subst P (get_or-map f xs k d (f d) lt) (h k (f d) n)

pub in-time : (xs ys : List KeptCall) → IsPermutation xs ys → All IsInTime xs → All IsInTime ys
in-time xs ys p h = All-permutation IsInTime xs ys p h

pub in-time-kept : (stops rows : ℕ) (calls : List KeptCall) → IsKeptList stops rows calls → All IsInTime calls
in-time-kept stops rows calls h = λ k d lt. (h.each k d lt).in_time

pub kept-none : (stops rows : ℕ) (calls : List KeptCall) → calls ≡ [] → IsKeptList stops rows calls
kept-none stops rows calls none = rw none (record { each = λ k d lt. absurd (omega arith); few = omega arith })

-- a trip without calls
pub bare-trip : (stops services : ℕ) (trip : FeedTrip) → IsBareTrip services trip → IsFeedTrip stops services trip
bare-trip stops services trip b =
    let n : length trip.calls ≡ 0 = rw b.bare refl in
    record {
      named = b.named;
      served = b.served;
      never_one = λ one. omega (arith, one, n);
      few_calls = omega (arith, n);
      at_stops = λ k d lt. absurd (omega (arith, n));
      stays = λ k d lt. absurd (omega (arith, n));
      goes_on = λ k d lt. absurd (omega (arith, n));
      in_time = λ k d lt. absurd (omega (arith, n));
    }

-- a trip whose calls are filled in
pub finished : (stops services : ℕ) (trip : FeedTrip) (kept sorted : List KeptCall) (calls : List Call) (second : ℕ) → IsBareTrip services trip → All (IsKept stops) kept
    → IsPermutation kept sorted → 2 ≤ length sorted → length sorted ≤ 50000000 → map (λ (call : Call). call.stop) calls ≡ map (λ (call : KeptCall). call.stop) sorted → IsTimely calls second
    → IsFeedTrip stops services (record { name = trip.name; service = trip.service; calls = calls })
finished stops services trip kept sorted calls second b k p two few same t =
    let long : length calls ≡ length sorted = sym (length-map calls (λ (call : Call). call.stop)) ∙ ap length same ∙ length-map sorted (λ (call : KeptCall). call.stop) in
    let each = All-permutation (IsKept stops) kept sorted p k in
    let all : All (λ (stop : StopNo). stop.0 < stops) (map (λ (call : KeptCall). call.stop) sorted) =
    All-map (λ (stop : StopNo). stop.0 < stops) (λ (call : KeptCall). call.stop) sorted (λ i d lt. (each i d lt).at_stop) in
    record {
      named = b.named;
      served = b.served;
      never_one = λ one. omega (arith, one, long);
      few_calls = omega (arith, few, long);
      at_stops = unmap (λ (stop : StopNo). stop.0 < stops) (λ (call : Call). call.stop) calls (rw same all);
      stays = t.stays;
      goes_on = t.goes_on;
      in_time = t.in_time;
    }

pub rising : (stops services : ℕ) (trip : FeedTrip) → IsFeedTrip stops services trip → IsRising trip.calls
rising stops services trip t = record { stays = t.stays; goes_on = t.goes_on }
