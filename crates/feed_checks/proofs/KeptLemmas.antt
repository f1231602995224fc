-- The feeds of the tests are feeds.
use Rattle.std.proofs.Common.{◌≡◌, ℕ, ◌+◌, ◌-◌, ◌<◌, ◌≤◌, List, length, get_or, sym, ap, ◌∙◌, arith}
use Rattle.std.specs.Prelude.{All, slice_get, Some}
use Rattle.std.specs.List.Sorted.{IsNonDecreasingBy}
use Rattle.std.proofs.lemmas.Option.{slice_get-get_or}
use Rattle.std.proofs.lemmas.List.{get_or_default}
use Rattle.move_model.specs.declared.network.Call.{Call}
use Rattle.gtfs_feed.specs.declared.feed.FeedTrip.{FeedTrip}
use Rattle.gtfs_feed.specs.declared.feed.CopyRow.{CopyRow}
use Rattle.gtfs_feed.specs.Feed.{IsCopyRow, IsCopyStart, first_departure, last_second}
use Rattle.feed_checks.specs.Kept.{EndsInTime}
use Rattle.service_day.proofs.GatherLemmas.{first-departure}

-- no call is later than the last
pub all_end : (calls : List Call) (end : ℕ) (d e : Call) → 0 < length calls → IsNonDecreasingBy (λ (call : Call). call.dep) calls
    → end + ((get_or calls (length calls - 1) d).dep - (get_or calls 0 e).dep) ≤ last_second + 1
    → All (λ (call : Call). end + (call.dep - first_departure calls) ≤ last_second + 1) calls
all_end calls end d e some rising h k x low =
    let last : (get_or calls k x).dep ≤ (get_or calls (length calls - 1) x).dep = rising k (length calls - 1) x (omega arith) (omega arith) in
    let same = ap (λ (call : Call). call.dep) (get_or_default calls (length calls - 1) x d (omega arith)) in
    omega (arith, last, same, h, first-departure calls e some)

pub is_copy_row : (trips : List FeedTrip) (row : CopyRow) (trip : FeedTrip) → row.trip < length trips → trip ≡ get_or trips row.trip trip → EndsInTime trip.calls row → IsCopyRow trips row
is_copy_row trips row trip named is h = record {
  of_trip = named;
  times = h.times;
  steps = h.steps;
  in_time = in_time;
}
  where
    in_time : (other : FeedTrip) (second : ℕ) → slice_get trips row.trip ≡ Some other → IsCopyStart row second → All (λ (call : Call). second + (call.dep - first_departure other.calls) ≤ last_second) other.calls
    in_time other second found start =
        let same : Some other ≡ Some trip = sym found ∙ slice_get-get_or trips row.trip trip named ∙ ap Some (sym is) in
        let one : other ≡ trip = cc in
        rw one (λ k d low. omega (arith, h.in_time k d low, start.before_end))
