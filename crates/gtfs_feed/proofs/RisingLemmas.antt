-- Calls whose seconds never fall, and the copies of their trip.
use Rattle.std.proofs.Common.{◌≡◌, ℕ, zero, suc, ◌+◌, ◌-◌, ◌/◌, ◌<◌, ◌≤◌, List, [], ◌∷◌, length, get_or, All, Some, None, Bool, true, false, refl, sym, arith}
use Rattle.std.specs.Prelude.{slice_get, IfSome, nat_lt, if◌then◌else◌}
use Rattle.std.proofs.Math.Nat.{mul-le-mul_right}
use Rattle.std.proofs.lemmas.Nat.{le-div}
use Rattle.std.proofs.lemmas.Bool.Decides.{nat_tests}
use Rattle.std.proofs.lemmas.List.{get_or_default}
use Rattle.std.proofs.lemmas.Option.{slice_get-get_or, get_or_from_slice_get, slice_get_within}
use Rattle.move_model.specs.declared.network.Call.{Call}
use Rattle.gtfs_feed.specs.declared.feed.CopyRow.{CopyRow}
use Rattle.gtfs_feed.specs.declared.feed.FeedTrip.{FeedTrip}
use Rattle.gtfs_feed.specs.Feed.{IsCopyStart, IsCopyRow, first_departure}
use Rattle.gtfs_feed.specs.Frequencies.{latest_start, last_copy_second}
use Rattle.gtfs_feed.specs.Kept.{IsRising}

-- a later call departs no earlier
pub rises : (calls : List Call) (d : Call) (k n : ℕ) → IsRising calls → k + n < length calls → (get_or calls k d).dep ≤ (get_or calls (k + n) d).dep
rises calls d k zero r lt = let e : k + 0 ≡ k = omega arith in rw e (omega arith)
rises calls d k (suc n) r lt =
    let e : k + suc n ≡ k + n + 1 = omega arith in
    let so_far = rises calls d k n r (omega arith) in
    let on = r.goes_on (k + n) d (omega arith) in
    let stay = r.stays (k + n + 1) d (omega arith) in
    rw e (omega arith)

pub up_to : (calls : List Call) (k j : ℕ) (d : Call) → IsRising calls → k ≤ j → j < length calls → (get_or calls k d).dep ≤ (get_or calls j d).dep
up_to calls k j d r le lt = let e : k + (j - k) ≡ j = omega arith in let h = rises calls d k (j - k) r (omega arith) in rw e at h

-- the last call departs no earlier than the first
pub ends : (calls : List Call) (first last : Call) → IsRising calls → Some first ≡ slice_get calls 0 → Some last ≡ slice_get calls (length calls - 1) → first.dep ≤ last.dep
ends calls first last r at_first at_last =
    let some = slice_get_within calls 0 first (sym at_first) in
    let a = get_or_from_slice_get calls 0 first first (sym at_first) in
    let b = get_or_from_slice_get calls (length calls - 1) last first (sym at_last) in
    let h = up_to calls 0 (length calls - 1) first r (omega arith) (omega arith) in
    rw (a, b) at h

first-is : (call : Call) (calls : List Call) → first_departure (call ∷ calls) ≡ call.dep
first-is call calls = refl

limit : (b : Bool) (n : ℕ) → b ≡ true → IfSome (if b then Some n else None) (λ m. m ≤ 3599999) → n ≤ 3599999
limit true n e h = h
limit false n e h = cc e

-- each copy leaves no later than the latest
pub no_later : (row : CopyRow) (second : ℕ) → 1 ≤ row.headway → IsCopyStart row second → (row.start < row.end) × (second ≤ latest_start row)
no_later row second steps s =
    let leaves = s.leaves in
    let before = s.before_end in
    let turns : s.turn ≤ (row.end - 1 - row.start) / row.headway = le-div s.turn (row.end - 1 - row.start) row.headway (omega arith) (omega arith) in
    (omega arith, omega (arith, mul-le-mul_right row.headway turns))

pub in-time : (row : CopyRow) (calls : List Call) → IsRising calls → 1 ≤ row.headway → IfSome (last_copy_second row calls) (λ second. second ≤ 3599999)
    → (second : ℕ) → IsCopyStart row second → All (λ call. second + (call.dep - first_departure calls) ≤ 3599999) calls
in-time row [] r steps h second s = λ k d lt. absurd (omega arith)
in-time row (first ∷ calls) r steps h second s = λ k d lt.
    let last = length calls in
    let here : slice_get (first ∷ calls) (length calls) ≡ Some (get_or (first ∷ calls) (length calls) first) = slice_get-get_or (first ∷ calls) (length calls) first (omega arith) in
    let n : suc (length calls) - 1 ≡ length calls = omega arith in
    let late = no_later row second steps s in
    let some : nat_lt row.start row.end ≡ true = grind (arith, nat_tests, late.0) in
    let whole = rw (n, here) at h in
    let end = limit (nat_lt row.start row.end) _ some whole in
    let same = get_or_default (first ∷ calls) k d first lt in
    let rise = up_to (first ∷ calls) k (length calls) first r (omega arith) (omega arith) in
    rw same (omega (arith, late.1, end, rise))

pub copy-row : (trips : List FeedTrip) (row : CopyRow) (trip : FeedTrip) → slice_get trips row.trip ≡ Some trip → IsRising trip.calls → row.start ≤ 3599999 → row.end ≤ 3599999 → 1 ≤ row.headway
    → IfSome (last_copy_second row trip.calls) (λ second. second ≤ 3599999) → IsCopyRow trips row
copy-row trips row trip here r starts stops steps h = record {
  of_trip = slice_get_within trips row.trip trip here;
  times = (starts, stops);
  steps = steps;
  in_time = λ other second there s. let same : trip ≡ other = cc (here, there) in rw (← same) (in-time row trip.calls r steps h second s);
}
