-- No listed journey is better than the best arrivals of closed levels.
use Rattle.std.proofs.Common.{◌≡◌, ℕ, zero, suc, ◌+◌, ◌-◌, ◌^◌, ◌<◌, ◌≤◌, List, [], ◌∷◌, length, take, get_or, refl, sym, ap, ◌∙◌, subst, inl, inr, arith, Some}
use Rattle.std.specs.Prelude.{slice_get, slice_index, Contains, IsTrue, All}
use Rattle.std.proofs.lemmas.Option.{slice_get_within, get_or_from_slice_get}
use Rattle.move_model.specs.declared.network.StopNo.{StopNo}
use Rattle.move_model.specs.declared.network.Call.{Call}
use Rattle.move_model.specs.declared.journey.Ride.{Ride}
use Rattle.move_model.specs.Listed.{HasEntry, IsListed}
use Rattle.move_model.specs.Journey.{IsRide}
use Rattle.route_split.specs.Route.{IsRoute, arrivals_of, departures_of}
use Rattle.route_split.specs.Table.{Table}
use Rattle.route_split.specs.Calls.{IsTableOf}
use Rattle.raptor_rounds.specs.Ways.{Query, IsReady}
use Rattle.raptor_rounds.specs.Ways.IsReady.{at_first, goes_on}
use Rattle.raptor_rounds.proofs.LawLemmas.{row_call, ending}
use Rattle.raptor_rounds.proofs.TimesLemmas.{arrives_before}
use Rattle.range_lanes.specs.declared.level.Level.{Level}
use Rattle.range_lanes.specs.Levels.{Served, BestWithin, Reached}
use Rattle.range_lanes.specs.State.{BoardsAt, IsClosed, ServedAt}

taken_short : (levels : List Level) (k : ℕ) → length (take k levels) ≤ k
taken_short levels zero = omega arith
taken_short [] (suc k) = omega arith
taken_short (x ∷ levels) (suc k) = omega (arith, taken_short levels k)

-- a level below the k-th has a place
pub below_at : (levels : List Level) (k : ℕ) (l : Level) → Contains (take k levels) l → (j : ℕ) × (slice_get levels j ≡ Some l) × (j < k)
below_at levels k l has =
    let lt : has.0 < k = omega (arith, has.1, taken_short levels k) in
    (has.0, at levels k l has.0 has.1 has.2, lt)
  where
    at : (levels : List Level) (k : ℕ) (l : Level) (i : ℕ) → i < length (take k levels) → get_or (take k levels) i l ≡ l → slice_get levels i ≡ Some l
    at [] zero l i lt e = absurd (omega (arith, lt))
    at [] (suc k) l i lt e = absurd (omega (arith, lt))
    at (x ∷ levels) zero l i lt e = absurd (omega (arith, lt))
    at (x ∷ levels) (suc k) l zero lt e = ap (λ v. Some v) e
    at (x ∷ levels) (suc k) l (suc i) lt e = at levels k l i (omega (arith, lt)) e

pub served_at : (levels : List Level) (k x a : ℕ) (level : Level) → slice_get levels k ≡ Some level → Served (take k levels) level x a → ServedAt levels k x a
served_at levels k x a level is (Served.here h) = record { place = k; level = level; is_level = is; within = omega arith; serves = h }
served_at levels k x a level is (Served.there l has h) =
    let b : (j : ℕ) × (slice_get levels j ≡ Some l) × (j < k) = below_at levels k l has in
    record { place = b.0; level = l; is_level = b.1; within = omega (arith, b.2); serves = h }

best_at : (levels : List Level) (k x a b : ℕ) (level : Level) → slice_get levels k ≡ Some level → a ≤ b → BestWithin (take k levels) level a → ServedAt levels k x b
best_at levels k x a b level is le (BestWithin.here h) = record { place = k; level = level; is_level = is; within = omega arith; serves = inr (omega (arith, h, le)) }
best_at levels k x a b level is le (BestWithin.there l has h) =
    let c : (j : ℕ) × (slice_get levels j ≡ Some l) × (j < k) = below_at levels k l has in
    record { place = c.0; level = l; is_level = c.1; within = omega (arith, c.2); serves = inr (omega (arith, h, le)) }

length_taken : (levels : List Level) (k : ℕ) → k ≤ length levels → length (take k levels) ≡ k
length_taken levels zero h = refl
length_taken [] (suc k) h = absurd (omega (arith, h))
length_taken (x ∷ levels) (suc k) h = omega (arith, length_taken levels k (omega (arith, h)))

get_taken : (levels : List Level) (k i : ℕ) → i < k → slice_get (take k levels) i ≡ slice_get levels i
get_taken levels zero i h = absurd (omega (arith, h))
get_taken [] (suc k) i h = refl
get_taken (x ∷ levels) (suc k) zero h = refl
get_taken (x ∷ levels) (suc k) (suc i) h = get_taken levels k i (omega (arith, h))

-- the level before
pub level_before : (levels : List Level) (k : ℕ) (level : Level) → slice_get levels k ≡ Some level
    → slice_get (take (suc k) levels) (length (take (suc k) levels) - 1) ≡ Some level
level_before levels k level is =
    let lt : k < length levels = slice_get_within levels k level is in
    let e : length (take (suc k) levels) - 1 ≡ k = omega (arith, length_taken levels (suc k) (omega (arith, lt))) in
    ap (λ i. slice_get (take (suc k) levels) i) e ∙ get_taken levels (suc k) k (omega arith) ∙ is

module _ (q : Query) (table : Table) (levels : List Level) (is : IsTableOf q.network table) (whole : All (IsRoute table.stops) table.routes)
    (closed : IsClosed table q.first q.last q.list q.depart levels) where
  ride_served : (k : ℕ) (level : Level) → slice_get levels k ≡ Some level → (second ready : ℕ) → second ≤ ready
      → (ride : Ride) (on off : Call) → IsRide q.network ride on off → ready + q.network.buffer ≤ on.dep
      → BoardsAt q.first q.depart (slice_get (take k levels) (length (take k levels) - 1)) on.stop.0 second
      → ServedAt levels k off.stop.0 off.arr
  ride_served k level is_level second ready le ride on off is_ride in_time boards =
      let row = is.holds.each_trip ride.trip (slice_get_within q.network.trips ride.trip.0 is_ride.boards.0 is_ride.boards.1) in
      let is_row = is.holds.rows_are row.r row.route row.is_route row.p ride.trip row.is_row in
      let on_row = row_call q.network row.route row.p ride.trip ride.board on is_row is_ride.boards in
      let off_row = row_call q.network row.route row.p ride.trip ride.alight off is_row is_ride.leaves in
      let later : on.dep ≤ off.arr = is.forward ride on off is_ride in
      let dep_is : on.dep ≡ slice_index (departures_of row.route ride.board) row.p = ap (λ (v : Call). v.dep) on_row.call_is in
      let arr_is : off.arr ≡ slice_index (arrivals_of row.route ride.alight) row.p = ap (λ (v : Call). v.arr) off_row.call_is in
      let on_stop : on.stop.0 ≡ on_row.place.stop.0 = ap (λ (v : Call). v.stop.0) on_row.call_is in
      let off_stop : off.stop.0 ≡ off_row.place.stop.0 = ap (λ (v : Call). v.stop.0) off_row.call_is in
      let may_on : IsTrue on_row.place.board = subst (λ (v : Call). IsTrue v.board) on_row.call_is is_ride.may_board in
      let may_off : IsTrue off_row.place.alight = subst (λ (v : Call). IsTrue v.alight) off_row.call_is is_ride.may_alight in
      elim (((closed.each k level is_level).followed.each row.r ride.board second row.route on_row.place row.is_route on_row.is_place
      (subst (λ x. BoardsAt q.first q.depart (slice_get (take k levels) (length (take k levels) - 1)) x second) on_stop boards)).each
      on_row.place row.p on_row.is_place may_on (slice_get_within row.route.trips row.p ride.trip row.is_row)
      (omega (arith, le, in_time, dep_is, is.buffer_is))) [
        | inl best ↦ best_at levels k off.stop.0 _ off.arr level is_level (omega (arith, dep_is, later)) best
        | inr ridden ↦
            subst (λ x. ServedAt levels k x off.arr) (sym off_stop)
            (subst (λ a. ServedAt levels k off_row.place.stop.0 a) (sym arr_is)
            (served_at levels k off_row.place.stop.0 _ level is_level (ridden.each ride.alight off_row.place is_ride.forward off_row.is_place may_off)))
      ]

  wider : (j k x a b : ℕ) → j ≤ k → a ≤ b → ServedAt levels j x a → ServedAt levels k x b
  wider j k x a b few le s = record {
    place = s.place;
    level = s.level;
    is_level = s.is_level;
    within = omega (arith, s.within, few);
    serves = elim s.serves [ inl h ↦ inl (omega (arith, h, le)) | inr h ↦ inr (omega (arith, h, le)) ];
  }

  -- a ride is left before the greatest second
  in_range : (ride : Ride) (on off : Call) → IsRide q.network ride on off → off.arr < 2 ^ 32 - 1
  in_range ride on off is_ride =
      let row = is.holds.each_trip ride.trip (slice_get_within q.network.trips ride.trip.0 is_ride.leaves.0 is_ride.leaves.1) in
      let is_row = is.holds.rows_are row.r row.route row.is_route row.p ride.trip row.is_row in
      let off_row = row_call q.network row.route row.p ride.trip ride.alight off is_row is_ride.leaves in
      let route_whole : IsRoute table.stops row.route = subst (IsRoute table.stops) (get_or_from_slice_get table.routes row.r row.route row.route row.is_route)
      (whole row.r row.route (slice_get_within table.routes row.r row.route row.is_route)) in
      omega (arith, arrives_before table.stops row.route ride.alight row.p route_whole, ap (λ (v : Call). v.arr) off_row.call_is)

  level_at : (k : ℕ) → k < length levels → (l : Level) × (slice_get levels k ≡ Some l)
  level_at k lt = go levels k lt
    where
      go : (ls : List Level) (k : ℕ) → k < length ls → (l : Level) × (slice_get ls k ≡ Some l)
      go [] k lt = absurd (omega (arith, lt))
      go (x ∷ ls) zero lt = (x, refl)
      go (x ∷ ls) (suc k) lt = go ls k (omega (arith, lt))

  -- who is ready after the level's ride boards at the next level
  by_level : (j k : ℕ) (level : Level) → slice_get levels j ≡ Some level → j < k → k < length levels → (y : StopNo) (r : ℕ)
      → slice_index level.ready.items y.0 ≤ r → (ride : Ride) (on off : Call) → IsRide q.network ride on off → on.stop ≡ y → r + q.network.buffer ≤ on.dep
      → ServedAt levels k off.stop.0 off.arr
  by_level j k level is_level few lt y r le ride on off is_ride at in_time =
      let next : (l : Level) × (slice_get levels (suc j) ≡ Some l) = level_at (suc j) (omega (arith, few, lt)) in
      let second : ℕ = slice_index level.ready.items y.0 in
      wider (suc j) k off.stop.0 off.arr off.arr (omega (arith, few)) (omega arith)
      (ride_served (suc j) next.0 next.1 second r le ride on off is_ride in_time
      (subst (λ o. BoardsAt q.first q.depart o on.stop.0 second) (sym (level_before levels j level is_level))
      (ap (λ (v : StopNo). slice_index level.ready.items v.0) (sym at))))

  by_ready : (rides : List Ride) (y : StopNo) (r : ℕ) → IsReady q rides y r → length rides < length levels
      → (ride : Ride) (on off : Call) → IsRide q.network ride on off → on.stop ≡ y → r + q.network.buffer ≤ on.dep
      → ServedAt levels (length rides) off.stop.0 off.arr
  by_ready [] y r (at_first {m = m} entry sum) lt ride on off is_ride at in_time =
      let l : (l : Level) × (slice_get levels 0 ≡ Some l) = level_at 0 lt in
      ride_served 0 l.0 l.1 (q.depart + m) r (omega (arith, sum)) ride on off is_ride in_time
      (m, subst (λ (v : StopNo). slice_get q.first v.0 ≡ Some (Some m)) (sym at) entry, refl)
  by_ready (prev ∷ before) y r (goes_on {on = on'} {off = off'} {s = s} {m = m} is_ready is_prev in_time' transfer sum) lt ride on off is_ride at in_time =
      let was : ServedAt levels (length before) off'.stop.0 off'.arr = by_ready before on'.stop s is_ready (omega (arith, lt)) prev on' off' is_prev refl in_time' in
      let later : on.dep ≤ off.arr = is.forward ride on off is_ride in
      elim was.serves [
        | inr best ↦ record { place = was.place; level = was.level; is_level = was.is_level; within = omega (arith, was.within); serves = inr (omega (arith, best, sum, in_time, later)) }
        | inl left ↦ go was left ((closed.each was.place was.level was.is_level).walked.each off'.stop y m transfer (omega (arith, left, in_range prev on' off' is_prev)))
      ]
    where
      go : (was : ServedAt levels (length before) off'.stop.0 off'.arr) → slice_index was.level.left.items off'.stop.0 ≤ off'.arr
          → Reached (take was.place levels) was.level y.0 (slice_index was.level.left.items off'.stop.0 + m) → ServedAt levels (suc (length before)) off.stop.0 off.arr
      go was left (Reached.here (inl ready)) =
          by_level was.place (suc (length before)) was.level was.is_level (omega (arith, was.within)) lt y r (omega (arith, ready, left, sum)) ride on off is_ride at in_time
      go was left (Reached.here (inr best)) =
          record { place = was.place; level = was.level; is_level = was.is_level; within = omega (arith, was.within); serves = inr (omega (arith, best, left, sum, in_time, is.forward ride on off is_ride)) }
      go was left (Reached.there l has (inl ready)) =
          let c : (j : ℕ) × (slice_get levels j ≡ Some l) × (j < was.place) = below_at levels was.place l has in
          by_level c.0 (suc (length before)) l c.1 (omega (arith, was.within, c.2)) lt y r (omega (arith, ready, left, sum)) ride on off is_ride at in_time
      go was left (Reached.there l has (inr best)) =
          let c : (j : ℕ) × (slice_get levels j ≡ Some l) × (j < was.place) = below_at levels was.place l has in
          record { place = c.0; level = l; is_level = c.1; within = omega (arith, was.within, c.2); serves = inr (omega (arith, best, left, sum, in_time, is.forward ride on off is_ride)) }

  -- some best arrival of as few rides is no later
  pub record BestBy (many arrive : ℕ) : Type 0 where
    pub place : ℕ
    pub level : Level
    pub is_level : slice_get levels place ≡ Some level
    pub within : place < many
    pub no_later : level.best ≤ arrive

  pub best_by : (rides : List Ride) (arrive : ℕ) → length rides ≤ length levels → IsListed q.network q.first q.last q.list q.depart rides arrive → BestBy (length rides) arrive
  best_by rides arrive few listed =
      let e = ending q rides arrive listed in
      let s : ServedAt levels (length e.rides) e.leaves.off.stop.0 e.leaves.off.arr =
      by_ready e.rides e.leaves.on.stop e.leaves.ready e.leaves.is_ready (omega (arith, e.count, few)) e.ride e.leaves.on e.leaves.off e.leaves.is_ride refl e.leaves.in_time in
      elim s.serves [
        | inr best ↦ record { place = s.place; level = s.level; is_level = s.is_level; within = omega (arith, s.within, e.count); no_later = omega (arith, best, e.leaves.second_is, e.sum_is) }
        | inl left ↦
            let covered = (closed.each s.place s.level s.is_level).covers.each e.leaves.off.stop e.walk
            (omega (arith, left, in_range e.ride e.leaves.on e.leaves.off e.leaves.is_ride)) (subst (λ v. HasEntry q.last v e.walk) (sym e.leaves.stop_is) e.entry) in
            record { place = s.place; level = s.level; is_level = s.is_level; within = omega (arith, s.within, e.count); no_later = omega (arith, covered, left, e.leaves.second_is, e.sum_is) }
      ]
