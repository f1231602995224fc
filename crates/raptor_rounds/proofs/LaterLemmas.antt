-- After a round.
use Rattle.std.proofs.Common.{◌≡◌, ◌≢◌, ℕ, suc, ◌+◌, ◌-◌, ◌^◌, ◌<◌, ◌≤◌, inl, inr, List, length, subst, sym, refl, ap, ◌∙◌, arith, Option, Some, None, get_or, get_or-set_same, get_or-set_other}
use Rattle.std.specs.Prelude.{All, IfSome, slice_get, slice_index, slice_set}
use Rattle.std.proofs.lemmas.Option.{slice_get_within, slice_get-get_or, get_or_from_slice_get}
use Rattle.std.proofs.lemmas.List.{length-set}
use Rattle.std.proofs.lemmas.List.Elements.{All-get_or}
use Rattle.std.proofs.lemmas.Bool.{cases_lt}
use Rattle.move_model.specs.declared.network.StopNo.{StopNo}
use Rattle.move_model.specs.declared.journey.Ride.{Ride}
use Rattle.move_model.specs.declared.network.Call.{Call}
use Rattle.move_model.specs.Listed.{IsListed}
use Rattle.route_split.specs.Route.{IsRoute}
use Rattle.route_split.specs.Table.{Table}
use Rattle.route_split.specs.Calls.{IsTableOf}
use Rattle.raptor_rounds.specs.declared.labels.Step.{Step}
use Rattle.raptor_rounds.specs.declared.labels.Found.{Found}
use Rattle.raptor_rounds.specs.declared.labels.Ready.{Ready}
use Rattle.raptor_rounds.specs.declared.labels.Best.{Best}
use Rattle.raptor_rounds.specs.Ways.{Query, Leaves}
use Rattle.raptor_rounds.specs.Labels.{AllReady, Covers}
use Rattle.raptor_rounds.specs.Least.{LeastReady, GoesOn, Stands, IsBestOf, scope}
use Rattle.raptor_rounds.proofs.TimesLemmas.{arrives_before}
use Rattle.raptor_rounds.proofs.LawLemmas.{row_call, ending}
use Rattle.raptor_rounds.proofs.TurnLemmas.{Agrees, best_widens, found_widens}

-- a ride is left before the greatest second
arrival_in_time : (q : Query) (table : Table) (rides : List Ride) (ride : Ride) (x : StopNo) (a : ℕ) → IsTableOf q.network table → All (IsRoute table.stops) table.routes
    → Leaves q rides ride x a → a < 2 ^ 32 - 1
arrival_in_time q table rides ride x a is whole leaves =
    let at = leaves.is_ride.leaves in
    let row = is.holds.each_trip ride.trip (slice_get_within q.network.trips ride.trip.0 at.0 at.1) in
    let is_row = is.holds.rows_are row.r row.route row.is_route row.p ride.trip row.is_row in
    let off = row_call q.network row.route row.p ride.trip ride.alight leaves.off is_row at in
    let route_whole = subst (IsRoute table.stops) (get_or_from_slice_get table.routes row.r row.route row.route row.is_route)
    (All-get_or (IsRoute table.stops) table.routes row.r row.route (slice_get_within table.routes row.r row.route row.is_route) whole) in
    omega (arith, arrives_before table.stops row.route ride.alight row.p route_whole, ap (λ (v : Call). v.arr) off.call_is, leaves.second_is)

pub stands_more : (q : Query) (k stops base : ℕ) (slots slots' : List Step) (ready ready' : Ready) (found found' : Found) → Agrees slots slots' base
    → Stands q k base slots ready found → GoesOn q k stops base slots slots' ready ready' found found' → Stands q (k + 1) (base + stops) slots' ready' found'
stands_more q k stops base slots slots' ready ready' found found' same was goes =
    let e : suc k ≡ k + 1 = omega arith in
    record {
      first = goes.first was.first;
      ready_least = subst (λ n. LeastReady q n ready'.seconds found'.best) e (goes.ready_least was.first was.ready_least);
      ready_sound = subst (λ n. AllReady (scope q slots' (base + stops) n) ready'.seconds ready'.by.items) e (goes.ready_sound was.ready_sound was.found_sound);
      found_sound = found_widens q slots' slots' (base + stops) (base + stops) k (k + 1) found' (λ i lt. refl) (omega arith) (omega arith) (goes.found_sound was.ready_sound was.found_sound);
    }

best_now : (q : Query) (table : Table) (k stops base : ℕ) (slots slots' : List Step) (ready ready' : Ready) (found found' : Found)
    → IsTableOf q.network table → All (IsRoute table.stops) table.routes
    → Stands q k base slots ready found → GoesOn q k stops base slots slots' ready ready' found found' → Covers q.last found'
    → IsBestOf q slots' (base + stops) (k + 1) (record { second = found'.best; step = found'.best_step })
best_now q table k stops base slots slots' ready ready' found found' is whole was goes covers = record {
  sound = λ lt. record { before = k; few = omega arith; ends = (goes.found_sound was.ready_sound was.found_sound).best lt };
  least = λ rides arrive few listed.
      let e = ending q rides arrive listed in
      let known = (goes.left_least was.ready_least).each e.rides e.ride e.stop e.second (omega (arith, e.count, few)) e.leaves in
      let in_time = arrival_in_time q table e.rides e.ride e.stop e.second is whole e.leaves in
      elim (cases_lt e.second (slice_index found'.left e.stop.0)) [
        | inl later ↦ omega (arith, known, later, e.sum_is)
        | inr early ↦ omega (arith, covers.each e.stop e.walk (omega (arith, early, in_time)) e.entry, early, e.sum_is)
      ];
}

best_of_widens : (q : Query) (slots slots' : List Step) (bound bound' k : ℕ) (b : Best) → Agrees slots slots' bound → bound ≤ bound' → IsBestOf q slots bound k b → IsBestOf q slots' bound' k b
best_of_widens q slots slots' bound bound' k b same more was = record {
  sound = λ lt. let e = was.sound lt in record {
    before = e.before;
    few = e.few;
    ends = best_widens q slots slots' bound bound' e.before e.before b.second b.step same more (omega arith) e.ends;
  };
  least = was.least;
}

pub bests_more : (q : Query) (table : Table) (k stops base : ℕ) (slots slots' : List Step) (ready ready' : Ready) (found found' : Found) (bests : List Best)
    → IsTableOf q.network table → All (IsRoute table.stops) table.routes → Agrees slots slots' base
    → Stands q k base slots ready found → GoesOn q k stops base slots slots' ready ready' found found' → Covers q.last found'
    → k + 1 < length bests
    → ((j : ℕ) (b : Best) → j ≤ k → slice_get bests j ≡ Some b → IsBestOf q slots base j b)
    → (j : ℕ) (b : Best) → j ≤ k + 1 → slice_get (slice_set bests (k + 1) (record { second = found'.best; step = found'.best_step })) j ≡ Some b
    → IsBestOf q slots' (base + stops) j b
bests_more q table k stops base slots slots' ready ready' found found' bests is whole same was goes covers room before j b few at =
    let now : Best = record { second = found'.best; step = found'.best_step } in
    let in_set = slice_get_within (slice_set bests (k + 1) now) j b at in
    let b_is = get_or_from_slice_get (slice_set bests (k + 1) now) j b b at in
    elim (cases_lt j (k + 1)) [
      | inl lt ↦
          let other : j ≢ k + 1 = omega arith in
          let within : j < length bests = omega (arith, in_set, length-set bests (k + 1) now) in
          let old : slice_get bests j ≡ Some b = slice_get-get_or bests j b within ∙ ap Some (sym (get_or-set_other bests (k + 1) j now b other) ∙ b_is) in
          best_of_widens q slots slots' base (base + stops) j b same (omega arith) (before j b (omega arith) old)
      | inr ge ↦
          let e : k + 1 ≡ j = omega arith in
          let now_is : now ≡ b = sym (get_or-set_same bests (k + 1) now b room) ∙ subst (λ n. get_or (slice_set bests (k + 1) now) n b ≡ b) (sym e) b_is in
          subst (λ n. IsBestOf q slots' (base + stops) n b) e
          (subst (λ v. IsBestOf q slots' (base + stops) (k + 1) v) now_is
          (best_now q table k stops base slots slots' ready ready' found found' is whole was goes covers))
    ]

-- an arrival is below the greatest number
pub arrives_in_range : (q : Query) (table : Table) → IsTableOf q.network table → All (IsRoute table.stops) table.routes
    → All (λ entry. IfSome entry (λ m. m ≤ 9000000000000000000)) q.last
    → (rides : List Ride) (arrive : ℕ) → IsListed q.network q.first q.last q.list q.depart rides arrive → arrive < 2 ^ 64 - 1
arrives_in_range q table is whole bound rides arrive listed =
    let e = ending q rides arrive listed in
    let in_time = arrival_in_time q table e.rides e.ride e.stop e.second is whole e.leaves in
    let at : ℕ = e.stop.0 in
    let walk : e.walk ≤ 9000000000000000000 =
    subst (λ (o : Option ℕ). IfSome o (λ m. m ≤ 9000000000000000000)) (get_or_from_slice_get q.last at (Some e.walk) None e.entry)
    (All-get_or (λ (o : Option ℕ). IfSome o (λ m. m ≤ 9000000000000000000)) q.last at None (slice_get_within q.last at (Some e.walk) e.entry) bound) in
    omega (arith, in_time, walk, e.sum_is)
