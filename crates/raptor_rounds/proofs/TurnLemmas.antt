-- A round as a whole.
use Rattle.std.proofs.Common.{◌≡◌, ℕ, suc, ◌+◌, ◌-◌, ◌^◌, ◌<◌, ◌≤◌, inl, inr, min, List, ◌∷◌, length, subst, sym, refl, ap, ◌∙◌, arith, Bool, true, false, Some}
use Rattle.std.specs.Prelude.{slice_get, slice_index, slice_index_or, vec_len, IsTrue}
use Rattle.std.proofs.lemmas.Option.{slice_get_within, same_Some, slice_get_cases}
use Rattle.move_model.specs.declared.network.StopNo.{StopNo}
use Rattle.move_model.specs.declared.journey.Ride.{Ride}
use Rattle.move_model.specs.declared.journey.Shortcut.{Shortcut}
use Rattle.move_model.specs.Listed.{HasTransfer}
use Rattle.route_split.specs.declared.place.Place.{Place}
use Rattle.route_split.specs.Route.{Route, arrivals_of, departures_of}
use Rattle.route_split.specs.Table.{Table, CallsAt}
use Rattle.route_split.specs.Calls.{IsTableOf}
use Rattle.raptor_rounds.specs.declared.labels.Step.{Step}
use Rattle.raptor_rounds.specs.declared.labels.Found.{Found}
use Rattle.raptor_rounds.specs.declared.labels.Ready.{Ready}
use Rattle.raptor_rounds.specs.Ways.{Query, HasChain}
use Rattle.raptor_rounds.specs.Ways.IsReady.{goes_on}
use Rattle.raptor_rounds.specs.Ways.HasChain.{none, link}
use Rattle.raptor_rounds.specs.Labels.{Scope, ReadyBy, LeftBy, BestBy, AllReady, IsFound, Scanned, Falls, ReadyFalls, Cleared, Unmarked}
use Rattle.raptor_rounds.specs.Least.{LeastReady, LeastLeft, Walked, Closed, FirstKnown, GoesOn, scope}
use Rattle.raptor_rounds.proofs.SetLemmas.{true_within}
use Rattle.raptor_rounds.proofs.LawLemmas.{left_least, ready_least}

-- more slots, of which the first are as before
abbrev pub Agrees : List Step → List Step → ℕ → Type 0
Agrees slots slots' bound = (i : ℕ) → i < bound → slice_get slots' i ≡ slice_get slots i

pub chain_widens : (slots slots' : List Step) (bound bound' by : ℕ) (rides : List Ride) → Agrees slots slots' bound → bound ≤ bound'
    → HasChain slots bound by rides → HasChain slots' bound' by rides
chain_widens slots slots' bound bound' by rides same more none = none
chain_widens slots slots' bound bound' by rides same more (link {i = i} {step = step} {rides = rest} lt at further) =
    link (omega arith) (same i lt ∙ at) (chain_widens slots slots' bound bound' step.by rest same more further)

pub left_widens : (q : Query) (slots slots' : List Step) (bound bound' many many' : ℕ) (x : StopNo) (a : ℕ) (step : Step) → Agrees slots slots' bound → bound ≤ bound' → many ≤ many'
    → LeftBy (scope q slots bound many) x a step → LeftBy (scope q slots' bound' many') x a step
left_widens q slots slots' bound bound' many many' x a step same more fewer was = record {
  rides = was.rides;
  chain = chain_widens slots slots' bound bound' step.by was.rides same more was.chain;
  few = omega (arith, was.few);
  leaves = was.leaves;
}

pub best_widens : (q : Query) (slots slots' : List Step) (bound bound' many many' arrive : ℕ) (step : Step) → Agrees slots slots' bound → bound ≤ bound' → many ≤ many'
    → BestBy (scope q slots bound many) arrive step → BestBy (scope q slots' bound' many') arrive step
best_widens q slots slots' bound bound' many many' arrive step same more fewer was = record {
  stop = was.stop;
  second = was.second;
  walk = was.walk;
  left = left_widens q slots slots' bound bound' many many' was.stop was.second step same more fewer was.left;
  entry = was.entry;
  sum_is = was.sum_is;
}

pub found_widens : (q : Query) (slots slots' : List Step) (bound bound' many many' : ℕ) (f : Found) → Agrees slots slots' bound → bound ≤ bound' → many ≤ many'
    → IsFound (scope q slots bound many) f → IsFound (scope q slots' bound' many') f
found_widens q slots slots' bound bound' many many' f same more fewer was = record {
  each = λ x step at lt. left_widens q slots slots' bound bound' many many' x (slice_index f.left x.0) step same more fewer (was.each x step at lt);
  best = λ lt. best_widens q slots slots' bound bound' many many' f.best f.best_step same more fewer (was.best lt);
}

pub ready_widens : (q : Query) (slots slots' : List Step) (bound bound' many many' : ℕ) (seconds by : List ℕ) → Agrees slots slots' bound → bound ≤ bound' → many ≤ many'
    → AllReady (scope q slots bound many) seconds by → AllReady (scope q slots' bound' many') seconds by
ready_widens q slots slots' bound bound' many many' seconds by same more fewer was = record {
  each = λ x within lt. let w = was.each x within lt in record {
    rides = w.rides;
    chain = chain_widens slots slots' bound bound' (slice_index by x.0) w.rides same more w.chain;
    few = omega (arith, w.few);
    second = w.second;
    no_later = w.no_later;
    is_ready = w.is_ready;
  };
}

found_cleared : (s : Scope) (old new : Found) → Cleared old new → IsFound s old → IsFound s new
found_cleared s old new same was = record {
  each = λ x step at lt.
      let left : slice_index new.left x.0 ≡ slice_index old.left x.0 = ap (λ v. slice_index v x.0) same.left in
      let at' : slice_get old.steps.items x.0 ≡ Some step = subst (λ v. slice_get v.items x.0 ≡ Some step) same.steps at in
      subst (λ a. LeftBy s x a step) (sym left) (was.each x step at' (omega (arith, left, lt)));
  best = λ lt. subst (λ b. BestBy s b new.best_step) (sym same.best) (subst (λ (v : Step). BestBy s old.best v) (sym same.best_step) (was.best (omega (arith, lt, same.best))));
}

-- what is ready at a stop after a fresh label
fresh_way : (q : Query) (slots slots' : List Step) (base stops k : ℕ) (f : Found) → Agrees slots slots' base → length f.fresh ≡ stops → vec_len f.steps ≡ stops
    → ((y : ℕ) → slice_index_or f.fresh y false ≡ true → slice_get slots' (base + y) ≡ slice_get f.steps.items y)
    → IsFound (scope q slots base k) f
    → (y : ℕ) (x : StopNo) (m r : ℕ) → slice_index_or f.fresh y false ≡ true → slice_index f.left y < 2 ^ 32 - 1 → HasTransfer q.list (record { 0 = y }) x m
    → r ≡ slice_index f.left y + m → ReadyBy (scope q slots' (base + stops) (suc k)) x r (base + y + 1)
fresh_way q slots slots' base stops k f same fresh_len steps_len kept found y x m r fresh lt transfer sum =
    let within : y < stops = omega (arith, true_within f.fresh y fresh, fresh_len) in
    elim ((slice_get_cases f.steps.items y).1) [
      | inl some ↦
          let step = some.0 in
          let at = some.2 in
          let way = found.each (record { 0 = y }) step at lt in
          record {
            rides = step.ride ∷ way.rides;
            chain = let e : suc (base + y) ≡ base + y + 1 = omega arith in
                subst (λ b. HasChain slots' (base + stops) b (step.ride ∷ way.rides)) e
                (link (omega arith) (kept y fresh ∙ at) (chain_widens slots slots' base (base + stops) step.by way.rides same (omega arith) way.chain));
            few = omega (arith, way.few);
            second = r;
            no_later = omega arith;
            is_ready = goes_on way.leaves.is_ready way.leaves.is_ride way.leaves.in_time
                (subst (λ v. HasTransfer q.list v x m) (sym way.leaves.stop_is) transfer) (omega (arith, sum, way.leaves.second_is));
          }
      | inr past ↦ absurd (omega (arith, within, past.0, steps_len))
    ]

module _ (table : Table) (list : List Shortcut) (starts : List ℕ) (ready0 ready1 ready3 : Ready) (found0 found1 found2 : Found)
    (whole : (r : ℕ) (route : Route) → slice_get table.routes r ≡ Some route → length route.places < 2 ^ 32)
    (cleared : Cleared found0 found1)
    (starts_ok : (x r k : ℕ) → slice_index_or ready0.better x false ≡ true → CallsAt table.routes x r k → slice_index starts r ≤ k)
    (scanned : (r i : ℕ) (route : Route) → slice_get table.routes r ≡ Some route → slice_index starts r < 2 ^ 32 - 1 → slice_index starts r ≤ i
    → Scanned route table.buffer ready0.seconds found2.left found2.best i)
    (falls : Falls found1 found2) (unmarked : Unmarked ready0 ready1)
    (walked : (y x : StopNo) (m : ℕ) → slice_index_or found2.fresh y.0 false ≡ true → HasTransfer list y x m
    → min (slice_index ready3.seconds x.0) found2.best ≤ slice_index found2.left y.0 + m)
    (later : ReadyFalls ready1 ready3) where
  left_falls : (x : ℕ) → slice_index found2.left x ≤ slice_index found0.left x
  left_falls x = omega (arith, falls.left x, ap (λ v. slice_index v x) cleared.left)

  best_falls : found2.best ≤ found0.best
  best_falls = omega (arith, falls.best, cleared.best)

  pub seconds_fall : (x : ℕ) → slice_index ready3.seconds x ≤ slice_index ready0.seconds x
  seconds_fall x = omega (arith, later.seconds x, ap (λ v. slice_index v x) unmarked.seconds)

  scanned_at : Closed table list ready0 found0 → (r i : ℕ) (route : Route) → slice_get table.routes r ≡ Some route
      → (j p : ℕ) (on off : Place) → i < j → slice_get route.places i ≡ Some on → slice_get route.places j ≡ Some off
      → IsTrue on.board → IsTrue off.alight → p < length route.trips
      → slice_index ready0.seconds on.stop.0 < found2.best
      → slice_index ready0.seconds on.stop.0 + table.buffer ≤ slice_index (departures_of route i) p
      → (b : Bool) → slice_index_or ready0.better on.stop.0 false ≡ b
      → min (slice_index found2.left off.stop.0) found2.best ≤ slice_index (arrivals_of route j) p
  scanned_at closed r i route at j p on off forward at_on at_off may_on may_off within sooner early true e =
      let from = starts_ok on.stop.0 r i e (record { route = route; place = on; is_route = at; is_place = at_on; at_stop = refl }) in
      (scanned r i route at (omega (arith, from, forward, whole r route at, slice_get_within route.places j off at_off)) from).each
      j p on off forward at_on at_off may_on may_off within sooner early
  scanned_at closed r i route at j p on off forward at_on at_off may_on may_off within sooner early false e =
      omega (
        arith,
        (closed.scanned r i route on at at_on e).each j p on off forward at_on at_off may_on may_off within (omega (arith, sooner, best_falls)) early,
        left_falls off.stop.0,
        best_falls,
      )

  pub all_scanned : Closed table list ready0 found0 → (r i : ℕ) (route : Route) → slice_get table.routes r ≡ Some route
      → Scanned route table.buffer ready0.seconds found2.left found2.best i
  all_scanned closed r i route at = record {
    each = λ j p on off forward at_on at_off may_on may_off within sooner early.
        scanned_at closed r i route at j p on off forward at_on at_off may_on may_off within sooner early (slice_index_or ready0.better on.stop.0 false) refl;
  }

  walked_at : Closed table list ready0 found0 → (y x : StopNo) (m : ℕ) → HasTransfer list y x m → (b : Bool) → slice_index_or found2.fresh y.0 false ≡ b
      → min (slice_index ready3.seconds x.0) found2.best ≤ slice_index found2.left y.0 + m
  walked_at closed y x m has true is = walked y x m is has
  walked_at closed y x m has false is =
      omega (arith, closed.walked.each y x m has, seconds_fall x.0, best_falls, falls.others_stay y.0 is, ap (λ v. slice_index v y.0) cleared.left)

  pub all_walked : Closed table list ready0 found0 → Walked list ready3.seconds found2.left found2.best
  all_walked closed = record { each = λ y x m has. walked_at closed y x m has (slice_index_or found2.fresh y.0 false) refl }

  pub stays_closed : Closed table list ready0 found0 → Closed table list ready3 found2
  stays_closed closed = record {
    scanned = λ r i route place at at_place not_better.
        let same : slice_index ready3.seconds place.stop.0 ≡ slice_index ready0.seconds place.stop.0 =
        later.others_stay place.stop.0 not_better ∙ ap (λ v. slice_index v place.stop.0) unmarked.seconds in
        record {
          each = λ j p on off forward at_on at_off may_on may_off within sooner early.
              let on_is : place ≡ on = same_Some place on (sym at_place ∙ at_on) in
              let same_on : slice_index ready3.seconds on.stop.0 ≡ slice_index ready0.seconds on.stop.0 =
              subst (λ (v : Place). slice_index ready3.seconds v.stop.0 ≡ slice_index ready0.seconds v.stop.0) on_is same in
              (all_scanned closed r i route at).each j p on off forward at_on at_off may_on may_off within (omega (arith, sooner, same_on)) (omega (arith, early, same_on));
        };
    walked = all_walked closed;
  }

  module _ (q : Query) (k stops base : ℕ) (slots slots' : List Step) (is : IsTableOf q.network table) (same_list : q.list ≡ list)
      (closed : Closed table list ready0 found0) (same_slots : Agrees slots slots' base)
      (kept : (y : ℕ) → slice_index_or found2.fresh y false ≡ true → slice_get slots' (base + y) ≡ slice_get found2.steps.items y)
      (fresh_len : length found2.fresh ≡ stops) (steps_len : vec_len found2.steps ≡ stops)
      (scan_sound : AllReady (scope q slots base k) ready0.seconds ready0.by.items → IsFound (scope q slots base k) found1 → IsFound (scope q slots base k) found2)
      (walk_sound : (s : Scope) → ((y x : StopNo) (m : ℕ) → slice_index_or found2.fresh y.0 false ≡ true → HasTransfer list y x m
      → slice_index found2.left y.0 + m < 2 ^ 32 - 1 → ReadyBy s x (slice_index found2.left y.0 + m) (base + y.0 + 1))
      → AllReady s ready1.seconds ready1.by.items → AllReady s ready3.seconds ready3.by.items) where
    first_falls : FirstKnown q ready0.seconds → FirstKnown q ready3.seconds
    first_falls known = record { each = λ x m entry. omega (arith, known.each x m entry, seconds_fall x.0) }

    now_left : LeastReady q k ready0.seconds found0.best → LeastLeft q k found2.left found2.best
    now_left least = left_least q table k ready0.seconds found2.left found0.best found2.best is (all_scanned closed) best_falls least

    now_found : AllReady (scope q slots base k) ready0.seconds ready0.by.items → IsFound (scope q slots base k) found0 → IsFound (scope q slots base k) found2
    now_found all was = scan_sound all (found_cleared (scope q slots base k) found0 found1 cleared was)

    now_ready : AllReady (scope q slots base k) ready0.seconds ready0.by.items → IsFound (scope q slots base k) found0
        → AllReady (scope q slots' (base + stops) (suc k)) ready3.seconds ready3.by.items
    now_ready all was =
        let s : Scope = scope q slots' (base + stops) (suc k) in
        let found = now_found all was in
        let wide : AllReady s ready0.seconds ready0.by.items =
        ready_widens q slots slots' base (base + stops) k (suc k) ready0.seconds ready0.by.items same_slots (omega arith) (omega arith) all in
        let wide1 : AllReady s ready1.seconds ready1.by.items =
        subst (λ v. AllReady s v ready1.by.items) (sym unmarked.seconds) (subst (λ v. AllReady s ready0.seconds v.items) (sym unmarked.by) wide) in
        walk_sound s
        (λ y x m fresh has lt. fresh_way q slots slots' base stops k found2 same_slots fresh_len steps_len kept found y.0 x m
        (slice_index found2.left y.0 + m) fresh (omega (arith, lt)) (subst (λ l. HasTransfer l y x m) (sym same_list) has) refl)
        wide1

    pub round_goes_on : GoesOn q k stops base slots slots' ready0 ready3 found0 found2
    round_goes_on = record {
      first = first_falls;
      left_least = now_left;
      ready_least = λ known least. ready_least q k ready3.seconds found2.left found2.best (now_left least)
          (subst (λ l. Walked l ready3.seconds found2.left found2.best) (sym same_list) (all_walked closed)) (first_falls known).each;
      found_sound = λ all was. found_widens q slots slots' base (base + stops) k k found2 same_slots (omega arith) (omega arith) (now_found all was);
      ready_sound = now_ready;
    }
