-- The leads at a second are its best pairs.
use Rattle.std.proofs.Common.{◌≡◌, ℕ, zero, suc, ◌+◌, ◌-◌, ◌^◌, ◌<◌, ◌≤◌, inl, inr, List, [], ◌∷◌, ◌++◌, length, take, set, get_or, get_or-set_same, get_or-set_other, refl, sym, ap, ◌∙◌, subst, arith, Option, Some, None}
use Rattle.std.specs.Prelude.{slice_get, slice_index, slice_index_or, Contains, MatchOption}
use Rattle.std.specs.Option.{IfSome}
use Rattle.std.proofs.lemmas.Bool.{cases_eq, cases_lt}
use Rattle.std.proofs.lemmas.List.{length-set, take_more}
use Rattle.std.proofs.lemmas.Option.{slice_get_within, get_or_from_slice_get, same_Some, slice_get-get_or}
use Rattle.std.proofs.lemmas.List.Elements.{All-get_or, Contains-push, Contains-push_cases, Contains-append_left}
use Rattle.move_model.specs.declared.network.StopNo.{StopNo}
use Rattle.move_model.specs.declared.network.Call.{Call}
use Rattle.move_model.specs.declared.journey.Ride.{Ride}
use Rattle.move_model.specs.declared.journey.Pair.{Pair}
use Rattle.move_model.specs.declared.journey.Shortcut.{Shortcut}
use Rattle.move_model.specs.Journey.{IsRide}
use Rattle.move_model.specs.Listed.{HasTransfer, IsListed}
use Rattle.move_model.specs.Range.{HasFootPair, HasRidesPair, IsListedBest}
use Rattle.route_split.specs.Route.{IsRoute}
use Rattle.route_split.specs.Table.{Table}
use Rattle.raptor_rounds.specs.Answers.{HasSeconds, IsEntryWithin, turned_onto}
use Rattle.raptor_rounds.proofs.LawLemmas.{row_call, ending}
use Rattle.raptor_rounds.proofs.TimesLemmas.{stop_within, arrives_before}
use Rattle.range_spans.specs.Open.{RangeQuery, IsBestRide, IsLead, Tells}
use Rattle.range_lanes.specs.declared.level.Step.{Step}
use Rattle.range_lanes.specs.declared.level.Level.{Level}
use Rattle.range_lanes.specs.Levels.{CatchesFrom, Fits}
use Rattle.range_lanes.specs.State.{IsChain}
use Rattle.range_lanes.specs.State.IsChain.{first, next}
use Rattle.range_lanes.proofs.Exploiting.{route_whole}
use Rattle.range_lanes.proofs.RoundLaw.{item_at}
use Rattle.range_lanes.proofs.Complete.{level_before, below_at, BestBy, best_by}
use Rattle.range_lanes.proofs.Chains.{Listed, chain_listed}
use Rattle.range_lanes.proofs.Bests.{Leads, lead_attained, lead_best}
use Rattle.range_search.specs.Leads.{IsLeadOf, IsLeast, Right, query_at}
use Rattle.range_search.specs.Leads.IsLeadOf.{leads, behind}

step_of : (steps : List Step) (y : ℕ) → y < length steps → (step : Step) × (slice_get steps y ≡ Some step)
step_of [] y lt = absurd (omega (arith, lt))
step_of (x ∷ steps) zero lt = (x, refl)
step_of (x ∷ steps) (suc y) lt = step_of steps y (omega (arith, lt))

-- what a lead is worth: it is before the bound and all levels below
pub record Led (levels : List Level) (bound k : ℕ) (level : Level) : Type 0 where
  pub before : level.best < bound
  pub lower : (j : ℕ) (l : Level) → j < k → slice_get levels j ≡ Some l → level.best < l.best

pub data LeadCases (levels : List Level) (bound k : ℕ) (level : Level) (lead : Option ℕ) : Type 0 where
  led : lead ≡ Some level.best → Led levels bound k level → LeadCases levels bound k level lead
  late : lead ≡ None → bound ≤ level.best → LeadCases levels bound k level lead
  behind_one : lead ≡ None → (j : ℕ) (l : Level) → j < k → slice_get levels j ≡ Some l → l.best ≤ level.best → LeadCases levels bound k level lead

contains_taken : (levels : List Level) (k j : ℕ) (l : Level) → j < k → slice_get levels j ≡ Some l → Contains (take k levels) l
contains_taken levels k j l lt is = (j, within levels k j lt is, at levels k j lt is)
  where
    within : (ls : List Level) (k j : ℕ) → j < k → slice_get ls j ≡ Some l → j < length (take k ls)
    within [] k j lt is = absurd (omega (arith, slice_get_within [] j l is))
    within (x ∷ ls) zero j lt is = absurd (omega (arith, lt))
    within (x ∷ ls) (suc k) zero lt is = omega arith
    within (x ∷ ls) (suc k) (suc j) lt is = omega (arith, within ls k j (omega (arith, lt)) is)

    at : (ls : List Level) (k j : ℕ) → j < k → slice_get ls j ≡ Some l → get_or (take k ls) j l ≡ l
    at [] k j lt is = absurd (omega (arith, slice_get_within [] j l is))
    at (x ∷ ls) zero j lt is = absurd (omega (arith, lt))
    at (x ∷ ls) (suc k) zero lt is = same_Some x l is
    at (x ∷ ls) (suc k) (suc j) lt is = at ls k j (omega (arith, lt)) is

pub lead_cases : (levels : List Level) (bound k : ℕ) (level : Level) (lead : Option ℕ) → IsLeadOf (take k levels) bound level lead → LeadCases levels bound k level lead
lead_cases levels bound k level lead (leads before each) =
    LeadCases.led refl (record { before = before; lower = λ j l lt is. each l (contains_taken levels k j l lt is) })
lead_cases levels bound k level lead (behind (inl past)) = LeadCases.late refl past
lead_cases levels bound k level lead (behind (inr (l, has, le))) =
    let b : (j : ℕ) × (slice_get levels j ≡ Some l) × (j < k) = below_at levels k l has in
    LeadCases.behind_one refl b.0 l b.2 b.1 le

module _ (q : RangeQuery) (table : Table) (d : ℕ) (levels : List Level) (right : Right q table d levels) where
  stops_of : (ride : Ride) (on off : Call) → IsRide q.network ride on off → on.stop.0 < length q.last_row
  stops_of ride on off is_ride =
      let row = right.is_table.holds.each_trip ride.trip (slice_get_within q.network.trips ride.trip.0 is_ride.boards.0 is_ride.boards.1) in
      let is_row = right.is_table.holds.rows_are row.r row.route row.is_route row.p ride.trip row.is_row in
      let on_row = row_call q.network row.route row.p ride.trip ride.board on is_row is_ride.boards in
      let is_whole : IsRoute table.stops row.route = route_whole table.stops table.routes right.whole row.r row.route row.is_route in
      omega (arith, stop_within table.stops row.route ride.board on_row.place is_whole on_row.is_place, right.stops_are, ap (λ (v : Call). v.stop.0) on_row.call_is)

  arrives_in_range : (ride : Ride) (on off : Call) → IsRide q.network ride on off → off.arr < 2 ^ 32 - 1
  arrives_in_range ride on off is_ride =
      let row = right.is_table.holds.each_trip ride.trip (slice_get_within q.network.trips ride.trip.0 is_ride.leaves.0 is_ride.leaves.1) in
      let is_row = right.is_table.holds.rows_are row.r row.route row.is_route row.p ride.trip row.is_row in
      let off_row = row_call q.network row.route row.p ride.trip ride.alight off is_row is_ride.leaves in
      let is_whole : IsRoute table.stops row.route = route_whole table.stops table.routes right.whole row.r row.route row.is_route in
      omega (arith, arrives_before table.stops row.route ride.alight row.p is_whole, ap (λ (v : Call). v.arr) off_row.call_is)

  entry_of : (e : Shortcut) → Contains q.list e → IsEntryWithin (length q.last_row) e
  entry_of e has = subst (IsEntryWithin (length q.last_row)) has.2 (All-get_or (IsEntryWithin (length q.last_row)) q.list has.0 e has.1 right.entries)

  from_within : (z x : StopNo) (m : ℕ) → x.0 < length q.last_row → HasTransfer q.list z x m → z.0 < length q.last_row
  from_within z x m lt (inl stays) = subst (λ (v : StopNo). v.0 < length q.last_row) (sym stays.0) lt
  from_within z x m lt (inr has) = (entry_of _ has).from_within

  fits_at : (k : ℕ) (level : Level) → slice_get levels k ≡ Some level → Fits (length q.last_row) level
  fits_at k level is = subst (Fits (length q.last_row)) (get_or_from_slice_get levels k level level is)
      (All-get_or (Fits (length q.last_row)) levels k level (slice_get_within levels k level is) right.fits)

  -- a label has a chain of rides
  pub has_chain : (k : ℕ) (level : Level) → slice_get levels k ≡ Some level → (y : StopNo) → y.0 < length q.last_row → slice_index level.left.items y.0 < 2 ^ 32 - 1
      → (chain : List Ride) × IsChain levels k y chain
  has_chain zero level is y within sure =
      let s : (step : Step) × (slice_get level.steps.items y.0 ≡ Some step) = step_of level.steps.items y.0 (omega (arith, within, (fits_at 0 level is).steps)) in
      (s.0.ride ∷ [], first is s.1)
  has_chain (suc k) level is y within sure =
      let s : (step : Step) × (slice_get level.steps.items y.0 ≡ Some step) = step_of level.steps.items y.0 (omega (arith, within, (fits_at (suc k) level is).steps)) in
      let stands = (right.sound.each (suc k) level is).left y s.0 s.1 sure in
      let prev : (l : Level) × (slice_get levels k ≡ Some l) = item_at levels k (omega (arith, slice_get_within levels (suc k) level is)) in
      let caught : CatchesFrom (query_at q d) (Some prev.0) s.0 stands.on =
      subst (λ o. CatchesFrom (query_at q d) o s.0 stands.on) (level_before levels k prev.0 prev.1) stands.catches in
      let rest : (chain : List Ride) × IsChain levels k s.0.from chain =
      has_chain k prev.0 prev.1 s.0.from (from_within s.0.from stands.on.stop caught.0 (stops_of s.0.ride stands.on stands.off stands.is_ride) caught.1) caught.2 in
      (s.0.ride ∷ rest.0, next {rides = rest.0} is s.1 rest.1)

  pub best_chain : (k : ℕ) (level : Level) → slice_get levels k ≡ Some level → level.best < 2 ^ 64 - 1 → (chain : List Ride) × IsChain levels k level.best_stop chain
  best_chain k level is some =
      let e = (right.sound.each k level is).best some in
      has_chain k level is level.best_stop (slice_get_within q.last_row level.best_stop.0 (Some e.seconds) e.walk) e.left

  module _ (bound : ℕ) (bound_is : MatchOption q.foot (bound ≡ 2 ^ 64 - 1) (λ seconds. bound ≡ d + seconds)) (early : d < 2 ^ 32 - 1)
      (marks : List (Option ℕ)) (many : length marks ≡ length levels)
      (exact : (k : ℕ) (level : Level) → slice_get levels k ≡ Some level → IsLeadOf (take k levels) bound level (slice_index_or marks k None)) where
    pub bound_low : bound ≤ 2 ^ 64 - 1
    bound_low = go q.foot bound_is right.foot_seconds
      where
        go : (foot : Option ℕ) → MatchOption foot (bound ≡ 2 ^ 64 - 1) (λ seconds. bound ≡ d + seconds) → HasSeconds foot → bound ≤ 2 ^ 64 - 1
        go None is seconds = omega (arith, is)
        go (Some m) is seconds = omega (arith, is, seconds, early)

    bound_walks : (seconds : ℕ) → q.foot ≡ Some seconds → bound ≡ d + seconds
    bound_walks seconds e = subst (λ (o : Option ℕ). MatchOption o (bound ≡ 2 ^ 64 - 1) (λ s. bound ≡ d + s)) e bound_is

    mark_at : (k : ℕ) (lead : Option ℕ) → k < length levels → slice_index_or marks k None ≡ lead → slice_get marks k ≡ Some lead
    mark_at k lead lt e = slice_get-get_or marks k None (omega (arith, lt, many)) ∙ ap (λ v. Some v) e

    leads_of : (k : ℕ) (level : Level) → Led levels bound k level → Leads q.foot d levels k level
    leads_of k level won = record {
      some = omega (arith, won.before, bound_low);
      lower = won.lower;
      walks = λ seconds e. omega (arith, won.before, bound_walks seconds e);
    }

    -- the rides behind a lead attain it
    pub led_listed : (k : ℕ) (level : Level) → slice_get levels k ≡ Some level → Led levels bound k level → (chain : List Ride) → IsChain levels k level.best_stop chain
        → IsListed q.network q.first_row q.last_row q.list d (turned_onto chain []) level.best × (length (turned_onto chain []) ≡ k + 1)
    led_listed k level is won chain is_chain =
        let some : level.best < 2 ^ 64 - 1 = omega (arith, won.before, bound_low) in
        let listed : Listed (query_at q d) levels right.sound k level.best chain =
        chain_listed (query_at q d) levels right.sound k level is level.best_stop level.best ((right.sound.each k level is).best some) chain is_chain in
        let b : BestBy (query_at q d) table levels right.is_table right.whole right.closed (length (turned_onto chain [])) listed.arrive =
        best_by (query_at q d) table levels right.is_table right.whole right.closed (turned_onto chain []) listed.arrive
        (omega (arith, listed.many, slice_get_within levels k level is)) listed.listed in
        let le : level.best ≤ listed.arrive = go b.place b.level b.is_level (omega (arith, b.within, listed.many)) listed.arrive b.no_later listed.no_later in
        let same : listed.arrive ≡ level.best = omega (arith, le, listed.no_later) in
        (subst (λ a. IsListed q.network q.first_row q.last_row q.list d (turned_onto chain []) a) same listed.listed, omega (arith, listed.many))
      where
        go : (place : ℕ) (l : Level) → slice_get levels place ≡ Some l → place < suc k → (a : ℕ) → l.best ≤ a → a ≤ level.best → level.best ≤ a
        go place l is_l lt a no_later by_then = elim (cases_lt place k) [
          | inl below ↦ absurd (omega (arith, won.lower place l below is_l, no_later, by_then))
          | inr from ↦
              let e : place ≡ k = omega (arith, from, lt) in
              let same : l ≡ level = same_Some l level (sym is_l ∙ ap (λ i. slice_get levels i) e ∙ is) in
              omega (arith, no_later, ap (λ (v : Level). v.best) same)
        ]

    -- the first of the levels that arrive by then
    pub record FirstLed (a : ℕ) : Type 0 where
      pub place : ℕ
      pub level : Level
      pub is_level : slice_get levels place ≡ Some level
      pub lead_is : slice_index_or marks place None ≡ Some level.best
      pub led : Led levels bound place level
      pub by_then : level.best ≤ a

    first_led : (n k : ℕ) (level : Level) (a : ℕ) → k < n → slice_get levels k ≡ Some level → level.best ≤ a → a < bound → (f : FirstLed a) × (f.place ≤ k)
    first_led zero k level a lt is by_then before = absurd (omega (arith, lt))
    first_led (suc n) k level a lt is by_then before =
        go (lead_cases levels bound k level (slice_index_or marks k None) (exact k level is))
        (λ j l below is_l le. first_led n j l a (omega (arith, below, lt)) is_l le before)
      where
        go : LeadCases levels bound k level (slice_index_or marks k None)
            → ((j : ℕ) (l : Level) → j < k → slice_get levels j ≡ Some l → l.best ≤ a → (f : FirstLed a) × (f.place ≤ j)) → (f : FirstLed a) × (f.place ≤ k)
        go (LeadCases.led e l) again = (record { place = k; level = level; is_level = is; lead_is = e; led = l; by_then = by_then }, omega arith)
        go (LeadCases.late e le) again = absurd (omega (arith, le, by_then, before))
        go (LeadCases.behind_one e j l below is_l le) again =
            let f : (f : FirstLed a) × (f.place ≤ j) = again j l below is_l (omega (arith, le, by_then)) in
            (f.0, omega (arith, f.1, below))

    arrival_low : (rides : List Ride) (arrive : ℕ) → IsListed q.network q.first_row q.last_row q.list d rides arrive → arrive < 2 ^ 64 - 1
    arrival_low rides arrive listed =
        let e = ending (query_at q d) rides arrive listed in
        let m : IfSome (Some e.walk) (λ m. m ≤ 9000000000000000000) = subst HasSeconds (get_or_from_slice_get q.last_row _ (Some e.walk) (Some e.walk) e.entry)
        (All-get_or HasSeconds q.last_row _ (Some e.walk) (slice_get_within q.last_row _ (Some e.walk) e.entry) right.last_seconds) in
        omega (arith, m, e.sum_is, e.leaves.second_is, arrives_in_range e.ride e.leaves.on e.leaves.off e.leaves.is_ride)

    best_before : (pair : Pair) → IsBestRide q d pair → pair.arrive < 2 ^ 64 - 1 → pair.arrive < bound
    best_before pair best low = elim (cases_lt pair.arrive bound) [
      | inl lt ↦ lt
      | inr le ↦ absurd (go q.foot refl bound_is le)
    ]
      where
        go : (foot : Option ℕ) → q.foot ≡ foot → MatchOption foot (bound ≡ 2 ^ 64 - 1) (λ seconds. bound ≡ d + seconds) → bound ≤ pair.arrive → ⊥
        go None e is le = omega (arith, is, le, low)
        go (Some m) e is le =
            let walk : HasFootPair q.foot d (record { arrive = d + m; trips = 0 }) = record { seconds = m; foot_is = e; arrive_is = refl; no_trip = refl } in
            let same : record { arrive = d + m; trips = 0 } ≡ pair =
            best.best.best (record { arrive = d + m; trips = 0 }) (omega arith) (inl walk) (omega (arith, is, le), omega arith) in
            omega (arith, best.rides, ap (λ (p : Pair). p.trips) same)

    best_is_lead : (pair : Pair) → IsBestRide q d pair → IsLead marks pair
    best_is_lead pair best = elim best.best.attained [
      | inl walk ↦ absurd (omega (arith, walk.no_trip, best.rides))
      | inr ridden ↦ go ridden
    ]
      where
        go : HasRidesPair q.network q.first_row q.last_row q.list d pair → IsLead marks pair
        go ridden =
            let low : pair.arrive < bound = best_before pair best (arrival_low ridden.rides pair.arrive ridden.listed) in
            let b : BestBy (query_at q d) table levels right.is_table right.whole right.closed (length ridden.rides) pair.arrive =
            best_by (query_at q d) table levels right.is_table right.whole right.closed ridden.rides pair.arrive
            (omega (arith, ridden.many, best.best.within, right.many)) ridden.listed in
            let f : (f : FirstLed pair.arrive) × (f.place ≤ b.place) = first_led (suc b.place) b.place b.level pair.arrive (omega arith) b.is_level b.no_later low in
            let leads' = leads_of f.0.place f.0.level f.0.led in
            let chain : (chain : List Ride) × IsChain levels f.0.place f.0.level.best_stop chain = best_chain f.0.place f.0.level f.0.is_level leads'.some in
            let has : HasRidesPair q.network q.first_row q.last_row q.list d (record { arrive = f.0.level.best; trips = suc f.0.place }) =
            lead_attained (query_at q d) table levels (length q.last_row) right.is_table right.whole right.closed right.sound right.fits
            q.foot f.0.place f.0.level f.0.is_level leads' chain.0 chain.1 in
            let few : f.0.place < pair.trips = omega (arith, f.1, b.within, ridden.many) in
            let same : record { arrive = f.0.level.best; trips = suc f.0.place } ≡ pair =
            best.best.best (record { arrive = f.0.level.best; trips = suc f.0.place }) (omega (arith, few, best.best.within)) (inr has)
            (f.0.by_then, omega (arith, few)) in
            record {
              place = f.0.place;
              trips_are = omega (arith, ap (λ (p : Pair). p.trips) same);
              lead_is = mark_at f.0.place (Some pair.arrive) (slice_get_within levels f.0.place f.0.level f.0.is_level)
                  (f.0.lead_is ∙ ap (λ (p : Pair). Some p.arrive) same);
            }

    lead_is_best : (pair : Pair) → IsLead marks pair → IsBestRide q d pair
    lead_is_best pair h =
        let within : h.place < length levels = omega (arith, slice_get_within marks h.place (Some pair.arrive) h.lead_is, many) in
        let l : (l : Level) × (slice_get levels h.place ≡ Some l) = item_at levels h.place within in
        let read : slice_index_or marks h.place None ≡ Some pair.arrive = get_or_from_slice_get marks h.place (Some pair.arrive) None h.lead_is in
        go l.0 l.1 read (lead_cases levels bound h.place l.0 (slice_index_or marks h.place None) (exact h.place l.0 l.1))
      where
        some_none : (lead : Option ℕ) → lead ≡ Some pair.arrive → lead ≡ None → ⊥
        some_none lead e f = cc

        go : (l : Level) → slice_get levels h.place ≡ Some l → slice_index_or marks h.place None ≡ Some pair.arrive
            → LeadCases levels bound h.place l (slice_index_or marks h.place None) → IsBestRide q d pair
        go l is read (LeadCases.late e le) = absurd (some_none _ read e)
        go l is read (LeadCases.behind_one e j low below is_low le) = absurd (some_none _ read e)
        go l is read (LeadCases.led e won) =
            let leads' = leads_of h.place l won in
            let chain : (chain : List Ride) × IsChain levels h.place l.best_stop chain = best_chain h.place l is leads'.some in
            let best : IsListedBest q.network q.first_row q.last_row q.list q.foot d q.limit (record { arrive = l.best; trips = suc h.place }) =
            lead_best (query_at q d) table levels (length q.last_row) right.is_table right.whole right.closed right.sound right.fits
            q.foot h.place l is leads' q.limit (omega (arith, right.many)) (omega (arith, right.many, slice_get_within levels h.place l is)) chain.0 chain.1 in
            record {
              best = subst (λ p. IsListedBest q.network q.first_row q.last_row q.list q.foot d q.limit p)
                  (pair_same l.best (suc h.place) pair.arrive pair.trips (same_Some l.best pair.arrive (sym e ∙ read)) (omega (arith, h.trips_are))) best;
              rides = omega (arith, h.trips_are);
            }
          where
            pair_same : (a t b u : ℕ) → a ≡ b → t ≡ u → record { arrive = a; trips = t } ≡ (let v : Pair = record { arrive = b; trips = u } in v)
            pair_same a t b u e f = cc

    pub tells : Tells q d marks
    tells pair = (best_is_lead pair, lead_is_best pair)

pub record FindState (levels : List Level) (bound k : ℕ) (marks : List (Option ℕ)) (least : ℕ) : Type 0 where
  pub many : length marks ≡ length levels
  pub is_least : IsLeast (take k levels) bound least
  pub done : (j : ℕ) (level : Level) → j < k → slice_get levels j ≡ Some level → IsLeadOf (take j levels) bound level (slice_index_or marks j None)

pub find_none : (levels : List Level) (bound : ℕ) (marks : List (Option ℕ)) → length marks ≡ length levels → FindState levels bound 0 marks bound
find_none levels bound marks many = record {
  many = many;
  is_least = record { attained = inl refl; within = omega arith; each = λ l has. absurd (omega (arith, has.1)) };
  done = λ j level lt is. absurd (omega (arith, lt));
}

pub find_more : (levels : List Level) (bound k : ℕ) (marks : List (Option ℕ)) (least : ℕ) (level : Level) (lead : Option ℕ) (least' : ℕ) → FindState levels bound k marks least
    → slice_get levels k ≡ Some level → (level.best < least → lead ≡ Some level.best) → (least ≤ level.best → lead ≡ None)
    → (level.best < least → least' ≡ level.best) → (least ≤ level.best → least' ≡ least) → FindState levels bound (k + 1) (set marks k lead) least'
find_more levels bound k marks least level lead least' was is led_is none_is low same = record {
  many = length-set marks k lead ∙ was.many;
  is_least = subst (λ ls. IsLeast ls bound least') (sym grown) next_least;
  done = λ j l lt is_l. elim (cases_eq j k) [
    | inl e ↦
        let same_level : level ≡ l = same_Some level l (sym is ∙ ap (λ i. slice_get levels i) (sym e) ∙ is_l) in
        let read : slice_index_or (set marks k lead) j None ≡ lead = ap (λ i. slice_index_or (set marks k lead) i None) e ∙ get_or-set_same marks k lead None within in
        subst (λ v. IsLeadOf (take j levels) bound l v) (sym read)
        (subst (λ i. IsLeadOf (take i levels) bound l lead) (sym e) (subst (λ v. IsLeadOf (take k levels) bound v lead) same_level here))
    | inr other ↦ subst (λ v. IsLeadOf (take j levels) bound l v) (sym (get_or-set_other marks k j lead None other)) (was.done j l (omega (arith, lt, other)) is_l)
  ];
}
  where
    within : k < length marks
    within = omega (arith, slice_get_within levels k level is, was.many)

    grown : take (k + 1) levels ≡ take k levels ++ level ∷ []
    grown = take_more levels k level (slice_get_within levels k level is) ∙ ap (λ v. take k levels ++ v ∷ []) (get_or_from_slice_get levels k level level is)

    here : IsLeadOf (take k levels) bound level lead
    here = elim (cases_lt level.best least) [
      | inl lt ↦ subst (λ v. IsLeadOf (take k levels) bound level v) (sym (led_is lt)) (leads (omega (arith, lt, was.is_least.within)) (λ l has. omega (arith, lt, was.is_least.each l has)))
      | inr le ↦ subst (λ v. IsLeadOf (take k levels) bound level v) (sym (none_is le)) (behind (elim was.is_least.attained [
        | inl e ↦ inl (omega (arith, le, e))
        | inr h ↦ inr (h.0, h.1, omega (arith, h.2, le))
      ]))
    ]

    next_least : IsLeast (take k levels ++ level ∷ []) bound least'
    next_least = elim (cases_lt level.best least) [
      | inl lt ↦ record {
        attained = inr (level, Contains-push (take k levels) level, sym (low lt));
        within = omega (arith, low lt, lt, was.is_least.within);
        each = λ l has. elim (Contains-push_cases (take k levels) level l has) [
          | inl old ↦ omega (arith, low lt, lt, was.is_least.each l old)
          | inr e ↦ omega (arith, low lt, ap (λ (v : Level). v.best) e)
        ];
      }
      | inr le ↦ record {
        attained = elim was.is_least.attained [
          | inl e ↦ inl (same le ∙ e)
          | inr h ↦ inr (h.0, Contains-append_left (take k levels) (level ∷ []) h.0 h.1, h.2 ∙ sym (same le))
        ];
        within = omega (arith, same le, was.is_least.within);
        each = λ l has. elim (Contains-push_cases (take k levels) level l has) [
          | inl old ↦ omega (arith, same le, was.is_least.each l old)
          | inr e ↦ omega (arith, same le, le, ap (λ (v : Level). v.best) e)
        ];
      }
    ]
