-- Which best arrivals are best pairs, and the spans that are opened for them.
--     IsLeadOf below bound level lead    the lead is the level's best arrival, where it is before the bound and before those of the levels below
--     IsLeast below bound least          the least of the bound and of the best arrivals below
--     IsOpeningOf levels k lead d old new    where there is a lead, a span is open after this
--     Right q table d levels             the levels are right at second d, for this query
use Rattle.std.specs.Prelude.{◌≡◌, ℕ, ◌<◌, ◌≤◌, ◌⊎◌, List, [], length, slice_get, All, Contains, Option, Some, None}
use Rattle.move_model.specs.declared.journey.Ride.{Ride}
use Rattle.route_split.specs.Route.{IsRoute}
use Rattle.route_split.specs.Table.{Table}
use Rattle.route_split.specs.Calls.{IsTableOf}
use Rattle.raptor_rounds.specs.Answers.{HasSeconds, IsEntryWithin, turned_onto}
use Rattle.raptor_rounds.specs.Ways.{Query}
use Rattle.range_spans.specs.declared.pending.OpenSpan.{OpenSpan}
use Rattle.range_spans.specs.Open.{RangeQuery}
use Rattle.range_lanes.specs.declared.level.Level.{Level}
use Rattle.range_lanes.specs.Levels.{Fits}
use Rattle.range_lanes.specs.State.{IsClosed, AreSound, IsChain}

pub data IsLeadOf (below : List Level) (bound : ℕ) (level : Level) : Option ℕ → Type 0 where
  leads : level.best < bound → ((l : Level) → Contains below l → level.best < l.best) → IsLeadOf below bound level (Some level.best)
  behind : (bound ≤ level.best) ⊎ ((l : Level) × Contains below l × (l.best ≤ level.best)) → IsLeadOf below bound level None

pub record IsLeast (below : List Level) (bound least : ℕ) : Type 0 where
  pub attained : (least ≡ bound) ⊎ ((l : Level) × Contains below l × (l.best ≡ least))
  pub within : least ≤ bound
  pub each : (l : Level) → Contains below l → least ≤ l.best

-- who opens a span takes the rides behind the level's best arrival
pub record IsOpeningOf (levels : List Level) (k : ℕ) (lead : Option ℕ) (d : ℕ) (old new : Option OpenSpan) : Type 0 where
  pub each : (s : OpenSpan) → new ≡ Some s → (old ≡ Some s) ⊎ ((s.last ≡ d) × (lead ≡ Some s.arrive)
      × ((level : Level) (chain : List Ride) → slice_get levels k ≡ Some level → IsChain levels k level.best_stop chain → s.rides ≡ turned_onto chain []))
  pub stay : (s : OpenSpan) → old ≡ Some s → new ≡ Some s
  pub all : (arrive : ℕ) → lead ≡ Some arrive → (s : OpenSpan) × (new ≡ Some s) × ((old ≡ Some s) ⊎ (s.arrive ≡ arrive))

abbrev pub query_at : RangeQuery → ℕ → Query
query_at q d = record { network = q.network; first = q.first_row; last = q.last_row; list = q.list; depart = d }

pub record Right (q : RangeQuery) (table : Table) (d : ℕ) (levels : List Level) : Type 0 where
  pub is_table : IsTableOf q.network table
  pub whole : All (IsRoute table.stops) table.routes
  pub stops_are : table.stops ≡ length q.last_row
  pub entries : All (IsEntryWithin (length q.last_row)) q.list
  pub last_seconds : All HasSeconds q.last_row
  pub foot_seconds : HasSeconds q.foot
  pub many : length levels ≡ q.limit
  pub fits : All (Fits (length q.last_row)) levels
  pub closed : IsClosed table q.first_row q.last_row q.list d levels
  pub sound : AreSound (query_at q d) levels
