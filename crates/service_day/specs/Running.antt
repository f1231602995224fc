-- Services that run on a day.
--     is_regular day service     the weekday's flag is set, and the day lies from the service's first to its last
--     runs_on day service        the day is added to the service, or it is regular and not removed
use Rattle.std.specs.Prelude.{◌≡◌, ℕ, Bool, false, map, ◌==◌, ◌&&◌, ◌||◌, not, nat_le, List, slice_index_or}
use Rattle.std.specs.List.{list_any}
use Rattle.gtfs_feed.specs.declared.feed.Service.{Service}
use Rattle.service_day.specs.Day.{weekday_of, IsDayBefore}

abbrev pub is_among : List ℕ → ℕ → Bool
is_among dates day = list_any (λ date. date == day) dates

abbrev pub is_regular : ℕ → Service → Bool
is_regular day service =
    slice_index_or service.days (weekday_of day) false && (nat_le service.first day && nat_le day service.last)

abbrev pub runs_on : ℕ → Service → Bool
runs_on day service =
    is_among service.added day || (not (is_among service.removed day) && is_regular day service)

-- the services that run on a day
abbrev pub running : ℕ → List Service → List Bool
running day services = map (runs_on day) services

-- the services that run on the day before
pub record AreRunningBefore (day : ℕ) (services : List Service) (set : List Bool) : Type 0 where
  pub before : ℕ
  pub follows : IsDayBefore before day
  pub run : set ≡ running before services
