-- The two calendar files, of which one may be missing.
--     services_of calendar dates        the services of both files, those of calendar.txt first
--     ServicesAccepted calendar dates   one of the files is there, and none breaks a rule
--     IsServicesRefusal calendar dates file row cause     the first rule that is broken
use Rattle.std.specs.Prelude.{◌≡◌, ℕ, ◌⊎◌, List, [], Option, Some, None, IfSome}
use Rattle.std.specs.Borrow.{Bor}
use Rattle.move_model.specs.declared.refusal.Cause.{Cause}
use Rattle.move_model.specs.declared.refusal.Cause.TheVariants as cause
use Rattle.move_model.specs.declared.refusal.FileKind.{FileKind}
use Rattle.move_model.specs.declared.refusal.FileKind.TheVariants as file_kind
use Rattle.gtfs_feed.specs.declared.feed.Service.{Service}
use Rattle.gtfs_feed.specs.Calendar.{week_services, CalendarAccepted, IsCalendarRefusal}
use Rattle.gtfs_feed.specs.Dates.{dated_services, DatesAccepted, IsDatesRefusal}

abbrev pub weeks_of : Option (Bor (List ℕ)) → List Service
weeks_of None = []
weeks_of (Some calendar) = week_services calendar.now

abbrev pub dated_of : Option (Bor (List ℕ)) → List Service → List Service
dated_of None services = services
dated_of (Some dates) services = dated_services dates.now services

abbrev pub services_of : Option (Bor (List ℕ)) → Option (Bor (List ℕ)) → List Service
services_of calendar dates = dated_of dates (weeks_of calendar)

-- a file that may be missing breaks no rule
abbrev pub OptionAccepted : Option (Bor (List ℕ)) → (List ℕ → Type 0) → Type 0
OptionAccepted file P = IfSome file (λ bytes. P bytes.now)

-- a file is there, and is refused
abbrev pub OptionRefused : Option (Bor (List ℕ)) → (List ℕ → Type 0) → Type 0
OptionRefused None P = ⊥
OptionRefused (Some bytes) P = P bytes.now

-- one of the files is there
abbrev pub IsOneThere : Option (Bor (List ℕ)) → Option (Bor (List ℕ)) → Type 0
IsOneThere (Some calendar) dates = Unit {0}
IsOneThere None (Some dates) = Unit {0}
IsOneThere None None = ⊥

pub record ServicesAccepted (calendar dates : Option (Bor (List ℕ))) : Type 0 where
  pub one : IsOneThere calendar dates
  pub weeks : OptionAccepted calendar CalendarAccepted
  pub exceptions : OptionAccepted dates DatesAccepted

-- both files are missing; or a rule of the one; or, where it breaks none, of the other
abbrev pub IsServicesRefusal : Option (Bor (List ℕ)) → Option (Bor (List ℕ)) → FileKind → ℕ → Cause → Type 0
IsServicesRefusal calendar dates file row because =
    ((calendar ≡ None) × (dates ≡ None) × (file ≡ file_kind.Calendar) × (row ≡ 0) × (because ≡ cause.NoCalendar))
    ⊎ ((file ≡ file_kind.Calendar) × OptionRefused calendar (λ bytes. IsCalendarRefusal bytes row because))
    ⊎ ((file ≡ file_kind.CalendarDates) × OptionAccepted calendar CalendarAccepted × OptionRefused dates (λ bytes. IsDatesRefusal bytes row because))
