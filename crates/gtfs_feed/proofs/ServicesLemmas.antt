-- What the readers of the two calendar files say of both.
use Rattle.std.proofs.Common.{◌≡◌, ◌∙◌, ℕ, List, sym, ap}
use Rattle.std.specs.Prelude.{Result, Ok, Err, IfOk}
use Rattle.move_model.specs.declared.refusal.Stopped.{Stopped}
use Rattle.gtfs_feed.specs.declared.services.ServiceTable.{ServiceTable}
use Rattle.gtfs_feed.specs.Calendar.{calendar_ids, week_services}
use Rattle.gtfs_feed.specs.Dates.{names_in}
use Rattle.gtfs_feed.proofs.DatesTable.{weeks-named}

-- the table of calendar.txt has the names of its services
pub named : (bytes : List ℕ) (r : Result ServiceTable Stopped) → IfOk r (λ table. table.names ≡ calendar_ids bytes) → IfOk r (λ table. table.services.items ≡ week_services bytes)
    → IfOk r (λ table. table.names ≡ names_in table.services.items)
named bytes (Ok table) names services = names ∙ weeks-named bytes ∙ ap names_in (sym services)
named bytes (Err stop) names services = tt
