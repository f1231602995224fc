-- Which routes are open.
--     HoldsRoute table rows r      the rows of the r-th route are held
--     IsLentBy table rows           the rows of each marked route are held
--     lent_count rows                 how many routes are open
use Rattle.std.specs.Prelude.{◌≡◌, ℕ, true, length, slice_get, Some, vec_len, count_by}
use Rattle.route_split.specs.Route.{Route}
use Rattle.route_split.specs.Table.{Table}
use Rattle.range_lanes.specs.declared.lent.LentRows.{LentRows}

pub record HoldsRoute (table : Table) (lent : LentRows) (r : ℕ) : Type 0 where
  pub route : Route
  pub is_route : slice_get table.routes r ≡ Some route
  pub held : slice_get lent.rows.items r ≡ Some (Some route)

pub record IsLentBy (table : Table) (lent : LentRows) : Type 0 where
  pub one_each : vec_len lent.rows ≡ length table.routes
  pub marks : length lent.marks ≡ length table.routes
  pub held : (r : ℕ) → slice_get lent.marks r ≡ Some true → HoldsRoute table lent r

abbrev pub lent_count : LentRows → ℕ
lent_count lent = count_by (λ mark. mark) lent.marks
