-- From one second to the second before, at a departure and between two of them.
use Rattle.std.proofs.Common.{◌≡◌, ℕ, ◌+◌, ◌%◌, ◌<◌, cond, Bool, true, false, List, length, replicate, refl, arith, Option, Some}
use Rattle.std.specs.Prelude.{slice_get, slice_index, slice_index_or, Contains, IsTrue}
use Rattle.move_model.specs.declared.network.StopNo.{StopNo}
use Rattle.move_model.specs.declared.journey.Shortcut.{Shortcut}
use Rattle.route_split.specs.declared.place.Place.{Place}
use Rattle.route_split.specs.Route.{Route, departures_of}
use Rattle.route_split.specs.Table.{Table}
use Rattle.range_lanes.specs.declared.level.Level.{Level}
use Rattle.range_lanes.specs.State.{IsClosed, IsBetween}
use Rattle.range_lanes.proofs.Rounding.{blank_mark}
use Rattle.range_lanes.proofs.Departing.{seeds_law}
use Rattle.range_search.specs.Search.{CatchesListed, IsRowCaught, HasOpened}

module _ (table : Table) (first last : List (Option ℕ)) (list : List Shortcut) (d : ℕ) (stops : List StopNo) (ds : List ℕ) (next : ℕ) (levels : List Level)
    (listed : CatchesListed table first d stops ds next) (closed : IsClosed table first last list (d + 1) levels) where
  row_caught : (r i m p : ℕ) (route : Route) (place : Place) → slice_get table.routes r ≡ Some route → slice_get route.places i ≡ Some place
      → IsTrue place.board → i + 1 < length route.places → p < length route.trips → slice_get first place.stop.0 ≡ Some (Some m)
      → slice_index (departures_of route i) p ≡ d + m + table.buffer → IsRowCaught table first d place.stop
  row_caught r i m p route place at_route at_place may more lt walk e = record {
    r = r;
    i = i;
    p = p;
    seconds = m;
    route = route;
    place = place;
    is_route = at_route;
    is_place = at_place;
    may_board = may;
    goes_on = more;
    is_row = lt;
    walk = walk;
    departs = e;
    stop_is = refl;
  }

  pub marked_between : (seeds : List Bool) → ((x : StopNo) → Contains stops x → slice_index_or seeds x.0 false ≡ true)
      → IsBetween table first last list d 0 seeds levels
  marked_between seeds marks =
      seeds_law table first last list d seeds levels
      (record {
        each = λ r i m p route place at_route at_place may more lt walk e.
            marks place.stop (listed.each place.stop (row_caught r i m p route place at_route at_place may more lt walk e)).0;
      }) closed

  -- no row is just caught
  pub quiet_closed : (slice_get ds next ≡ Some d → ⊥) → IsClosed table first last list d levels
  quiet_closed other =
      let between : IsBetween table first last list d 0 (replicate 0 false) levels =
      seeds_law table first last list d (replicate 0 false) levels
      (record {
        each = λ r i m p route place at_route at_place may more lt walk e.
            absurd (other (listed.each place.stop (row_caught r i m p route place at_route at_place may more lt walk e)).1);
      }) closed in
      record {
        each = λ j level is. record {
          followed = record {
            each = λ r i second route place at_route at_place boards.
                between.followed j r i second level route place is at_route at_place boards (λ e. blank_mark 0 place.stop.0);
          };
          walked = between.walked j level is;
          covers = between.covers j level is;
        };
      }

pub opened_one : (next lent lent' opens opens' : ℕ) (closes : Bool) → (closes ≡ true → next % 8 ≡ 0) → (closes ≡ false → 0 < next % 8)
    → opens' + (cond closes 0 lent) ≡ opens + lent' → HasOpened next (next + 1) lent lent' opens opens'
opened_one next lent lent' opens opens' closes whole part h = go closes refl h
  where
    go : (b : Bool) → closes ≡ b → opens' + (cond b 0 lent) ≡ opens + lent' → HasOpened next (next + 1) lent lent' opens opens'
    go true e h = HasOpened.group (whole e) refl (omega (arith, h))
    go false e h = HasOpened.goes_on (part e) refl h
