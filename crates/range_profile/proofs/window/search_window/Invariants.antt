use Rattle.std.proofs.Common.{◌≡◌, ◌+◌, ◌-◌, ◌*◌, ◌/◌, ◌≤◌, length, reverse}
use Rattle.std.specs.Prelude.{All}
use Rattle.move_model.specs.declared.network.Network.{Network}
use Rattle.route_split.specs.Calls.{IsTableOf}
use Rattle.range_spans.specs.Open.{Stands, BeginLater}
use Rattle.range_lanes.specs.Levels.{Fits}
use Rattle.range_lanes.specs.Lent.{IsLentBy, lent_count}
use Rattle.range_search.specs.Leads.{Right}
use Rattle.range_profile.specs.Window.{SeedsWindow, asked}
use Rattle.range_profile.proofs.WindowLemmas.{IsNext}
use Rattle.range_profile.proofs.window.search_window.Given as goal

abbrev pub invariant-loop-i : goal.invariant-loop-i
invariant-loop-i g l = record {
  next : IsNext l.departures (l.last - l.i) l.next;
  right : (n : Network) → IsTableOf n l.table → SeedsWindow l.table l.first_row l.first l.last l.seeds l.departures
      → Right (asked n l.first_row l.last_row l.list l.foot (length l.fn.levels)) l.table (l.last - l.i) l.levels;
  stands : (n : Network) → IsTableOf n l.table → SeedsWindow l.table l.first_row l.first l.last l.seeds l.departures
      → Stands (asked n l.first_row l.last_row l.list l.foot (length l.fn.levels)) (l.last - l.i) l.last l.pending (reverse l.closed.items);
  later : BeginLater (l.last - l.i) (reverse l.closed.items);
  fits : All (Fits (length l.last_row)) l.levels;
  many : length l.levels ≡ length l.fn.levels;
  held : IsLentBy l.table l.held;
  better : length l.better ≡ length l.last_row;
  fresh : length l.fresh ≡ length l.last_row;
  leads : length l.leads ≡ length l.fn.levels;
  pending : length l.pending ≡ length l.fn.levels;
  counted : l.opens ≤ l.fn.opens + length l.table.routes * ((l.next - 1) / 8) + lent_count l.held;
}
