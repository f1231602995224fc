-- What a search keeps at a place from one second to an earlier one.
--     kept_of labels           the lists that are kept
--     Fits routes rows k       they are as long as there are routes, calls, stops and places
--     HasDue routes rows l     each row that departs from a stop at the second that is due there, or later, is held
--     IsNone routes rows k     nothing is held, and no stop and no place has a label
--     IsKept n q z p k         at the second z they are real, and all that was begun is done
--     IsDone n q z g p k       at the second z they are real, first rides were boarded at all stops that are walked to before the second g,
--                              and all that follows from what was boarded is done
use Rattle.std.specs.Prelude.{◌≡◌, ℕ, List, length, replicate}
use Rattle.move_model.specs.declared.network.Network.{Network}
use Rattle.move_model.specs.declared.network.NodeNo.{NodeNo}
use Rattle.route_split.specs.Route.{Route}
use Rattle.stop_rows.specs.Rows.{Rows}
use Rattle.piece_laws.specs.Tables.{never}
use Rattle.two_trip_rides.specs.Second.{no_ready, no_second}
use Rattle.two_trip_labels.specs.First.{RowsFit}
use Rattle.two_trip_labels.specs.Second.{HeldFit}
use Rattle.two_trip_labels.specs.Fresh.{AreNoFirst, AreNoHeld}
use Rattle.two_trip_labels.specs.Closed.{Parts, Kept, IsClosed}
use Rattle.two_trip_passes.specs.Stops.{AreDue}
use Rattle.two_trip_passes.specs.Step.{IsReal}
use Rattle.witness_prune.specs.declared.labels.Labels.{Labels}

abbrev pub kept_of : Labels → Kept
kept_of labels = record {
  first_rows = labels.first_rows;
  first = labels.first.items;
  walked = labels.walked.items;
  ready = labels.ready.items;
  boarded = labels.boarded.items;
  held = labels.held;
  best = labels.best.items;
}

pub record Fits (routes : List Route) (rows : Rows) (k : Kept) : Type 0 where
  pub first_rows : RowsFit routes k.first_rows
  pub first : length k.first ≡ length rows.places
  pub walked : length k.walked ≡ length rows.places
  pub ready : length k.ready ≡ length rows.nodes
  pub boarded : length k.boarded ≡ length rows.places
  pub held : HeldFit routes k.held
  pub best : length k.best ≡ length rows.places

pub record HasDue (routes : List Route) (rows : Rows) (labels : Labels) : Type 0 where
  pub as_many : length labels.due.items ≡ length rows.places
  pub due : AreDue routes labels.first_rows labels.due.items

pub record IsNone (routes : List Route) (rows : Rows) (k : Kept) : Type 0 where
  pub first_rows : AreNoFirst routes k.first_rows
  pub first : k.first ≡ replicate (length rows.places) never
  pub walked : k.walked ≡ replicate (length rows.places) never
  pub ready : k.ready ≡ replicate (length rows.nodes) no_ready
  pub boarded : k.boarded ≡ replicate (length rows.places) no_ready
  pub held : AreNoHeld routes k.held
  pub best : k.best ≡ replicate (length rows.places) no_second

pub record IsKept (n : Network) (q : NodeNo) (z : ℕ) (p : Parts) (k : Kept) : Type 0 where
  pub real : IsReal n q z p k
  pub closed : IsClosed n p z 0 0 k

pub record IsDone (n : Network) (q : NodeNo) (z g : ℕ) (p : Parts) (k : Kept) : Type 0 where
  pub real : IsReal n q z p k
  pub closed : (h : ℕ) → IsClosed n p z g h k
