-- What is kept from one second of a vertex to an earlier one.
--     parts_of routes foot foot_row rows   the parts that a search reads
--     source_of n q z                      the passenger sets out from the vertex q at second z
--     AreRowsOf n rows                     a place for each stop
--     with_walks k .., with_rides k ..     what is kept once walks were made, and once second rides were boarded
--     IsReal n q z p k                     what is kept is real
use Rattle.std.specs.Prelude.{◌≡◌, ℕ, ◌<◌, List, [], length, slice_index_or}
use Rattle.move_model.specs.declared.network.Network.{Network}
use Rattle.move_model.specs.declared.network.NodeNo.{NodeNo}
use Rattle.move_model.specs.declared.network.StopNo.{StopNo}
use Rattle.route_split.specs.Route.{Route}
use Rattle.stop_rows.specs.Rows.{Rows, place_at}
use Rattle.piece_laws.specs.declared.labels.Ready.{Ready}
use Rattle.piece_laws.specs.declared.labels.Second.{Second}
use Rattle.piece_laws.specs.declared.labels.Held.{Held}
use Rattle.two_trip_rides.specs.First.{Source}
use Rattle.two_trip_labels.specs.First.{FirstSound}
use Rattle.two_trip_labels.specs.Second.{SecondSound}
use Rattle.two_trip_labels.specs.Closed.{Parts, Kept, IsSound}

abbrev pub parts_of : List Route → List ℕ → List ℕ → Rows → Parts
parts_of routes foot foot_row rows =
    record { routes = routes; foot = foot; foot_row = foot_row; places = rows.places; row = λ q. slice_index_or rows.seconds q [] }

abbrev pub source_of : Network → NodeNo → ℕ → Source
source_of n q z = record { network = n; node = q; second = z }

pub record AreRowsOf (n : Network) (rows : Rows) : Type 0 where
  pub one_each : length rows.places ≡ length n.stops
  pub within : (x : StopNo) → x.0 < length n.stops → place_at rows x < length rows.nodes

abbrev pub with_walks : Kept → List (List ℕ) → List ℕ → List ℕ → List Ready → Kept
with_walks k first_rows first walked ready =
    record { first_rows = first_rows; first = first; walked = walked; ready = ready; boarded = k.boarded; held = k.held; best = k.best }

abbrev pub with_rides : Kept → List Ready → List (List Held) → List Second → Kept
with_rides k boarded held best =
    record { first_rows = k.first_rows; first = k.first; walked = k.walked; ready = k.ready; boarded = boarded; held = held; best = best }

pub record IsReal (n : Network) (q : NodeNo) (z : ℕ) (p : Parts) (k : Kept) : Type 0 where
  pub sound : IsSound n q z p k
  pub first : FirstSound (source_of n q z) p.routes k.first_rows k.first
  pub second : SecondSound (source_of n q z) p.routes k.held k.best
