-- What the passes leave at an earlier second.
use Rattle.std.proofs.Common.{◌≡◌, ℕ, ◌+◌, ◌<◌, ◌≤◌, List, length, refl, sym, subst, ◌∙◌, arith}
use Rattle.std.specs.Prelude.{slice_index}
use Rattle.move_model.specs.declared.network.Network.{Network}
use Rattle.move_model.specs.declared.network.NodeNo.{NodeNo}
use Rattle.move_model.specs.declared.network.StopNo.{StopNo}
use Rattle.move_model.specs.Network.{IsNetwork}
use Rattle.route_split.specs.Route.{Route}
use Rattle.stop_rows.specs.Rows.{Rows}
use Rattle.piece_laws.specs.declared.labels.Ready.{Ready}
use Rattle.piece_laws.specs.declared.labels.Second.{Second}
use Rattle.piece_laws.specs.declared.labels.Held.{Held}
use Rattle.two_trip_rides.specs.First.{Source}
use Rattle.two_trip_rides.specs.Second.{ready_at}
use Rattle.two_trip_labels.specs.First.{AreRoutesOf, FirstGoes, FirstSound}
use Rattle.two_trip_labels.specs.Second.{SecondSound}
use Rattle.two_trip_labels.specs.Closed.{ArePartsOf, Kept, IsClosed}
use Rattle.two_trip_labels.proofs.Lasting.{closed_earlier}
use Rattle.two_trip_passes.specs.Stops.{IsStopBoarded, IsFootOf}
use Rattle.two_trip_passes.specs.Walks.{WalkGoes, last_walked}
use Rattle.two_trip_passes.specs.Rides.{RideGoes, IsBoardedLow, AreReal}
use Rattle.two_trip_passes.specs.Step.{parts_of, source_of, AreRowsOf, with_walks, with_rides, IsReal}
use Rattle.two_trip_passes.proofs.StepLemmas.{closed_again, walked_real, labels_real, ridden_real, real_earlier}

-- the three passes of a step
pub record Passes (routes : List Route) (foot foot_row : List ℕ) (rows : Rows) (buffer second before : ℕ) (k : Kept)
    (first_rows : List (List ℕ)) (first walked : List ℕ) (ready boarded : List Ready) (held : List (List Held)) (best : List Second) : Type 0 where
  pub boards : FirstGoes routes foot second k.first_rows first_rows k.first first
  pub caught : (x : ℕ) → x < length k.first → second + slice_index foot x < before → IsStopBoarded routes (second + slice_index foot x + buffer) first_rows x
  pub boards_sound : (s : Source) → s.second ≡ second → s.network.buffer ≡ buffer → AreRoutesOf s.network.trips routes → IsFootOf s foot
      → FirstSound s routes k.first_rows k.first → FirstSound s routes first_rows first
  pub walks : WalkGoes rows foot_row second first k.walked walked k.ready ready
  pub walked_low : (x : ℕ) → x < length first → last_walked walked x ≤ slice_index first x
  pub rides : RideGoes routes foot second rows.places buffer first ready k.boarded boarded k.held held k.best best
  pub rides_low : (y : StopNo) → y.0 < length k.best → IsBoardedLow rows.places first ready (ready_at boarded y.0) y
  pub rides_sound : (s : Source) → s.network.buffer ≡ buffer → AreRoutesOf s.network.trips routes → AreReal s rows.places first ready
      → SecondSound s routes k.held k.best → SecondSound s routes held best

module _ (n : Network) (q : NodeNo) (z second before : ℕ) (routes : List Route) (foot foot_row : List ℕ) (rows : Rows) (buffer : ℕ) (k : Kept)
    (first_rows : List (List ℕ)) (first walked : List ℕ) (ready boarded : List Ready) (held : List (List Held)) (best : List Second)
    (same : n.buffer ≡ buffer) (are : AreRowsOf n rows) (parts : ArePartsOf n q (parts_of routes foot foot_row rows)) (le : second ≤ z)
    (many : length k.first ≡ length rows.places) (keys : length k.best ≡ length rows.places) (wide : length foot ≡ length rows.places)
    (passes : Passes routes foot foot_row rows buffer second before k first_rows first walked ready boarded held best) where
  stops : length first ≡ length n.stops
  stops = passes.boards.first_falls.as_many ∙ many ∙ are.one_each

  pub advance_closed : (h : ℕ) → IsClosed n (parts_of routes foot foot_row rows) z 0 0 k
      → IsClosed n (parts_of routes foot foot_row rows) second before h (with_rides (with_walks k first_rows first walked ready) boarded held best)
  advance_closed h c =
      closed_again n q second routes foot foot_row rows before h k first_rows first walked ready boarded held best parts are stops passes.boards
      (λ x within near. subst (λ (b : ℕ). IsStopBoarded routes (second + slice_index foot x + b) first_rows x) (sym same) (passes.caught x (omega (arith, within, many, are.one_each)) near))
      passes.walks passes.walked_low
      (subst (λ (b : ℕ). RideGoes routes foot second rows.places b first ready k.boarded boarded k.held held k.best best) (sym same) passes.rides)
      (λ y within. passes.rides_low y (omega (arith, within, keys, are.one_each)))
      (closed_earlier n z second 0 0 (parts_of routes foot foot_row rows) k le c)

  pub advance_real : IsNetwork n → IsReal n q z (parts_of routes foot foot_row rows) k
      → IsReal n q second (parts_of routes foot foot_row rows) (with_rides (with_walks k first_rows first walked ready) boarded held best)
  advance_real ok real =
      let s = source_of n q second in
      let routes_of : AreRoutesOf n.trips routes = record { each = parts.trips.rows_are } in
      let on_foot : IsFootOf s foot = record { each = λ x within low. (parts.on_foot x (omega (arith, within, wide, are.one_each))).real low } in
      let was = real_earlier n q z second routes foot foot_row rows k le real in
      let walked_k = with_walks k first_rows first walked ready in
      let real' = walked_real n q second routes foot foot_row rows k first_rows first walked ready parts stops passes.boards
      (passes.boards_sound s refl same routes_of on_foot was.first) passes.walks was in
      let labels = labels_real n q second routes foot foot_row rows walked_k ok stops real' in
      ridden_real n q second routes foot foot_row rows walked_k boarded held best labels
      (subst (λ (b : ℕ). RideGoes routes foot second rows.places b first ready k.boarded boarded k.held held k.best best) (sym same) passes.rides)
      (passes.rides_sound s same routes_of labels real'.second) real'
