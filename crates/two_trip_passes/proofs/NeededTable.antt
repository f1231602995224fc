-- The pairs read off the labels are the needed walks.
use Rattle.std.proofs.Common.{◌≡◌, ℕ, ◌+◌, ◌<◌, ◌≤◌, List, length, subst, arith}
use Rattle.std.specs.Prelude.{Contains}
use Rattle.move_model.specs.declared.network.Network.{Network}
use Rattle.move_model.specs.declared.network.NodeNo.{NodeNo}
use Rattle.move_model.specs.declared.network.StopNo.{StopNo}
use Rattle.move_model.specs.declared.network.TripNo.{TripNo}
use Rattle.move_model.specs.declared.network.Call.{Call}
use Rattle.move_model.specs.Network.{IsNetwork, streets, node_of}
use Rattle.move_model.specs.Journey.{HasCall}
use Rattle.pareto_laws.proofs.Walks.{IsWalk-ends}
use Rattle.route_split.specs.Route.{Route}
use Rattle.stop_rows.specs.Rows.{Rows}
use Rattle.piece_laws.specs.Pieces.{IsNeeded}
use Rattle.piece_laws.specs.Tables.{ReadyStands, SecondStands, OwnStands, OwnFirstStands, IsWalkClosed, IsRideClosed}
use Rattle.piece_laws.proofs.Read.{read_needed, needed_read}
use Rattle.two_trip_labels.specs.Closed.{last_second, ArePartsOf, Kept, walked_at, boarded_at, best_at, IsClosed, IsSound}
use Rattle.two_trip_labels.proofs.ReadyTable.{stop_exists, walk_closed, ready_table}
use Rattle.two_trip_labels.proofs.SecondTable.{ride_closed, second_table}
use Rattle.two_trip_labels.proofs.OwnTable.{own_first_table}
use Rattle.two_trip_labels.proofs.Lasting.{closed_sooner}
use Rattle.two_trip_passes.specs.Own.{own_at}
use Rattle.two_trip_passes.specs.Read.{arrival, IsReadAt, IsReadOf, HasRead}
use Rattle.two_trip_passes.specs.Step.{parts_of, AreRowsOf}
use Rattle.two_trip_passes.proofs.ReadLemmas.{read_at, read_from}

module _ (n : Network) (us : List StopNo) (q : NodeNo) (z g : ℕ) (routes : List Route) (foot foot_row : List ℕ) (rows : Rows) (own : List ℕ) (k : Kept) (ok : IsNetwork n)
    (day : (trip : TripNo) (i : ℕ) (call : Call) → HasCall n trip i call → call.arr ≤ last_second)
    (parts : ArePartsOf n q (parts_of routes foot foot_row rows)) (are : AreRowsOf n rows) (at : (u : StopNo) → Contains us u → node_of n u ≡ q) (owns : OwnStands n us z (own_at own))
    (closed : IsClosed n (parts_of routes foot foot_row rows) z g (1 + last_second) k) where
  -- up to the second ride's arrival
  pub read_needs : IsSound n q z (parts_of routes foot foot_row rows) k → (x y : StopNo) → HasRead rows foot z g own k.boarded k.best (length rows.places) x y → IsNeeded n us z x y
  read_needs sound x y r =
      let p = parts_of routes foot foot_row rows in
      let a : ℕ = arrival k.best r.stop in
      let low : 1 + a ≤ 1 + last_second = omega (arith, r.read.read.within) in
      let far : 1 + a ≤ g = omega (arith, r.read.early) in
      let sooner = closed_sooner n z g (1 + last_second) (1 + a) p k low closed in
      let readies : ReadyStands n q z (1 + a) (boarded_at k) = ready_table n q z g (1 + a) p k ok parts low sooner far sound in
      let seconds : SecondStands n q z (1 + a) (best_at k) = second_table n q z g (1 + a) p k ok parts low sooner sound far in
      read_needed n us q z (1 + a) (own_at own) (boarded_at k) (best_at k) ok (omega (arith, low)) at owns readies seconds r.stop x y
      (read_from n q z routes foot foot_row rows own k.boarded k.best ok parts are (1 + a) r.stop x y (omega (arith, r.exists, are.one_each)) (omega arith) r.read.read)

  pub needed_reads : z < g → IsSound n q z (parts_of routes foot foot_row rows) k → (x y : StopNo) (d : IsNeeded n us z x y)
      → IsReadOf rows foot z own k.boarded k.best d.v d.piece.off2.arr x y
  needed_reads near sound x y d =
      let p = parts_of routes foot foot_row rows in
      let h : ℕ = 1 + last_second in
      let piece = d.candidate.is_piece in
      let v_in = stop_exists n d.v (IsWalk-ends (streets n) ok.streets_join piece.to_end.attained.1) in
      let early = day d.piece.second.trip d.piece.second.alight d.piece.off2 piece.second_ride.leaves in
      let firsts : OwnFirstStands n us q z h (walked_at k) = own_first_table n us q z g h p k ok parts at (omega arith) near closed sound in
      let walks : IsWalkClosed n q z h (walked_at k) (boarded_at k) = walk_closed n q z g h p k ok parts (omega arith) closed in
      let rides : IsRideClosed n q z h (boarded_at k) (best_at k) = ride_closed n q z g h p k ok parts (omega arith) closed sound in
      let r =
      needed_read n us q z h (own_at own) (walked_at k) (boarded_at k) (best_at k) ok (omega arith) at owns firsts sound.boarded walks sound.best rides
      d.u d.v d.piece d.leaves d.candidate d.needed (omega (arith, early)) in
      record {
        exists = omega (arith, v_in, are.one_each);
        read = subst (λ (s : StopNo). IsReadAt rows foot z own k.boarded k.best d.v s y) d.from_is
            (subst (λ (s : StopNo). IsReadAt rows foot z own k.boarded k.best d.v d.piece.off1.stop s) d.to_is
            (read_at n q z routes foot foot_row rows own k.boarded k.best ok parts are h d.v d.piece.off1.stop d.piece.on2.stop v_in (omega arith) r.0));
        left_by = r.1;
      }
