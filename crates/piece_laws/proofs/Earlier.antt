-- What is true from a later second is true from an earlier one.
use Rattle.std.proofs.Common.{ℕ, ◌≤◌, arith}
use Rattle.move_model.specs.declared.network.Network.{Network}
use Rattle.move_model.specs.declared.network.StopNo.{StopNo}
use Rattle.move_model.specs.declared.network.NodeNo.{NodeNo}
use Rattle.piece_laws.specs.declared.labels.Ready.{Ready}
use Rattle.piece_laws.specs.declared.labels.Second.{Second}
use Rattle.piece_laws.specs.Pieces.{HasFirst, HasReady, HasSecond, IsOnFoot}

module _ (n : Network) (q : NodeNo) (z z' : ℕ) (earlier : z' ≤ z) where
  pub first_earlier : (x : StopNo) (a : ℕ) → HasFirst n q z x a → HasFirst n q z' x a
  first_earlier x a f =
      record { ride = f.ride; on = f.on; off = f.off; is_ride = f.is_ride; walk = f.walk; to_it = f.to_it; in_time = omega (arith, f.in_time); left_at = f.left_at; left_by = f.left_by }

  pub ready_earlier : (y : StopNo) (l : Ready) → HasReady n q z y l → HasReady n q z' y l
  ready_earlier y l r =
      record { from = r.from; first = first_earlier r.from l.a1 r.first; walk = r.walk; between = r.between; ready_is = r.ready_is; c_is = r.c_is }

  pub second_earlier : (v : StopNo) (k : Second) → HasSecond n q z v k → HasSecond n q z' v k
  second_earlier v k s =
      record {
        ride = s.ride;
        on = s.on;
        off = s.off;
        is_ride = s.is_ride;
        boards = ready_earlier s.on.stop k.label s.boards;
        in_time = s.in_time;
        left_at = s.left_at;
        a2_is = s.a2_is;
        trip_is = s.trip_is;
        y_is = s.y_is;
      }

  pub foot_earlier : (y : StopNo) (a : ℕ) → IsOnFoot n q z y a → IsOnFoot n q z' y a
  foot_earlier y a f = record { seconds = f.seconds; foot = f.foot; no_later = omega (arith, f.no_later) }
