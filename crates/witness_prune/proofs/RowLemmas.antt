-- The seconds from a place, lent as a slice, are those of its row.
use Rattle.std.proofs.Common.{◌≡◌, ℕ, ◌<◌, inl, inr, List, length, sym, subst, arith}
use Rattle.std.specs.Prelude.{slice_index}
use Rattle.move_model.specs.declared.network.Network.{Network}
use Rattle.move_model.specs.declared.network.NodeNo.{NodeNo}
use Rattle.route_split.specs.Route.{Route}
use Rattle.stop_rows.specs.Rows.{Rows, place_at}
use Rattle.two_trip_labels.specs.Closed.{ArePartsOf, Kept, IsClosed}
use Rattle.two_trip_passes.specs.Step.{parts_of, AreRowsOf, IsReal}
use Rattle.witness_prune.specs.Labels.{IsKept}

module _ (n : Network) (q : NodeNo) (routes : List Route) (foot : List ℕ) (rows : Rows) (at : AreRowsOf n rows) (row row' : List ℕ)
    (same : (p : ℕ) → p < length rows.nodes → slice_index row' p ≡ slice_index row p) where
  pub parts_alike : ArePartsOf n q (parts_of routes foot row rows) → ArePartsOf n q (parts_of routes foot row' rows)
  parts_alike parts = record {
    trips = parts.trips;
    rising = parts.rising;
    whole = parts.whole;
    on_foot = parts.on_foot;
    between = parts.between;
    by_place = λ x within. subst (λ (m : ℕ). m ≡ slice_index foot x.0) (sym (same (place_at rows x) (at.within x within))) (parts.by_place x within);
  }

  pub closed_alike : (z g h : ℕ) (k : Kept) → IsClosed n (parts_of routes foot row rows) z g h k → IsClosed n (parts_of routes foot row' rows) z g h k
  closed_alike z g h k c = record {
    rows = c.rows;
    caught = c.caught;
    first_low = c.first_low;
    walked_low = c.walked_low;
    walks = λ x y x_in y_in soon. elim (c.walks x y x_in y_in soon) [
      | inl f ↦ inl (omega (arith, f, same (place_at rows y) (at.within y y_in)))
      | inr l ↦ inr l
    ];
    own_low = c.own_low;
    place_low = c.place_low;
    ridden = c.ridden;
    held_rows = c.held_rows;
  }

  pub real_alike : (z : ℕ) (k : Kept) → IsReal n q z (parts_of routes foot row rows) k → IsReal n q z (parts_of routes foot row' rows) k
  real_alike z k real = record {
    sound = record {
      walked = real.sound.walked;
      ready = real.sound.ready;
      ready_from = real.sound.ready_from;
      boarded = real.sound.boarded;
      best = real.sound.best;
    };
    first = real.first;
    second = real.second;
  }

  pub kept_alike : (z : ℕ) (k : Kept) → IsKept n q z (parts_of routes foot row rows) k → IsKept n q z (parts_of routes foot row' rows) k
  kept_alike z k kept = record { real = real_alike z k kept.real; closed = closed_alike z 0 0 k kept.closed }
