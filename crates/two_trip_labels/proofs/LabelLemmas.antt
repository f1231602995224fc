-- The label with which a stop is boarded.
use Rattle.std.proofs.Common.{◌≡◌, ℕ, ◌-◌, ◌<◌, ◌≤◌, inl, inr, [], ◌∷◌, length, sym, ap, subst, ◌∙◌, arith}
use Rattle.std.specs.Prelude.{slice_index}
use Rattle.move_model.specs.declared.network.Network.{Network}
use Rattle.move_model.specs.declared.network.NodeNo.{NodeNo}
use Rattle.move_model.specs.declared.network.StopNo.{StopNo}
use Rattle.move_model.specs.Streets.{IsVertex}
use Rattle.move_model.specs.Network.{IsNetwork, streets, node_of}
use Rattle.move_model.specs.Shortcut.{IsLess}
use Rattle.pareto_laws.proofs.Distances.{distance_self}
use Rattle.pareto_laws.proofs.Exchange.{entry_of_same, entry_of_other}
use Rattle.piece_laws.specs.declared.labels.Ready.{Ready}
use Rattle.piece_laws.specs.Pieces.{HasFirst, HasReady, ready_entries}
use Rattle.piece_laws.specs.Tables.{never}
use Rattle.piece_laws.proofs.Rides.{call_vertex}
use Rattle.two_trip_labels.specs.Closed.{Parts, Kept, own_of, place_label, IsLabel, IsSound}

-- a label that is less than one of the second f has an earlier second
less_is_earlier : (r a c f : ℕ) → a ≤ r → f ≤ a → ¬ (IsLess (r ∷ a ∷ c ∷ []) (f ∷ f ∷ 0 ∷ []))
less_is_earlier r a c f g h (inl l) = omega arith
less_is_earlier r a c f g h (inr (e, inl l)) = omega arith
less_is_earlier r a c f g h (inr (e, inr (i, inl l))) = omega arith
less_is_earlier r a c f g h (inr (e, inr (i, inr l))) = absurd l.1

pub label_real : (n : Network) (q : NodeNo) (z : ℕ) (p : Parts) (k : Kept) (y : StopNo) (l : Ready) → IsNetwork n → IsSound n q z p k → y.0 < length n.stops
    → (slice_index k.first y.0 < never → HasFirst n q z y (slice_index k.first y.0))
    → IsLabel k.first (place_label p k y) y l → l.ready < never → HasReady n q z y l
label_real n q z p k y l ok sound within first is some = elim is.one [
  | inl e ↦ subst (λ (m : Ready). HasReady n q z y m) (sym e) (own (first (omega (arith, some, ap (λ (m : Ready). m.ready) e))))
  | inr e ↦ subst (λ (m : Ready). HasReady n q z y m) (sym e.0) (there e.1 (omega (arith, some, ap (λ (m : Ready). m.ready) e.0)))
]
  where
    own : HasFirst n q z y (slice_index k.first y.0) → HasReady n q z y (own_of k.first y)
    own f =
        let at = call_vertex n ok f.ride.trip f.ride.alight f.off f.is_ride.leaves in
        record {
          from = y;
          first = f;
          walk = 0;
          between = distance_self (streets n) (subst (λ (x : StopNo). IsVertex (streets n) (node_of n x)) f.left_at at);
          ready_is = omega arith;
          c_is = sym (entry_of_same y);
        }

    there : IsLess (ready_entries (place_label p k y)) (ready_entries (own_of k.first y)) → (place_label p k y).ready < never → HasReady n q z y (place_label p k y)
    there less early =
        let r = sound.ready y within early in
        let m = place_label p k y in
        let at : m.c - 1 ≡ r.from.0 = omega (arith, r.c_is) in
        let low : slice_index k.first r.from.0 ≤ m.a1 = subst (λ (x : ℕ). slice_index k.first x ≤ m.a1) at (sound.ready_from y within early) in
        let other : r.from ≡ y → ⊥ = λ e.
        less_is_earlier m.ready m.a1 m.c (slice_index k.first y.0) (omega (arith, r.ready_is)) (subst (λ (x : StopNo). slice_index k.first x.0 ≤ m.a1) e low) less in
        record {
          from = r.from;
          first = r.first;
          walk = r.walk;
          between = r.between;
          ready_is = r.ready_is;
          c_is = r.c_is ∙ sym (entry_of_other r.from y other);
        }
