-- The least labels at stops.
use Rattle.std.proofs.Common.{◌≡◌, ℕ, ◌+◌, ◌<◌, ◌≤◌, ◌⊎◌, inl, inr, List, [], ◌∷◌, length, refl, sym, ap, subst, ◌∙◌, arith, Option}
use Rattle.std.proofs.lemmas.Bool.{cases_lt, cases_eq}
use Rattle.std.proofs.lemmas.Option.{slice_get_past}
use Rattle.std.specs.Prelude.{slice_index}
use Rattle.move_model.specs.declared.network.Network.{Network}
use Rattle.move_model.specs.declared.network.NodeNo.{NodeNo}
use Rattle.move_model.specs.declared.network.StopNo.{StopNo}
use Rattle.move_model.specs.declared.network.Stop.{Stop}
use Rattle.move_model.specs.Streets.{IsVertex}
use Rattle.move_model.specs.Network.{IsNetwork, streets, node_of, node_of_stop, IsStopDistance}
use Rattle.move_model.specs.Shortcut.{IsLess, entry_of}
use Rattle.pareto_laws.proofs.Walks.{IsWalk-begins, IsWalk-ends}
use Rattle.pareto_laws.proofs.Distances.{distance_self, distance_same}
use Rattle.pareto_laws.proofs.Calls.{stop_eq}
use Rattle.pareto_laws.proofs.Exchange.{entry_of_same, entry_of_other}
use Rattle.piece_laws.specs.Pieces.{IsOnFoot, ready_entries}
use Rattle.piece_laws.specs.Tables.{IsWalkClosed, ReadyStands}
use Rattle.piece_laws.proofs.Entries.{not_less-trans}
use Rattle.piece_laws.proofs.Compose.{ready_stands, ready_first}
use Rattle.two_trip_labels.specs.Walks.{walked_label}
use Rattle.two_trip_labels.specs.Closed.{last_second, Parts, ArePartsOf, Kept, walked_at, boarded_at, own_label, place_label, place_of, IsClosed, IsSound}
use Rattle.two_trip_labels.proofs.FirstTable.{walked_on_foot, first_table}

-- a stop at a vertex of the streets exists
pub stop_exists : (n : Network) (x : StopNo) → IsVertex (streets n) (node_of n x) → x.0 < length n.stops
stop_exists n x is = elim (cases_lt x.0 (length n.stops)) [ inl l ↦ l | inr g ↦ absurd (omega (arith, is.from_one, none g)) ]
  where
    none : length n.stops ≤ x.0 → (node_of n x).0 ≡ 0
    none g = ap (λ (o : Option Stop). (node_of_stop o).0) (slice_get_past n.stops x.0 g)

module _ (n : Network) (q : NodeNo) (z g h : ℕ) (p : Parts) (k : Kept) (ok : IsNetwork n) (parts : ArePartsOf n q p) (low : h ≤ 1 + last_second)
    (closed : IsClosed n p z g h k) where
  pub walk_closed : IsWalkClosed n q z h (walked_at k) (boarded_at k)
  walk_closed x y w d soon =
      let x_at = IsWalk-begins (streets n) ok.streets_join d.attained.1 in
      let x_in = stop_exists n x x_at in
      let y_in = stop_exists n y (IsWalk-ends (streets n) ok.streets_join d.attained.1) in
      elim (cases_eq x.0 y.0) [
        | inl e ↦ inr (itself x y w (stop_eq x y e) d x_at x_in soon)
        | inr ne ↦ other x y w d x_in y_in soon (entry_of_other x y (λ e. ne (ap (λ (s : StopNo). s.0) e)))
      ]
    where
      -- left where the second ride is boarded
      itself : (x y : StopNo) (w : ℕ) → x ≡ y → IsStopDistance n x y w → IsVertex (streets n) (node_of n x) → x.0 < length n.stops → walked_at k x + w < h
          → ¬ (IsLess ((walked_at k x + w) ∷ walked_at k x ∷ entry_of x y ∷ []) (ready_entries (boarded_at k y)))
      itself x y w e d at within soon =
          let none : w ≡ 0 = distance_same d (subst (λ (s : StopNo). IsStopDistance n x s 0) e (distance_self (streets n) at)) in
          let c : entry_of x y ≡ 0 = ap (λ (s : StopNo). entry_of x s) (sym e) ∙ entry_of_same x in
          let early : slice_index k.first x.0 < h = omega (arith, closed.first_low x within) in
          let own = subst (λ (s : StopNo). ¬ (IsLess (ready_entries (own_label k x)) (ready_entries (boarded_at k s)))) e (closed.own_low x within early) in
          not_less-trans (ready_entries (boarded_at k y)) (ready_entries (own_label k x)) ((walked_at k x + w) ∷ walked_at k x ∷ entry_of x y ∷ []) refl own
          (not_before (slice_index k.first x.0) (walked_at k x) (walked_at k x + w) (entry_of x y) (closed.first_low x within) (omega arith) c)
        where
          not_before : (a b d c : ℕ) → a ≤ b → b ≤ d → c ≡ 0 → ¬ (IsLess (d ∷ b ∷ c ∷ []) (a ∷ a ∷ 0 ∷ []))
          not_before a b d c f g e (inl l) = omega arith
          not_before a b d c f g e (inr (l, inl m)) = omega arith
          not_before a b d c f g e (inr (l, inr (m, inl o))) = omega arith
          not_before a b d c f g e (inr (l, inr (m, inr o))) = absurd o.1

      other : (x y : StopNo) (w : ℕ) → IsStopDistance n x y w → x.0 < length n.stops → y.0 < length n.stops → walked_at k x + w < h → entry_of x y ≡ 1 + x.0
          → IsOnFoot n q z y (walked_at k x + w) ⊎ ¬ (IsLess ((walked_at k x + w) ∷ walked_at k x ∷ entry_of x y ∷ []) (ready_entries (boarded_at k y)))
      other x y w d x_in y_in soon c_is =
          let m : ℕ = slice_index (p.row (place_of p x)) (place_of p y) in
          let same : m ≡ w = (parts.between x y x_in y_in).enough w d (omega arith) in
          elim (closed.walks x y x_in y_in (omega (arith, same))) [
            | inl f ↦ inl (walked_on_foot n q z g h p k ok parts low closed y (walked_at k x + w) y_in soon (omega (arith, f, same, parts.by_place y y_in)))
            | inr l ↦
                let first : (place_label p k y).ready ≤ walked_at k x + m = ready_first (place_label p k y) (walked_label (p.row (place_of p x)) (walked_at k x) (1 + x.0) (place_of p y)) l in
                let down = closed.place_low y y_in (omega (arith, same)) in
                let less = not_less-trans (ready_entries (boarded_at k y)) (ready_entries (place_label p k y))
                (ready_entries (walked_label (p.row (place_of p x)) (walked_at k x) (1 + x.0) (place_of p y))) refl down l in
                inr (subst (λ (l : List ℕ). ¬ (IsLess l (ready_entries (boarded_at k y)))) (λ i. (walked_at k x + same i) ∷ walked_at k x ∷ sym c_is i ∷ []) less)
          ]

  pub ready_table : h ≤ g → IsSound n q z p k → ReadyStands n q z h (boarded_at k)
  ready_table far sound = ready_stands n ok q z h (walked_at k) (boarded_at k) (first_table n q z g h p k ok parts low closed far sound) sound.boarded walk_closed
