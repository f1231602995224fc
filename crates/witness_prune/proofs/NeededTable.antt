-- A step adds exactly the needed walks of its stops.
use Rattle.std.proofs.Common.{◌≡◌, ℕ, ◌+◌, ◌<◌, ◌≤◌, ◌⊎◌, inl, inr, List, [], length, map, refl, sym, ap, subst, ◌∙◌, arith, Some}
use Rattle.std.proofs.lemmas.List.Elements.{All-get_or}
use Rattle.std.proofs.lemmas.Option.{slice_get_within, get_or_from_slice_get, same_Some}
use Rattle.std.specs.Prelude.{◌↔◌, All, Contains, slice_get, slice_index}
use Rattle.move_model.specs.declared.network.Network.{Network}
use Rattle.move_model.specs.declared.network.NodeNo.{NodeNo}
use Rattle.move_model.specs.declared.network.StopNo.{StopNo}
use Rattle.move_model.specs.declared.network.TripNo.{TripNo}
use Rattle.move_model.specs.declared.network.Trip.{Trip}
use Rattle.move_model.specs.declared.network.Call.{Call}
use Rattle.move_model.specs.Network.{IsNetwork, node_of}
use Rattle.move_model.specs.Journey.{HasCall}
use Rattle.move_model.specs.Check.{Stays}
use Rattle.route_split.specs.Route.{Route, IsRoute}
use Rattle.route_split.specs.Calls.{HoldsTrips}
use Rattle.route_split.specs.Routes.{AreRoutes}
use Rattle.route_split.specs.Table.{Table}
use Rattle.stop_rows.specs.Rows.{Rows, entry, place_at}
use Rattle.piece_laws.specs.Pieces.{IsNeeded}
use Rattle.piece_laws.specs.Tables.{OwnStands}
use Rattle.two_trip_labels.specs.Closed.{last_second, ArePartsOf, Kept}
use Rattle.two_trip_passes.specs.Own.{own_at}
use Rattle.two_trip_passes.specs.Read.{IsFound, IsReadOf, IsReadUntil, HasRead}
use Rattle.two_trip_passes.specs.Step.{parts_of, AreRowsOf}
use Rattle.two_trip_passes.proofs.NeededTable.{read_needs, needed_reads}
use Rattle.witness_prune.specs.Needed.{Pair}
use Rattle.witness_prune.specs.Labels.{IsKept, IsDone}
use Rattle.witness_prune.specs.Scratch.{row_from, parts_at, IsFootFrom, AddsNeeded}
use Rattle.witness_prune.specs.Search.{AreParts}
use Rattle.witness_prune.proofs.PartsLemmas.{rows_are, parts_are}
use Rattle.witness_prune.proofs.RowLemmas.{parts_alike, closed_alike, real_alike, kept_alike}

-- what is added to no pair
pub none_before : (known old new : List Pair) (q : Pair) (P : Type 0) → old ≡ [] → IsFound known new q ↔ (IsFound known old q ⊎ P) → IsFound known new q ↔ (Contains known q ⊎ P)
none_before known old new q P none is = (there, back)
  where
    there : IsFound known new q → Contains known q ⊎ P
    there h = elim (is.0 h) [
      | inl (inl was) ↦ inl was
      | inl (inr old_one) ↦ let none_is : Contains [] q = subst (λ (ps : List Pair). Contains ps q) none old_one in absurd (omega (arith, none_is.1))
      | inr p ↦ inr p
    ]

    back : Contains known q ⊎ P → IsFound known new q
    back h = elim h [ inl was ↦ is.1 (inl (inl was)) | inr p ↦ is.1 (inr p) ]

-- the pairs that were found are added
pub pairs_added : (needed pairs needed' : List Pair) (q : Pair) (P : Type 0) → IsFound needed pairs q ↔ (Contains needed q ⊎ P)
    → Contains needed' q ↔ (Contains needed q ⊎ Contains pairs q) → Contains needed' q ↔ (Contains needed q ⊎ P)
pairs_added needed pairs needed' q P found all = (there, back)
  where
    there : Contains needed' q → Contains needed q ⊎ P
    there h = elim (all.0 h) [ inl old ↦ inl old | inr new ↦ found.0 (inr new) ]

    back : Contains needed q ⊎ P → Contains needed' q
    back h = all.1 (found.1 h)

module _ (n : Network) (rows : Rows) (table : Table) (parts : AreParts n rows table) where
  pub all_rows : AreRowsOf n rows
  all_rows = rows_are n rows parts.rows_are

  day : (trip : TripNo) (i : ℕ) (call : Call) → HasCall n trip i call → call.arr ≤ last_second
  day trip i call has =
      let t = has.0 in
      let trip_stays = subst (λ (o : Trip). All Stays o.calls) (get_or_from_slice_get n.trips trip.0 t t has.1)
      (All-get_or (λ (o : Trip). All Stays o.calls) n.trips trip.0 t (slice_get_within n.trips trip.0 t has.1) parts.rules.within_day) in
      let stays = subst Stays (get_or_from_slice_get t.calls i call call has.2) (All-get_or Stays t.calls i call (slice_get_within t.calls i call has.2) trip_stays) in
      omega (arith, stays.0, stays.1)

  -- a stop of the place stands at its vertex
  pub stands_at : (place : ℕ) (q : NodeNo) (u : StopNo) → slice_get rows.nodes place ≡ Some q → u.0 < length n.stops → place_at rows u ≡ place → node_of n u ≡ q
  stands_at place q u here within at =
      same_Some (node_of n u) q (sym (parts.rows_are.places.stands u within) ∙ ap (λ (p : ℕ). slice_get rows.nodes p) at ∙ here)

  module _ (routes : List Route) (same : routes ≡ table.routes) (whole : All (IsRoute (length n.stops)) routes)
      (q : NodeNo) (place : ℕ) (here : slice_get rows.nodes place ≡ Some q) (foot : List ℕ) (on_foot : IsFootFrom rows place foot) where
    pub place_parts : ArePartsOf n q (parts_at routes rows place foot)
    place_parts =
        parts_are n rows parts.rows_are q routes foot (row_from rows place) place here
        (subst (λ (rs : List Route). HoldsTrips n.trips rs) (sym same) parts.table_is.holds)
        (subst (λ (rs : List Route). AreRoutes n.trips (map (λ (r : Route). r.trips) rs)) (sym same) parts.routes_are) whole
        (λ x within. on_foot.each x.0 (omega (arith, within, all_rows.one_each))) (λ p within. refl)

    pub step_done : (lent row : List ℕ) (second before z : ℕ) (k k' : Kept) → lent ≡ foot → ((p : ℕ) → p < length rows.nodes → slice_index row p ≡ entry rows place p)
        → ((n : Network) (q : NodeNo) (z : ℕ) → IsNetwork n → n.buffer ≡ table.buffer → AreRowsOf n rows → ArePartsOf n q (parts_of routes lent row rows) → second ≤ z
        → IsKept n q z (parts_of routes lent row rows) k → IsDone n q second before (parts_of routes lent row rows) k')
        → second ≤ z → IsKept n q z (parts_at routes rows place foot) k → IsDone n q second before (parts_at routes rows place foot) k'
    step_done lent row second before z k k' e entries advance le kept =
        let goes = subst (λ (xs : List ℕ). (n : Network) (q : NodeNo) (z : ℕ) → IsNetwork n → n.buffer ≡ table.buffer → AreRowsOf n rows → ArePartsOf n q (parts_of routes xs row rows) → second ≤ z
        → IsKept n q z (parts_of routes xs row rows) k → IsDone n q second before (parts_of routes xs row rows) k') e advance in
        let back = λ (p : ℕ). λ (l : p < length rows.nodes). sym (entries p l) in
        let d = goes n q z parts.rules.network (sym parts.table_is.buffer_is) all_rows
        (parts_alike n q routes foot rows all_rows (row_from rows place) row entries place_parts) le
        (kept_alike n q routes foot rows all_rows (row_from rows place) row entries z k kept) in
        record {
          real = real_alike n q routes foot rows all_rows row (row_from rows place) back second k' d.real;
          closed = λ h. closed_alike n q routes foot rows all_rows row (row_from rows place) back second before h k' (d.closed h);
        }

    module _ (us : List StopNo) (z : ℕ) (own : List ℕ) (at : (u : StopNo) → Contains us u → node_of n u ≡ q) (owns : OwnStands n us z (own_at own)) where
      -- each needed walk is read off the labels, once the stops of the place were boarded
      reads : (g : ℕ) (k : Kept) → z < g → IsDone n q z g (parts_at routes rows place foot) k → (x y : StopNo) (d : IsNeeded n us z x y)
          → IsReadOf rows foot z own k.boarded k.best d.v d.piece.off2.arr x y
      reads g k near done x y d =
          needed_reads n us q z g routes foot (row_from rows place) rows own k parts.rules.network day place_parts all_rows at owns (done.closed (1 + last_second)) near done.real.sound x y d

      -- where all that the labels say is known, so is all that is needed
      pub none_added : (g : ℕ) (k : Kept) (needed : List Pair) → z < g → IsDone n q z g (parts_at routes rows place foot) k
          → ((v : StopNo) → v.0 < length rows.places → IsReadUntil rows foot z own k.boarded k.best needed v 0) → AddsNeeded n us z needed needed
      none_added g k needed near done until x y = (λ h. inl h, back)
        where
          back : Contains needed (x, y) ⊎ IsNeeded n us z x y → Contains needed (x, y)
          back (inl was) = was
          back (inr d) =
              let r = reads g k near done x y d in
              elim (until d.v r.exists (x, y) r.read) [ inl has ↦ has | inr l ↦ absurd (omega (arith, l)) ]

      -- the pairs of second rides that are left before a second are those that are needed, if that is no earlier than the second
      -- after the last one that is needed and isn't known
      pub step_adds : (g until before : ℕ) (k k' : Kept) (needed needed' : List Pair) → z < g → IsDone n q z g (parts_at routes rows place foot) k
          → ((v : StopNo) → v.0 < length rows.places → IsReadUntil rows foot z own k.boarded k.best needed v until) → until ≤ before → z < before
          → IsDone n q z before (parts_at routes rows place foot) k'
          → ((p : Pair) → Contains needed' p ↔ (Contains needed p ⊎ HasRead rows foot z before own k'.boarded k'.best (length rows.places) p.0 p.1))
          → AddsNeeded n us z needed needed'
      step_adds g until before k k' needed needed' near done sought le near' done' all x y = (there, back)
        where
          there : Contains needed' (x, y) → Contains needed (x, y) ⊎ IsNeeded n us z x y
          there h = elim ((all (x, y)).0 h) [
            | inl old ↦ inl old
            | inr r ↦ inr (read_needs n us q z before routes foot (row_from rows place) rows own k' parts.rules.network day place_parts all_rows at owns (done'.closed (1 + last_second)) done'.real.sound x y r)
          ]

          back : Contains needed (x, y) ⊎ IsNeeded n us z x y → Contains needed' (x, y)
          back (inl old) = (all (x, y)).1 (inl old)
          back (inr d) =
              let r = reads g k near done x y d in
              let r' = reads before k' near' done' x y d in
              (all (x, y)).1 (elim (sought d.v r.exists (x, y) r.read) [
                | inl old ↦ inl old
                | inr l ↦ inr (record { stop = d.v; exists = r'.exists; read = record { early = omega (arith, l, le, r.left_by, r'.left_by); read = r'.read } })
              ])
