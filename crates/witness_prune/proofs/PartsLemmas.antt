-- What a search reads are the parts of the network.
use Rattle.std.proofs.Common.{◌≡◌, ℕ, ◌<◌, List, length, map, refl, sym, ap, subst, ◌∙◌, arith, Some}
use Rattle.std.proofs.lemmas.List.Elements.{All-get_or}
use Rattle.std.proofs.lemmas.Option.{slice_get-map, slice_get_within, get_or_from_slice_get}
use Rattle.std.specs.Option.{option_map}
use Rattle.std.specs.Prelude.{All, slice_get, slice_index}
use Rattle.move_model.specs.declared.network.Network.{Network}
use Rattle.move_model.specs.declared.network.NodeNo.{NodeNo}
use Rattle.move_model.specs.declared.network.StopNo.{StopNo}
use Rattle.move_model.specs.Streets.{Streets}
use Rattle.move_model.specs.Network.{streets, node_of}
use Rattle.route_split.specs.Route.{Route, IsRoute}
use Rattle.route_split.specs.Calls.{HoldsTrips}
use Rattle.route_split.specs.Routes.{AreRoutes}
use Rattle.stop_rows.specs.Rows.{Rows, IsEntry, HoldsRows, entry, place_at}
use Rattle.two_trip_labels.specs.Closed.{IsSeconds, ArePartsOf}
use Rattle.two_trip_passes.specs.Step.{parts_of, AreRowsOf}

is_seconds : (g : Streets) (a b : NodeNo) (m : ℕ) → IsEntry g a b m → IsSeconds g a b m
is_seconds g a b m is = record {
  real = λ low. ((is.exact m).0 (refl, λ e. omega (arith, e, low))).0;
  enough = λ k d le. ((is.exact k).1 (d, le)).0;
}

module _ (n : Network) (rows : Rows) (holds : HoldsRows n rows) where
  pub rows_are : AreRowsOf n rows
  rows_are = record {
    one_each = holds.places.one_each;
    within = λ x within. slice_get_within rows.nodes (place_at rows x) (node_of n x) (holds.places.stands x within);
  }

  pub parts_are : (q : NodeNo) (routes : List Route) (foot foot_row : List ℕ) (place : ℕ) → slice_get rows.nodes place ≡ Some q
      → HoldsTrips n.trips routes → AreRoutes n.trips (map (λ (r : Route). r.trips) routes) → All (IsRoute (length n.stops)) routes
      → ((x : StopNo) → x.0 < length n.stops → slice_index foot x.0 ≡ entry rows place (place_at rows x))
      → ((p : ℕ) → p < length rows.nodes → slice_index foot_row p ≡ entry rows place p) → ArePartsOf n q (parts_of routes foot foot_row rows)
  parts_are q routes foot foot_row place here trips are whole foot_is row_is = record {
    trips = trips;
    rising = λ r route i j t u is before at_i at_j.
        (are.each_route r route.trips (slice_get-map (λ (o : Route). o.trips) routes r ∙ ap (option_map (λ (o : Route). o.trips)) is)).rise i j t u before at_i at_j;
    whole = λ r route is.
        subst (λ (o : Route). IsRoute (length n.stops) o) (get_or_from_slice_get routes r route route is) (All-get_or (IsRoute (length n.stops)) routes r route (slice_get_within routes r route is) whole);
    on_foot = λ x within. subst (λ (m : ℕ). IsSeconds (streets n) q (node_of n x) m) (sym (foot_is x within))
        (is_seconds (streets n) q (node_of n x) _ (holds.distances place (place_at rows x) q (node_of n x) here (holds.places.stands x within)));
    between = λ x y x_in y_in. is_seconds (streets n) (node_of n x) (node_of n y) _
        (holds.distances (place_at rows x) (place_at rows y) (node_of n x) (node_of n y) (holds.places.stands x x_in) (holds.places.stands y y_in));
    by_place = λ x within. row_is (place_at rows x) (rows_are.within x within) ∙ sym (foot_is x within);
  }
