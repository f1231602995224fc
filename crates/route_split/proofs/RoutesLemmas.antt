-- The groups of a split are the routes.
use Rattle.std.proofs.Common.{◌≡◌, ◌≢◌, ℕ, ◌-◌, ◌<◌, ◌^◌, inl, inr, List, [], ◌∷◌, length, map, get_or, refl, sym, ap, ◌∙◌, subst, arith, Some}
use Rattle.std.specs.Prelude.{slice_get, slice_index, All}
use Rattle.std.specs.List.{AllAdjacentBelow}
use Rattle.std.proofs.lemmas.Bool.{cases_order}
use Rattle.std.proofs.lemmas.List.{length-map}
use Rattle.std.proofs.lemmas.List.Elements.{All-map, All-weaker}
use Rattle.std.proofs.lemmas.Option.{slice_get-get_or, slice_get_within, get_or_from_slice_get, same_Some}
use Rattle.move_model.specs.declared.network.TripNo.{TripNo}
use Rattle.move_model.specs.declared.network.Trip.{Trip}
use Rattle.move_model.specs.declared.network.Call.{Call}
use Rattle.move_model.specs.Check.{Stays}
use Rattle.move_model.specs.Network.{IsAtOrBefore}
use Rattle.route_split.specs.Route.{Route, IsRoute}
use Rattle.route_split.specs.Calls.{IsRouteOf, HoldsTrips}
use Rattle.route_split.specs.Routes.{place_of, HaveSamePlaces, IsNoLater, IsPartition, IsOneRoute, AreAlike, AreApart, AreRoutes}
use Rattle.route_split.specs.Split.{CanFollow, CanStand, HasObstacle, IsSplit}
use Rattle.route_split.specs.Fill.{no_trip, trip_no, trip_at, group_of, built, IsGroup}
use Rattle.route_split.proofs.KeptLemmas.{kept_is, kept_has, kept_rise, length-kept}
use Rattle.route_split.proofs.EntryLemmas.{map_entry, entry_map, same_at, same_maps}
use Rattle.route_split.proofs.BuiltLemmas.{rows-built, route-built}
use Rattle.route_split.proofs.OrderLemmas.{obstacle_apart}

pub same_places : (cs ds : List Call) → CanFollow cs ds → HaveSamePlaces cs ds
same_places cs ds follows = same_maps place_of cs ds follows.as_many follows.same

-- the routes of built routes are their groups
pub trips-built : (trips : List Trip) (groups : List (List TripNo)) → map (λ (route : Route). route.trips) (map (built trips) groups) ≡ groups
trips-built trips [] = refl
trips-built trips (group ∷ groups) = ap (λ l. group ∷ l) (trips-built trips groups)

module _ (trips : List Trip) (routes : List ℕ) (count : ℕ) (groups : List (List TripNo)) (few : length trips < 2 ^ 32 - 1)
    (is : IsSplit trips routes (length trips) count)
    (used : (g : ℕ) → g < count → (t : ℕ) × (t < length trips) × (slice_index routes t ≡ g))
    (as_many : length groups ≡ count)
    (are : (g : ℕ) → g < count → get_or groups g [] ≡ group_of routes g (length routes)) where
  group_is : (g : ℕ) (group : List TripNo) → slice_get groups g ≡ Some group → (g < count) × (group ≡ group_of routes g (length trips))
  group_is g group at =
      let low : g < count = omega (arith, slice_get_within groups g group at, as_many) in
      (low, sym (get_or_from_slice_get groups g group [] at) ∙ are g low ∙ ap (group_of routes g) is.one_each)

  member : (g p : ℕ) (group : List TripNo) (t : TripNo) → slice_get groups g ≡ Some group → slice_get group p ≡ Some t
      → (t.0 < length trips) × (slice_index routes t.0 ≡ g)
  member g p group t at in_group =
      let k = kept_is trip_no (slice_index routes) g (length trips) p t (subst (λ l. slice_get l p ≡ Some t) (group_is g group at).1 in_group) in
      let e : k.number ≡ t.0 = ap (λ (x : TripNo). x.0) k.is_item in
      (omega (arith, e, k.below), ap (slice_index routes) (sym e) ∙ k.has_key)

  rise : (g p q : ℕ) (group : List TripNo) (t u : TripNo) → slice_get groups g ≡ Some group → p < q → slice_get group p ≡ Some t
      → slice_get group q ≡ Some u → t.0 < u.0
  rise g p q group t u at before at_t at_u =
      let e = (group_is g group at).1 in
      let k = kept_rise trip_no (slice_index routes) g (length trips) p q t u before
      (subst (λ l. slice_get l p ≡ Some t) e at_t) (subst (λ l. slice_get l q ≡ Some u) e at_u) in
      omega (arith, k.2, ap (λ (x : TripNo). x.0) k.3, ap (λ (x : TripNo). x.0) k.4)

  -- where a trip stands
  place_in : (g : ℕ) (group : List TripNo) (t : ℕ) → slice_get groups g ≡ Some group → t < length trips → slice_index routes t ≡ g
      → (p : ℕ) × (slice_get group p ≡ Some (trip_no t))
  place_in g group t at low e =
      let k = kept_has trip_no (slice_index routes) g (length trips) t low e in
      (k.0, subst (λ l. slice_get l k.0 ≡ Some (trip_no t)) (sym (group_is g group at).1) k.1)

  stand : (g p q : ℕ) (group : List TripNo) (t u : TripNo) → slice_get groups g ≡ Some group → p < q → slice_get group p ≡ Some t
      → slice_get group q ≡ Some u → CanStand trips t.0 u.0
  stand g p q group t u at before at_t at_u =
      let m = member g p group t at at_t in
      let m' = member g q group u at at_u in
      is.alike t.0 u.0 (rise g p q group t u at before at_t at_u) m'.0 (m.1 ∙ sym m'.1)

  pub is_group : (g : ℕ) (group : List TripNo) → slice_get groups g ≡ Some group → IsGroup trips group
  is_group g group at =
      let here = group_is g group at in
      let one = used g here.0 in
      let p = place_in g group one.0 at one.1 one.2 in
      record {
        some = omega (arith, slice_get_within group p.0 (trip_no one.0) p.1);
        few = omega (arith, few, ap length here.1, length-kept trip_no (slice_index routes) g (length trips));
        exist = λ q t at_t. (member g q group t at at_t).0;
        stand = λ q r t u before at_t at_u. stand g q r group t u at before at_t at_u;
      }

  pub all_groups : All (IsGroup trips) groups
  all_groups = λ g d low. is_group g (get_or groups g d) (slice_get-get_or groups g d low)

  group_at : (g : ℕ) → g < count → slice_get groups g ≡ Some (get_or groups g [])
  group_at g low = slice_get-get_or groups g [] (omega (arith, low, as_many))

  same_group : (g h : ℕ) (group other : List TripNo) → g ≡ h → slice_get groups g ≡ Some group → slice_get groups h ≡ Some other → group ≡ other
  same_group g h group other e at_g at_h = same_Some group other (sym at_g ∙ ap (slice_get groups) e ∙ at_h)

  same_place : (g : ℕ) (group : List TripNo) (t : TripNo) (p q : ℕ) → slice_get groups g ≡ Some group → slice_get group p ≡ Some t
      → slice_get group q ≡ Some t → p ≡ q
  same_place g group t p q at at_p at_q = elim (cases_order p q) [
    | inl same ↦ same
    | inr apart ↦ elim apart [
      | inl before ↦ absurd (omega (arith, rise g p q group t t at before at_p at_q))
      | inr behind ↦ absurd (omega (arith, rise g q p group t t at behind at_q at_p))
    ]
  ]

  pub partition : IsPartition trips groups
  partition = record {
    none_empty = λ g group at. (is_group g group at).some;
    exist = λ t g p here. (member g p here.group t here.is_group here.at_place).0;
    somewhere = λ t low.
        let g = slice_index routes t.0 in
        let below = is.below t.0 low in
        let at = group_at g below in
        let p = place_in g (get_or groups g []) t.0 at low refl in
        (g, p.0, record { group = get_or groups g []; is_group = at; at_place = p.1 });
    once = λ t g p h q here there.
        let m = member g p here.group t here.is_group here.at_place in
        let m' = member h q there.group t there.is_group there.at_place in
        let e : g ≡ h = sym m.1 ∙ m'.1 in
        let same = same_group g h here.group there.group e here.is_group there.is_group in
        (e, same_place h there.group t p q there.is_group (subst (λ l. slice_get l p ≡ Some t) same here.at_place) there.at_place);
  }

  pub one_route : (g : ℕ) (group : List TripNo) → slice_get groups g ≡ Some group → IsOneRoute trips group
  one_route g group at = record {
    rise = λ p q t u before at_t at_u. rise g p q group t u at before at_t at_u;
    same_places = λ p q t u a b before is_t is_u.
        same_places a.calls b.calls (stand g p q group t u at before is_t.at_place is_u.at_place a b is_t.is_trip is_u.is_trip);
    never_overtaken = λ p q t u a b before is_t is_u.
        (stand g p q group t u at before is_t.at_place is_u.at_place a b is_t.is_trip is_u.is_trip).no_later;
  }

  -- two trips with one number have the same places
  alike : (t u : ℕ) (a b : Trip) → t < length trips → u < length trips → slice_index routes t ≡ slice_index routes u → slice_get trips t ≡ Some a
      → slice_get trips u ≡ Some b → HaveSamePlaces a.calls b.calls
  alike t u a b low low' e at_t at_u = elim (cases_order t u) [
    | inl same ↦
        let one : a ≡ b = same_Some a b (sym at_t ∙ ap (slice_get trips) same ∙ at_u) in
        ap (λ (x : Trip). map place_of x.calls) one
    | inr apart ↦ elim apart [
      | inl before ↦ same_places a.calls b.calls (is.alike t u before low' e a b at_t at_u)
      | inr behind ↦ sym (same_places b.calls a.calls (is.alike u t behind low (sym e) b a at_u at_t))
    ]
  ]

  module _ (ordered : AllAdjacentBelow (λ (trip next : Trip). IsAtOrBefore trip.calls next.calls) trips (length trips)) where
    trip_is : (t : ℕ) → t < length trips → slice_get trips t ≡ Some (trip_at trips t)
    trip_is t low = slice_get-get_or trips t no_trip low

    -- the two trips of an obstacle, where the routes have equal places
    neither : (g h : ℕ) (o : HasObstacle trips routes (length trips) g h) (v w : ℕ) (a b : Trip) → v < length trips → w < length trips
        → slice_index routes v ≡ g → slice_index routes w ≡ h → slice_get trips v ≡ Some a → slice_get trips w ≡ Some b → HaveSamePlaces a.calls b.calls
        → (IsNoLater (trip_at trips o.t).calls (trip_at trips o.u).calls → ⊥) × (IsNoLater (trip_at trips o.u).calls (trip_at trips o.t).calls → ⊥)
    neither g h o v w a b low_v low_w v_in w_in at_v at_w same =
        let low_u = o.within in
        let low_t : o.t < length trips = omega (arith, o.before, o.within) in
        let x = trip_at trips o.t in
        let y = trip_at trips o.u in
        let places : map place_of x.calls ≡ map place_of y.calls =
        alike o.t v x a low_t low_v (o.t_in ∙ sym v_in) (trip_is o.t low_t) at_v
        ∙ same
        ∙ alike w o.u b y low_w low_u (w_in ∙ sym o.u_in) at_w (trip_is o.u low_u) in
        let long : length x.calls ≡ length y.calls = sym (length-map x.calls place_of) ∙ ap length places ∙ length-map y.calls place_of in
        obstacle_apart trips ordered routes g h o x y (trip_is o.t low_t) (trip_is o.u low_u) long
        (λ k c d at_c at_d. same_at place_of x.calls y.calls k c d places at_c at_d)

    apart : (g h : ℕ) (group other : List TripNo) → g ≢ h → slice_get groups g ≡ Some group → slice_get groups h ≡ Some other
        → AreAlike trips group other → AreApart trips group other
    apart g h group other ne at_g at_h al =
        let v = member g al.p group al.t at_g al.of_group.at_place in
        let w = member h al.q other al.u at_h al.of_other.at_place in
        let low_g = (group_is g group at_g).0 in
        let low_h = (group_is h other at_h).0 in
        elim (cases_order g h) [
          | inl same ↦ absurd (ne same)
          | inr order ↦ elim order [
            | inl before ↦
                let o = is.apart g h before low_h in
                let n = neither g h o al.t.0 al.u.0 al.a al.b v.0 w.0 v.1 w.1 al.of_group.is_trip al.of_other.is_trip al.same_places in
                let low_t : o.t < length trips = omega (arith, o.before, o.within) in
                let p = place_in g group o.t at_g low_t o.t_in in
                let q = place_in h other o.u at_h o.within o.u_in in
                record {
                  p = p.0;
                  q = q.0;
                  t = trip_no o.t;
                  u = trip_no o.u;
                  a = trip_at trips o.t;
                  b = trip_at trips o.u;
                  of_group = record { at_place = p.1; is_trip = trip_is o.t low_t };
                  of_other = record { at_place = q.1; is_trip = trip_is o.u o.within };
                  not_before = n.0;
                  not_after = n.1;
                }
            | inr behind ↦
                let o = is.apart h g behind low_g in
                let n = neither h g o al.u.0 al.t.0 al.b al.a w.0 v.0 w.1 v.1 al.of_other.is_trip al.of_group.is_trip (sym al.same_places) in
                let low_t : o.t < length trips = omega (arith, o.before, o.within) in
                let p = place_in h other o.t at_h low_t o.t_in in
                let q = place_in g group o.u at_g o.within o.u_in in
                record {
                  p = q.0;
                  q = p.0;
                  t = trip_no o.u;
                  u = trip_no o.t;
                  a = trip_at trips o.u;
                  b = trip_at trips o.t;
                  of_group = record { at_place = q.1; is_trip = trip_is o.u o.within };
                  of_other = record { at_place = p.1; is_trip = trip_is o.t low_t };
                  not_before = n.1;
                  not_after = n.0;
                }
          ]
        ]

    pub are_routes : AreRoutes trips groups
    are_routes = record { partition = partition; each_route = one_route; apart = apart }

  pub holds : HoldsTrips trips (map (built trips) groups)
  holds = record {
    rows_are = λ r route at.
        let e = map_entry (built trips) groups r route at in
        subst (IsRouteOf trips) e.2 (rows-built trips e.0 (is_group r e.0 e.1));
    each_trip = λ t low.
        let at = partition.somewhere t low in
        record {
          r = at.0;
          p = at.1;
          route = built trips at.2.group;
          is_route = entry_map (built trips) groups at.0 at.2.group at.2.is_group;
          is_row = at.2.at_place;
        };
  }

  pub routes_whole : (stops : ℕ) → All (λ trip. length trip.calls < 2 ^ 32 - 1) trips → All (λ trip. All Stays trip.calls) trips
      → All (λ trip. All (λ call. call.stop.0 < stops) trip.calls) trips → All (IsRoute stops) (map (built trips) groups)
  routes_whole stops few_calls timed placed =
      All-map (IsRoute stops) (built trips) groups
      (All-weaker (IsGroup trips) (λ group. IsRoute stops (built trips group)) (λ group one. route-built trips group one stops few_calls timed placed) groups all_groups)
