-- One route more in the flat lists.
use Rattle.std.proofs.Common.{◌≡◌, ℕ, ◌+◌, ◌*◌, List, [], ◌∷◌, ◌++◌, length, map, refl, sym, ap, ◌∙◌, subst, arith, length-append}
use Rattle.std.specs.Prelude.{All}
use Rattle.std.proofs.lemmas.List.{length-map, map_push}
use Rattle.std.proofs.lemmas.List.Elements.{All-head, All-tail, All-weaker, All-push}
use Rattle.move_model.specs.declared.network.TripNo.{TripNo}
use Rattle.move_model.specs.declared.network.Trip.{Trip}
use Rattle.route_split.specs.declared.place.Place.{Place}
use Rattle.route_split.specs.declared.place.Head.{Head}
use Rattle.route_split.specs.Route.{Route}
use Rattle.route_split.specs.Routes.{place_of}
use Rattle.route_split.specs.Table.{route_of, HeadFits}
use Rattle.route_split.specs.Fill.{block, first_calls, built, head_after}
use Rattle.route_split.proofs.BlockLemmas.{length-block, part_within, part_last}

pub map_same : {X Y : Type 0} (f g : X → Y) (xs : List X) → All (λ x. f x ≡ g x) xs → map f xs ≡ map g xs
map_same f g [] same = refl
map_same f g (x ∷ xs) same =
    ap (λ y. y ∷ map f xs) (All-head (λ x. f x ≡ g x) x xs same)
    ∙ ap (λ l. g x ∷ l) (map_same f g xs (All-tail (λ x. f x ≡ g x) x xs same))

same_route : (ps qs : List Place) (ts us : List TripNo) (ss rs : List ℕ) → ps ≡ qs → ts ≡ us → ss ≡ rs
    → ◌≡◌ {A = Route} (record { places = ps; trips = ts; seconds = ss }) (record { places = qs; trips = us; seconds = rs })
same_route ps qs ts us ss rs e f g =
    ap (λ (l : List Place). record { places = l; trips = ts; seconds = ss }) e
    ∙ ap (λ (l : List TripNo). record { places = qs; trips = l; seconds = ss }) f
    ∙ ap (λ (l : List ℕ). record { places = qs; trips = us; seconds = l }) g

module _ (seconds more_seconds : List ℕ) (places more_places : List Place) (trips more_trips : List TripNo) where
  pub fits_on : (h : Head) → HeadFits seconds places trips h → HeadFits (seconds ++ more_seconds) (places ++ more_places) (trips ++ more_trips) h
  fits_on h fits = record {
    seconds_are = omega (arith, fits.seconds_are, length-append seconds more_seconds);
    places_are = omega (arith, fits.places_are, length-append places more_places);
    trips_are = omega (arith, fits.trips_are, length-append trips more_trips);
  }

  pub route_on : (h : Head) → HeadFits seconds places trips h
      → route_of (seconds ++ more_seconds) (places ++ more_places) (trips ++ more_trips) h ≡ route_of seconds places trips h
  route_on h fits =
      same_route _ _ _ _ _ _
      (part_within places more_places h.place (h.place + h.calls) (omega arith) fits.places_are)
      (part_within trips more_trips h.trip (h.trip + h.trips) (omega arith) fits.trips_are)
      (part_within seconds more_seconds h.second (h.second + 2 * h.calls * h.trips) (omega arith) fits.seconds_are)

module _ (all : List Trip) (group : List TripNo) (seconds : List ℕ) (places : List Place) (trips : List TripNo) (heads : List Head) (h : Head)
    (second_is : h.second ≡ length seconds) (place_is : h.place ≡ length places) (trip_is : h.trip ≡ length trips)
    (calls_are : h.calls ≡ length (first_calls all group)) (trips_are : h.trips ≡ length group)
    (fit : All (HeadFits seconds places trips) heads) where
  long : h.second + 2 * h.calls * h.trips ≡ length seconds + 2 * length (first_calls all group) * length group
  long = ap (λ n. n + 2 * h.calls * h.trips) second_is ∙ ap (λ n. length seconds + 2 * n * h.trips) calls_are
      ∙ ap (λ n. length seconds + 2 * length (first_calls all group) * n) trips_are

  fits_new : HeadFits (seconds ++ block all group (length (first_calls all group))) (places ++ map place_of (first_calls all group)) (trips ++ group) h
  fits_new = record {
    seconds_are = omega (arith, long, length-append seconds (block all group (length (first_calls all group))), length-block all group (length (first_calls all group)));
    places_are = omega (arith, place_is, calls_are, length-append places (map place_of (first_calls all group)), length-map (first_calls all group) place_of);
    trips_are = omega (arith, trip_is, trips_are, length-append trips group);
  }

  route_new : route_of (seconds ++ block all group (length (first_calls all group))) (places ++ map place_of (first_calls all group)) (trips ++ group) h ≡ built all group
  route_new =
      same_route _ _ _ _ _ _
      (part_last places (map place_of (first_calls all group)) h.place (h.place + h.calls) (sym place_is)
      (omega (arith, calls_are, length-map (first_calls all group) place_of)))
      (part_last trips group h.trip (h.trip + h.trips) (sym trip_is) (omega (arith, trips_are)))
      (part_last seconds (block all group (length (first_calls all group))) h.second (h.second + 2 * h.calls * h.trips) (sym second_is)
      (omega (arith, long, second_is, length-block all group (length (first_calls all group)))))

  pub all_fit : All (HeadFits (seconds ++ block all group (length (first_calls all group))) (places ++ map place_of (first_calls all group)) (trips ++ group)) (heads ++ h ∷ [])
  all_fit =
      All-push (HeadFits (seconds ++ block all group (length (first_calls all group))) (places ++ map place_of (first_calls all group)) (trips ++ group)) heads h
      (All-weaker (HeadFits seconds places trips) (HeadFits (seconds ++ block all group (length (first_calls all group))) (places ++ map place_of (first_calls all group)) (trips ++ group))
      (fits_on seconds (block all group (length (first_calls all group))) places (map place_of (first_calls all group)) trips group) heads fit)
      fits_new

  pub routes_more : map (route_of (seconds ++ block all group (length (first_calls all group))) (places ++ map place_of (first_calls all group)) (trips ++ group)) (heads ++ h ∷ [])
      ≡ map (route_of seconds places trips) heads ++ built all group ∷ []
  routes_more =
      let now = route_of (seconds ++ block all group (length (first_calls all group))) (places ++ map place_of (first_calls all group)) (trips ++ group) in
      map_push now heads h
      ∙ ap (λ l. l ++ now h ∷ [])
      (map_same now (route_of seconds places trips) heads
      (All-weaker (HeadFits seconds places trips) (λ x. now x ≡ route_of seconds places trips x)
      (route_on seconds (block all group (length (first_calls all group))) places (map place_of (first_calls all group)) trips group) heads fit))
      ∙ ap (λ r. map (route_of seconds places trips) heads ++ r ∷ []) route_new

-- the lists after a group's route was laid behind the others
abbrev Good : List Trip → List TripNo → List ℕ → List Place → List TripNo → List Head → List ℕ → List Place → List TripNo → List Head → Type 0
Good all group seconds places trips heads seconds' places' trips' heads' =
    All (HeadFits seconds' places' trips') heads'
    × (map (route_of seconds' places' trips') heads' ≡ map (route_of seconds places trips) heads ++ built all group ∷ [])

pub parts_fit : (all : List Trip) (group : List TripNo) (seconds : List ℕ) (places : List Place) (trips : List TripNo) (heads : List Head)
    (seconds' : List ℕ) (places' : List Place) (trips' : List TripNo) (heads' : List Head)
    → seconds' ≡ seconds ++ block all group (length (first_calls all group)) → places' ≡ places ++ map place_of (first_calls all group)
    → trips' ≡ trips ++ group → heads' ≡ heads ++ head_after seconds places trips all group ∷ []
    → All (HeadFits seconds places trips) heads
    → All (HeadFits seconds' places' trips') heads'
    × (map (route_of seconds' places' trips') heads' ≡ map (route_of seconds places trips) heads ++ built all group ∷ [])
parts_fit all group seconds places trips heads seconds' places' trips' heads' es ep et eh fit =
    let h = head_after seconds places trips all group in
    subst (λ (l : List ℕ). Good all group seconds places trips heads l places' trips' heads') (sym es)
    (subst (λ (l : List Place). Good all group seconds places trips heads (seconds ++ block all group (length (first_calls all group))) l trips' heads') (sym ep)
    (subst (λ (l : List TripNo). Good all group seconds places trips heads (seconds ++ block all group (length (first_calls all group))) (places ++ map place_of (first_calls all group)) l heads') (sym et)
    (subst (λ (l : List Head). Good all group seconds places trips heads (seconds ++ block all group (length (first_calls all group))) (places ++ map place_of (first_calls all group)) (trips ++ group) l) (sym eh)
    (all_fit all group seconds places trips heads h refl refl refl refl refl fit, routes_more all group seconds places trips heads h refl refl refl refl refl fit))))
