-- The rides from the stops themselves.
use Rattle.std.proofs.Common.{◌≡◌, ℕ, ◌+◌, ◌<◌, ◌⊎◌, inl, inr, List, length, get_or, take, sym, subst, ◌∙◌, arith, Some}
use Rattle.std.proofs.lemmas.List.{get_or_default}
use Rattle.std.proofs.lemmas.List.Elements.{All-contains, All-more}
use Rattle.std.proofs.lemmas.Option.{same_Some}
use Rattle.std.specs.Prelude.{All, Contains, slice_get, slice_index}
use Rattle.move_model.specs.declared.network.StopNo.{StopNo}
use Rattle.route_split.specs.declared.place.RouteCall.{RouteCall}
use Rattle.route_split.specs.Route.{Route}
use Rattle.route_split.specs.Table.{LendsCalls}
use Rattle.two_trip_rides.specs.First.{Falls, IsOwnRide, OwnOn}
use Rattle.two_trip_passes.specs.Own.{IsOwnAt, IsOwnFrom, IsOwnOf, IsOwnOfAny, OwnAt, OwnFrom}

pub one_of : {X : Type 0} (xs : List X) (k : ℕ) (d : X) → k < length xs → Contains xs (get_or xs k d)
one_of xs k d low = (k, low, get_or_default xs k (get_or xs k d) d low)

module _ (routes : List Route) (d : ℕ) where
  pub own_on : (own : List ℕ) (c : RouteCall) (route : Route) → slice_get routes c.route ≡ Some route → OwnOn route c.call d own → OwnAt routes d own c
  own_on own c route is known = record {
    each = λ x a o. known.each x a (subst (λ (r : Route). IsOwnRide r c.call d x a) (same_Some o.route route (sym o.is_route ∙ is)) o.ride);
  }

  own_falls : (own own' : List ℕ) (c : RouteCall) → Falls own own' → OwnAt routes d own c → OwnAt routes d own' c
  own_falls own own' c falls was = record { each = λ x a o. omega (arith, falls.each x, was.each x a o) }

  pub own_more : (own own' : List ℕ) (calls : List RouteCall) (m : ℕ) (e : RouteCall) → m < length calls → Falls own own'
      → All (OwnAt routes d own) (take m calls) → OwnAt routes d own' (get_or calls m e) → All (OwnAt routes d own') (take (m + 1) calls)
  own_more own own' calls m e within falls all this =
      All-more (OwnAt routes d own') calls m e within (λ k f low. own_falls own own' (get_or (take m calls) k f) falls (all k f low)) this

  from_falls : (own own' : List ℕ) (y : StopNo) → Falls own own' → OwnFrom routes d own y → OwnFrom routes d own' y
  from_falls own own' y falls was = record { each = λ x a o. omega (arith, falls.each x, was.each x a o) }

  pub from_more : (own own' : List ℕ) (stops : List StopNo) (m : ℕ) (e : StopNo) → m < length stops → Falls own own'
      → All (OwnFrom routes d own) (take m stops) → OwnFrom routes d own' (get_or stops m e) → All (OwnFrom routes d own') (take (m + 1) stops)
  from_more own own' stops m e within falls all this =
      All-more (OwnFrom routes d own') stops m e within (λ k f low. from_falls own own' (get_or (take m stops) k f) falls (all k f low)) this

  pub own_changed : (xs ys zs : List ℕ) (calls : List RouteCall) (m : ℕ) (e : RouteCall) (x : ℕ) → m < length calls
      → (slice_index ys x ≡ slice_index xs x) ⊎ IsOwnOf routes d calls x (slice_index ys x)
      → (slice_index zs x ≡ slice_index ys x) ⊎ IsOwnAt routes d (get_or calls m e) x (slice_index zs x)
      → (slice_index zs x ≡ slice_index xs x) ⊎ IsOwnOf routes d calls x (slice_index zs x)
  own_changed xs ys zs calls m e x low before (inr new) = inr (record { call = get_or calls m e; is_one = one_of calls m e low; ride = new })
  own_changed xs ys zs calls m e x low (inl old) (inl same) = inl (same ∙ old)
  own_changed xs ys zs calls m e x low (inr was) (inl same) = inr (subst (λ (a : ℕ). IsOwnOf routes d calls x a) (sym same) was)

  pub from_changed : (xs ys zs : List ℕ) (stops : List StopNo) (m : ℕ) (e : StopNo) (x : ℕ) → m < length stops
      → (slice_index ys x ≡ slice_index xs x) ⊎ IsOwnOfAny routes d stops x (slice_index ys x)
      → (slice_index zs x ≡ slice_index ys x) ⊎ IsOwnFrom routes d (get_or stops m e) x (slice_index zs x)
      → (slice_index zs x ≡ slice_index xs x) ⊎ IsOwnOfAny routes d stops x (slice_index zs x)
  from_changed xs ys zs stops m e x low before (inr new) = inr (record { stop = get_or stops m e; is_one = one_of stops m e low; ride = new })
  from_changed xs ys zs stops m e x low (inl old) (inl same) = inl (same ∙ old)
  from_changed xs ys zs stops m e x low (inr was) (inl same) = inr (subst (λ (a : ℕ). IsOwnOfAny routes d stops x a) (sym same) was)

  -- all calls at a stop
  pub own_from : (own : List ℕ) (y : StopNo) (calls : List RouteCall) → LendsCalls routes y.0 calls → All (OwnAt routes d own) calls → OwnFrom routes d own y
  own_from own y calls lends all = record {
    each = λ x a o. (All-contains (OwnAt routes d own) calls o.call all ((lends o.call.route o.call.call).1 o.at_stop)).each x a o.ride;
  }

  pub from_own : (y : StopNo) (calls : List RouteCall) (x a : ℕ) → LendsCalls routes y.0 calls → IsOwnOf routes d calls x a → IsOwnFrom routes d y x a
  from_own y calls x a lends o = record { call = o.call; at_stop = (lends o.call.route o.call.call).0 o.is_one; ride = o.ride }
