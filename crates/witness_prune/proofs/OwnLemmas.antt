-- The least arrivals of the rides of a start, put down where none are known.
use Rattle.std.proofs.Common.{◌≡◌, ℕ, ◌+◌, ◌^◌, ◌<◌, ◌≤◌, ◌⊎◌, inl, inr, List, length, sym, ap, subst, arith, Some}
use Rattle.std.proofs.lemmas.Bool.{cases_lt}
use Rattle.std.proofs.lemmas.List.{get_or-replicate, get_or_past, get_or_default}
use Rattle.std.proofs.lemmas.List.Elements.{All-get_or}
use Rattle.std.proofs.lemmas.Option.{slice_get_within, get_or_from_slice_get}
use Rattle.std.specs.Prelude.{All, Contains, replicate, slice_get, slice_index}
use Rattle.move_model.specs.declared.network.Network.{Network}
use Rattle.move_model.specs.declared.network.StopNo.{StopNo}
use Rattle.route_split.specs.Route.{Route, IsRoute}
use Rattle.route_split.specs.Calls.{HoldsTrips}
use Rattle.piece_laws.specs.Tables.{never, OwnStands}
use Rattle.two_trip_rides.proofs.TimesLemmas.{departs_before}
use Rattle.two_trip_passes.specs.Own.{IsOwnOfAny, OwnFrom, own_at}
use Rattle.two_trip_passes.proofs.OwnTable.{own_table}

pub whole_at : (stops : ℕ) (routes : List Route) → All (IsRoute stops) routes → (r : ℕ) (route : Route) → slice_get routes r ≡ Some route → IsRoute stops route
whole_at stops routes whole r route is =
    subst (λ (o : Route). IsRoute stops o) (get_or_from_slice_get routes r route route is) (All-get_or (IsRoute stops) routes r route (slice_get_within routes r route is) whole)

-- none departs at a second that doesn't fit
pub own_beyond : (stops : ℕ) (routes : List Route) (d : ℕ) (own : List ℕ) (u : StopNo) → All (IsRoute stops) routes → 2 ^ 32 ≤ d → OwnFrom routes d own u
own_beyond stops routes d own u whole late = record {
  each = λ x a f.
      let route = f.ride.route in
      let r = f.ride.ride in
      absurd (omega (arith, late, r.is_own.departs, departs_before stops route f.call.call r.row (whole_at stops routes whole f.call.route route f.ride.is_route)));
}

module _ (n : Network) (us : List StopNo) (z d : ℕ) (routes : List Route) (own old : List ℕ) (when : z + n.buffer ≡ d) (holds : HoldsTrips n.trips routes)
    (whole : All (IsRoute (length own)) routes) (none : old ≡ replicate (length own) never) where
  pub own_put : ((u : StopNo) → Contains us u → OwnFrom routes d own u)
      → ((x : ℕ) → (slice_index own x ≡ slice_index old x) ⊎ IsOwnOfAny routes d us x (slice_index own x)) → OwnStands n us z (own_at own)
  own_put known changed =
      own_table n us z routes holds own (whole_at (length own) routes whole)
      (λ u is. subst (λ (e : ℕ). OwnFrom routes e own u) (sym when) (known u is))
      (λ x some. subst (λ (e : ℕ). IsOwnOfAny routes e us x.0 (own_at own x)) (sym when) (one x some))
    where
      one : (x : StopNo) → own_at own x < never → IsOwnOfAny routes d us x.0 (own_at own x)
      one x some = elim (cases_lt x.0 (length own)) [
        | inl l ↦
            let e : slice_index own x.0 ≡ own_at own x = get_or_default own x.0 0 never l in
            elim (changed x.0) [
              | inl same ↦ absurd (omega (arith, some, e, same, ap (λ (xs : List ℕ). slice_index xs x.0) none, get_or-replicate (length own) x.0 never 0 l))
              | inr new ↦ subst (λ (a : ℕ). IsOwnOfAny routes d us x.0 a) e new
            ]
        | inr g ↦ absurd (omega (arith, some, get_or_past own x.0 never g))
      ]
