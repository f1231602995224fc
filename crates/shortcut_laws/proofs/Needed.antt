-- The shortcuts are the walks of the needed pairs.
use Rattle.std.proofs.Common.{◌≡◌, ℕ, ◌<◌, ◌≤◌, List, [], ◌∷◌, length, slice_index_or, map, sym, ap, subst, inl, inr, arith}
use Rattle.std.specs.Prelude.{Contains}
use Rattle.std.proofs.lemmas.Option.{slice_get_within, get_or_from_slice_get}
use Rattle.move_model.specs.declared.network.Network.{Network}
use Rattle.move_model.specs.declared.network.StopNo.{StopNo}
use Rattle.move_model.specs.declared.network.TripNo.{TripNo}
use Rattle.move_model.specs.declared.network.Trip.{Trip}
use Rattle.move_model.specs.declared.network.Call.{Call}
use Rattle.move_model.specs.declared.journey.Shortcut.{Shortcut}
use Rattle.move_model.specs.Check.{KeepsRules, Stays}
use Rattle.move_model.specs.Network.{IsNetwork, IsTrip, IsStopDistance}
use Rattle.move_model.specs.Journey.{HasCall}
use Rattle.move_model.specs.Shortcut.{IsStart, IsShortcut, IsShortcutList, IsLess}
use Rattle.pareto_laws.proofs.Calls.{on_stands, off_stands}
use Rattle.pareto_laws.proofs.LeastArcs.{Contains-cons_cases}
use Rattle.pareto_laws.proofs.Distances.{distance_same}
use Rattle.piece_laws.proofs.Starts.{shortcut_of as needed_shortcut, needed_start}
use Rattle.shortcut_laws.specs.Pairs.{Pair, IsPairNeeded, AreNeededPairs, ArePairsRising, shortcut_of}
use Rattle.shortcut_laws.proofs.Lists.{Contains-map, Contains-from_map, adjacent_map}

no_pair : Pair
no_pair = (record { 0 = 0 }, record { 0 = 0 })

shortcut_eq : (s : Shortcut) (m : ℕ) → m ≡ s.seconds → (let r : Shortcut = record { from = s.from; to = s.to; seconds = m } in r) ≡ s
shortcut_eq s m e = ap (λ (k : ℕ). let r : Shortcut = record { from = s.from; to = s.to; seconds = k } in r) e

pub only_start : (n : Network) (u w : StopNo) (z : ℕ) → Contains (u ∷ []) w → IsStart n w z → IsStart n u z
only_start n u w z has is = elim (Contains-cons_cases u [] w has) [
  | inl e ↦ subst (λ (v : StopNo). IsStart n v z) (sym e) is
  | inr none ↦ absurd (omega (arith, none.1))
]

module _ (n : Network) (seconds : StopNo → StopNo → ℕ) (pairs : List Pair) (rising : ArePairsRising pairs) (needed : AreNeededPairs n pairs)
    (distances : (x y : StopNo) → IsPairNeeded n x y → IsStopDistance n x y (seconds x y)) where
  -- a needed pair gives a shortcut
  given : (p : Pair) → Contains pairs p → IsShortcut n (shortcut_of seconds p)
  given p has =
      let is = (needed p.0 p.1).0 has in
      let at = needed_start n (is.u ∷ []) is.z p.0 p.1 is.needed in
      (needed_shortcut n (shortcut_of seconds p)).1 (record {
        u = is.u;
        z = is.z;
        start = only_start n is.u at.0 is.z at.1 at.2;
        needed = is.needed;
        seconds_are = distances p.0 p.1 is;
      })

  pub list_is : IsShortcutList n (map (shortcut_of seconds) pairs)
  list_is = record {
    exact = λ s. (
      λ there.
          let at = Contains-from_map (shortcut_of seconds) pairs no_pair s there in
          subst (λ (r : Shortcut). IsShortcut n r) at.2 (given at.0 at.1),
      λ is.
          let of = (needed_shortcut n s).0 is in
          let pair : IsPairNeeded n s.from s.to = record { u = of.u; z = of.z; needed = of.needed } in
          let has = (needed s.from s.to).1 pair in
          let same = distance_same (distances s.from s.to pair) of.seconds_are in
          subst (λ (r : Shortcut). Contains (map (shortcut_of seconds) pairs) r) (shortcut_eq s (seconds s.from s.to) same)
          (Contains-map (shortcut_of seconds) pairs (s.from, s.to) has),
    );
    rising = adjacent_map (shortcut_of seconds) (λ a b. IsLess (a.from.0 ∷ a.to.0 ∷ []) (b.from.0 ∷ b.to.0 ∷ [])) pairs no_pair rising;
  }

-- where a piece of two rides leaves the one and boards the other
pub stops_exist : (n : Network) (x y : StopNo) → IsNetwork n → IsPairNeeded n x y → (x.0 < length n.stops) × (y.0 < length n.stops)
stops_exist n x y ok is =
    let d = is.needed in
    let piece = d.candidate.is_piece in (
      subst (λ (s : StopNo). s.0 < length n.stops) d.from_is (off_stands n ok d.piece.first d.piece.on1 d.piece.off1 piece.first_ride),
      subst (λ (s : StopNo). s.0 < length n.stops) d.to_is (on_stands n ok d.piece.second d.piece.on2 d.piece.off2 piece.second_ride),
    )

-- a start is at a stop of the network
pub start_exists : (n : Network) (u : StopNo) (z : ℕ) → IsNetwork n → IsStart n u z → u.0 < length n.stops
start_exists n u z ok is =
    let t = is.calls.0 in
    let trip : IsTrip n is.calls.0 =
    subst (λ (t : Trip). IsTrip n t) (get_or_from_slice_get n.trips is.trip.0 t t is.calls.1) (ok.trips_go is.trip.0 t (slice_get_within n.trips is.trip.0 t is.calls.1)) in
    let stands = trip.at_stops is.place is.call (slice_get_within t.calls is.place is.call is.calls.2) in
    subst (λ (s : StopNo). s.0 < length n.stops) is.at_stop
    (subst (λ (c : Call). c.stop.0 < length n.stops) (get_or_from_slice_get t.calls is.place is.call is.call is.calls.2) stands)

-- no call departs after the last second of a day
departs_within : (n : Network) (trip : TripNo) (k : ℕ) (call : Call) → KeepsRules n → HasCall n trip k call → call.dep ≤ 3599999
departs_within n trip k call rules (t, is_trip, is_call) =
    let stays : (c : ℕ) (d : Call) → c < length t.calls → Stays (slice_index_or t.calls c d) =
    subst (λ (u : Trip). (c : ℕ) (d : Call) → c < length u.calls → Stays (slice_index_or u.calls c d)) (get_or_from_slice_get n.trips trip.0 t t is_trip)
    (rules.within_day trip.0 t (slice_get_within n.trips trip.0 t is_trip)) in
    let at = stays k call (slice_get_within t.calls k call is_call) in
    subst (λ (c : Call). c.dep ≤ 3599999) (get_or_from_slice_get t.calls k call call is_call) at.1

pub walk_within : (n : Network) (x y : StopNo) → KeepsRules n → IsPairNeeded n x y → (m : ℕ) × (m ≤ 3599999) × IsStopDistance n x y m
walk_within n x y rules is =
    let d = is.needed in
    let piece = d.candidate.is_piece in
    let departs = departs_within n d.piece.second.trip d.piece.second.board d.piece.on2 rules piece.second_ride.boards in (
      piece.walk2,
      omega (arith, piece.ready_is, piece.in_time2, departs),
      subst (λ (s : StopNo). IsStopDistance n x s piece.walk2) d.to_is (subst (λ (s : StopNo). IsStopDistance n s d.piece.on2.stop piece.walk2) d.from_is piece.between),
    )
