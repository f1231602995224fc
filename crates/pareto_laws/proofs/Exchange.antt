-- A transfer to another stop that is not in the list of shortcuts is exchanged. Its two rides are a candidate of the
-- start where the first is boarded, so a lesser piece or a journey with at most one ride betters it. What comes before
-- and behind stays, and these are the first to fall:
--     a journey with at most one ride       the number of rides
--     a piece of lesser arrival             the second at the end, or when the ride behind is reached
--     equal arrival, lesser a2              the second at which the second ride is left
--     equal in both                         then e is 0, so the stop left and the change behind it stay, and the second
--                                           ride's trip, its ready second, its boarding stop, the second at which the
--                                           first ride is left or the change behind that falls, as in the key
use Rattle.std.proofs.Common.{◌≡◌, ◌≢◌, ℕ, suc, ◌+◌, ◌-◌, ◌≤◌, ◌⊎◌, List, [], ◌∷◌, length, refl, ap, inl, inr, arith, Option, Some, false, eqb}
use Rattle.std.proofs.lemmas.Bool.{cases_eq, eq-eqb, ne_eqb}
use Rattle.move_model.specs.declared.network.Network.{Network}
use Rattle.move_model.specs.declared.network.NodeNo.{NodeNo}
use Rattle.move_model.specs.declared.network.StopNo.{StopNo}
use Rattle.move_model.specs.declared.journey.Journey.{Journey}
use Rattle.move_model.specs.declared.journey.Shortcut.{Shortcut}
use Rattle.move_model.specs.Network.{IsNetwork, node_of, streets}
use Rattle.move_model.specs.Journey.{IsRide, IsJourney}
use Rattle.move_model.specs.Shortcut.{entry_of, key_of, Piece, IsPiece, IsKeyLess, IsCandidate, IsBettered, IsShortcutList, IsStart}
use Rattle.move_model.specs.Shortcut.IsBettered.{by_piece, by_journey}
use Rattle.pareto_laws.proofs.Walks.{IsWalk-begins, IsWalk-ends}
use Rattle.pareto_laws.proofs.Distances.{distance_self}
use Rattle.pareto_laws.proofs.Calls.{stop_eq, call_after}
use Rattle.pareto_laws.proofs.Decisions.{bettered_or_not}
use Rattle.pareto_laws.proofs.Lexicographic.{exchange_falls, IsLess-insert}
use Rattle.pareto_laws.proofs.Legs.{Leg, Reaches, GoesOn, IsChain, change, marks, StaysOrListed, AllListed, IsBeaten, reach_on, least_legs}

pub entry_of_same : (x : StopNo) → entry_of x x ≡ 0
entry_of_same x = rw (eq-eqb x.0 x.0 refl)

pub entry_of_other : (x y : StopNo) → x ≢ y → entry_of x y ≡ 1 + x.0
entry_of_other x y h = rw (ne_eqb x.0 y.0 (λ e. h (stop_eq x y e)))

pub entry_of_zero : (x y : StopNo) → entry_of x y ≡ 0 → x ≡ y
entry_of_zero x y e = elim (cases_eq x.0 y.0) [
  | inl h ↦ stop_eq x y h
  | inr h ↦ absurd (other x y (ne_eqb x.0 y.0 h) e)
]
  where
    other : (x y : StopNo) → eqb x.0 y.0 ≡ false → entry_of x y ≡ 0 → ⊥
    other x y f e = let g = rw f at e in omega arith

-- the piece that two legs make
abbrev piece_of : Leg → Leg → Piece
piece_of leg next =
    record { first = leg.ride; on1 = leg.on; off1 = leg.off; second = next.ride; on2 = next.on; off2 = next.off; ready = next.ready; arrive = next.off.arr }

module _ (n : Network) (ok : IsNetwork n) (s : NodeNo) (d : ℕ) where
  module _ (v : NodeNo) (next : Option StopNo) (last leg : Leg) (legs : List Leg) (r z : ℕ)
      (chain : IsChain n s d (last ∷ leg ∷ legs)) (at : Reaches n s d (last ∷ leg ∷ legs) v r)
      (departs : leg.on.dep ≡ z + n.buffer) where
    -- the passenger is where the first ride is boarded by z
    early : leg.ready ≤ z
    early = omega (arith, chain.1.0.in_time)

    beaten_by_piece : (other : Piece) → IsPiece n leg.on.stop z last.off.stop other
        → IsKeyLess (key_of last.off.stop other) (key_of last.off.stop (piece_of leg last))
        → IsBeaten n s d v next (last ∷ leg ∷ legs) r
    beaten_by_piece other is less =
        let walk1 = is.to_first.attained in
        let board = reach_on n ok s d legs (node_of n leg.on.stop) (node_of n other.on1.stop) walk1.0 leg.ready is.walk1 chain.1.0.reaches walk1.1 in
        let leg1 : Leg = record { ride = other.first; on = other.on1; off = other.off1; ready = board.0 } in
        let leg2 : Leg = record { ride = other.second; on = other.on2; off = other.off2; ready = other.ready } in
        let goes1 : GoesOn n s d legs leg1 = record { is_ride = is.first_ride; reaches = board.1; in_time = omega (arith, board.2, is.in_time1, early) } in
        let goes2 : GoesOn n s d (leg1 ∷ legs) leg2 = record {
          is_ride = is.second_ride;
          reaches = record { walk = is.walk2; distance = is.between; second_is = is.ready_is };
          in_time = is.in_time2;
        } in
        let walk3 = is.to_end.attained in
        let there : Reaches n s d (leg2 ∷ leg1 ∷ legs) (node_of n last.off.stop) other.arrive =
        record { walk = is.walk3; distance = is.to_end; second_is = is.arrive_is } in
        let on = at.distance.attained in
        let end = reach_on n ok s d (leg2 ∷ leg1 ∷ legs) (node_of n last.off.stop) v on.0 other.arrive at.walk there on.1 in
        let same : entry_of other.off2.stop last.off.stop ≡ 0 → change other.off2.stop next ≡ change last.off.stop next =
        λ e. ap (λ x. change x next) (entry_of_zero other.off2.stop last.off.stop e) in
        let falls = exchange_falls other.arrive last.off.arr other.off2.arr (entry_of other.off2.stop last.off.stop)
        (change last.off.stop next) (change other.off2.stop next) at.walk r end.0
        (last.ride.trip.0 ∷ last.ready ∷ last.on.stop.0 ∷ leg.off.arr ∷ entry_of leg.off.stop last.on.stop ∷ [])
        (other.second.trip.0 ∷ other.ready ∷ other.on2.stop.0 ∷ other.off1.arr ∷ entry_of other.off1.stop other.on2.stop ∷ [])
        (leg.ride.trip.0 ∷ leg.ready ∷ leg.on.stop.0 ∷ marks (Some leg.on.stop) legs)
        (other.first.trip.0 ∷ board.0 ∷ other.on1.stop.0 ∷ marks (Some other.on1.stop) legs)
        at.second_is end.2 same (rw (entry_of_same last.off.stop) at less) in
        record {
          others = leg2 ∷ leg1 ∷ legs;
          chain = (goes2, (goes1, chain.1.1));
          second = end.0;
          reaches = end.1;
          no_later = falls.0;
          falls = inr (refl, falls.1);
        }

    beaten_by_journey : (journey : Journey) (arrive : ℕ) → journey.depart ≡ z → length journey.rides ≤ 1
        → IsJourney n (node_of n leg.on.stop) journey (node_of n last.off.stop) arrive → arrive ≤ last.off.arr
        → IsBeaten n s d v next (last ∷ leg ∷ legs) r
    beaten_by_journey journey arrive is few leads no_later =
        let others = least_legs n ok s d leads legs chain.1.1
        (λ b vs m walk.
        let on = reach_on n ok s d legs (node_of n leg.on.stop) b vs leg.ready m chain.1.0.reaches walk in
        (on.0, on.1, omega (arith, on.2, early, is))) in
        let on = at.distance.attained in
        let end = reach_on n ok s d others.legs (node_of n last.off.stop) v on.0 others.second at.walk others.reaches on.1 in
        record {
          others = others.legs;
          chain = others.chain;
          second = end.0;
          reaches = end.1;
          no_later = omega (arith, end.2, others.no_later, no_later, at.second_is);
          falls = inl (omega (arith, others.count, few));
        }

  beaten : (v : NodeNo) (next : Option StopNo) (last leg : Leg) (legs : List Leg) (r z : ℕ)
      (chain : IsChain n s d (last ∷ leg ∷ legs)) (at : Reaches n s d (last ∷ leg ∷ legs) v r)
      (departs : leg.on.dep ≡ z + n.buffer)
      → IsBettered n leg.on.stop z last.off.stop (piece_of leg last) → IsBeaten n s d v next (last ∷ leg ∷ legs) r
  beaten v next last leg legs r z chain at departs (by_piece other is less) =
      beaten_by_piece v next last leg legs r z chain at departs other is less
  beaten v next last leg legs r z chain at departs (by_journey journey arrive is few leads no_later) =
      beaten_by_journey v next last leg legs r z chain at departs journey arrive is few leads no_later

  -- what falls behind the last ride falls in all
  beaten_before : (v : NodeNo) (next : Option StopNo) (last : Leg) (legs : List Leg) (r : ℕ)
      → IsChain n s d (last ∷ legs) → Reaches n s d (last ∷ legs) v r
      → IsBeaten n s d (node_of n last.on.stop) (Some last.on.stop) legs last.ready → IsBeaten n s d v next (last ∷ legs) r
  beaten_before v next last legs r chain at b =
      let other : Leg = record last { ready = b.second } in
      record {
        others = other ∷ b.others;
        chain = (record { is_ride = chain.0.is_ride; reaches = b.reaches; in_time = omega (arith, b.no_later, chain.0.in_time) }, b.chain);
        second = r;
        reaches = record { walk = at.walk; distance = at.distance; second_is = at.second_is };
        no_later = omega arith;
        falls = elim b.falls [
          | inl fewer ↦ inl (omega (arith, fewer))
          | inr h ↦ inr (ap suc h.0, inr (refl, inr (refl, inr (refl, inr (refl, IsLess-insert b.second last.ready last.on.stop.0 (marks (Some last.on.stop) b.others) (marks (Some last.on.stop) legs) h.1)))))
        ];
      }

  -- the two legs as a candidate
  candidate_of : (v : NodeNo) (last leg : Leg) (legs : List Leg) (r z : ℕ) → IsChain n s d (last ∷ leg ∷ legs)
      → Reaches n s d (last ∷ leg ∷ legs) v r → leg.on.dep ≡ z + n.buffer → leg.off.stop ≢ last.on.stop
      → IsCandidate n leg.on.stop z last.off.stop (piece_of leg last)
  candidate_of v last leg legs r z chain at departs other =
      record {
        is_piece = record {
          first_ride = chain.1.0.is_ride;
          second_ride = chain.0.is_ride;
          walk1 = 0;
          to_first = distance_self (streets n) (IsWalk-ends (streets n) ok.streets_join chain.1.0.reaches.distance.attained.1);
          in_time1 = omega arith;
          walk2 = chain.0.reaches.walk;
          between = chain.0.reaches.distance;
          ready_is = chain.0.reaches.second_is;
          in_time2 = chain.0.in_time;
          walk3 = 0;
          to_end = distance_self (streets n) (IsWalk-begins (streets n) ok.streets_join at.distance.attained.1);
          arrive_is = omega arith;
        };
        boards_at = refl;
        departs = departs;
        leaves_at = refl;
        walks = other;
      }

  start_of : (leg : Leg) (z : ℕ) → IsRide n leg.ride leg.on leg.off → leg.on.dep ≡ z + n.buffer → IsStart n leg.on.stop z
  start_of leg z is departs =
      let after = call_after n leg.ride.trip leg.ride.board leg.ride.alight leg.off is.forward is.leaves in
      record {
        trip = leg.ride.trip;
        place = leg.ride.board;
        call = leg.on;
        next = after.0;
        calls = is.boards;
        at_stop = refl;
        departs = departs;
        may_board = is.may_board;
        goes_on = after.1;
      }

  module _ (list : List Shortcut) (is : IsShortcutList n list) where
    listed_or_beaten : (v : NodeNo) (next : Option StopNo) (last leg : Leg) (legs : List Leg) (r : ℕ)
        → IsChain n s d (last ∷ leg ∷ legs) → Reaches n s d (last ∷ leg ∷ legs) v r
        → StaysOrListed list leg last ⊎ IsBeaten n s d v next (last ∷ leg ∷ legs) r
    listed_or_beaten v next last leg legs r chain at =
        elim (cases_eq leg.off.stop.0 last.on.stop.0) [
          | inl same ↦ inl (inl (stop_eq leg.off.stop last.on.stop same))
          | inr other ↦
              let z : ℕ = leg.on.dep - n.buffer in
              let departs : leg.on.dep ≡ z + n.buffer = omega (arith, chain.1.0.in_time) in
              elim (bettered_or_not n ok leg.on.stop z last.off.stop (piece_of leg last)) [
                | yes b ↦ inr (beaten v next last leg legs r z chain at departs b)
                | no h ↦
                    inl (inr (
                      chain.0.reaches.walk,
                      (is.exact (record { from = leg.off.stop; to = last.on.stop; seconds = chain.0.reaches.walk })).1
                          (record {
                            u = leg.on.stop;
                            z = z;
                            v = last.off.stop;
                            piece = piece_of leg last;
                            start = start_of leg z chain.1.0.is_ride departs;
                            candidate = candidate_of v last leg legs r z chain at departs (λ e. other (ap (λ (x : StopNo). x.0) e));
                            needed = h;
                            from_is = refl;
                            to_is = refl;
                            seconds_are = chain.0.reaches.distance;
                          }),
                    ))
              ]
        ]

    -- each transfer is listed, or other legs come first
    pub improve : (legs : List Leg) → IsChain n s d legs → (v : NodeNo) (next : Option StopNo) (r : ℕ)
        → Reaches n s d legs v r → AllListed list legs ⊎ IsBeaten n s d v next legs r
    improve [] chain v next r at = inl tt
    improve (leg ∷ []) chain v next r at = inl tt
    improve (last ∷ leg ∷ legs) chain v next r at =
        elim (improve (leg ∷ legs) chain.1 (node_of n last.on.stop) (Some last.on.stop) last.ready chain.0.reaches) [
          | inr b ↦ inr (beaten_before v next last (leg ∷ legs) r chain at b)
          | inl listed ↦
              elim (listed_or_beaten v next last leg legs r chain at) [
                | inl here ↦ inl (here, listed)
                | inr b ↦ inr b
              ]
        ]
