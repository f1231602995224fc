-- The walks and rides of a journey, as far as they are printed.
use Rattle.std.proofs.Common.{◌≡◌, ◌∙◌, ℕ, ◌+◌, ◌<◌, ◌≤◌, ◌^◌, inl, inr, List, [], ◌∷◌, ◌++◌, length, drop, get_or, refl, sym, ap, subst, arith, append_assoc, Some, length-drop}
use Rattle.std.specs.Prelude.{slice_get}
use Rattle.std.proofs.lemmas.List.{drop_more, drop_all}
use Rattle.move_model.specs.declared.network.Network.{Network}
use Rattle.move_model.specs.declared.network.NodeNo.{NodeNo}
use Rattle.move_model.specs.declared.network.Arc.{Arc}
use Rattle.move_model.specs.declared.network.Trip.{Trip}
use Rattle.move_model.specs.declared.network.Call.{Call}
use Rattle.move_model.specs.declared.journey.Ride.{Ride}
use Rattle.move_model.specs.declared.journey.Finding.{Finding}
use Rattle.move_model.specs.Streets.{Streets, IsLeastArc, IsWalk}
use Rattle.move_model.specs.Streets.IsWalk.{stays, goes}
use Rattle.move_model.specs.Network.{streets, node_of}
use Rattle.move_model.specs.Journey.{IsRide, Travels}
use Rattle.move_model.specs.Journey.Travels.{walks, rides}
use Rattle.journey_print.specs.Legs.{least_seconds, walk_record, walk_records, ride_record, ride_records, ride_between, call_at, arrival_at, left_at, leg_records, IsPrintable}
use Rattle.journey_print.proofs.ArcLemmas.{least_seconds_is}

-- at a place of a walk: what is left of it leads to its end, at the second at which it ends
pub record HasWalked (n : Network) (walk : List NodeNo) (b : NodeNo) (end i second : ℕ) : Type 0 where
  pub at : NodeNo
  pub left : ℕ
  pub is_walk : IsWalk (streets n) at (drop i walk) b left
  pub ends : second + left ≡ end

walk_first : {g : Streets} {a b : NodeNo} {vs : List NodeNo} {m : ℕ} (d : NodeNo) → IsWalk g a vs b m → get_or vs 0 d ≡ a
walk_first d (stays is) = refl
walk_first d (goes arc rest) = refl

record FirstArc (g : Streets) (v w : NodeNo) (vs : List NodeNo) (b : NodeNo) (m : ℕ) : Type 0 where
  seconds : ℕ
  left : ℕ
  arc : IsLeastArc g.arcs v w seconds
  rest : IsWalk g w (w ∷ vs) b left
  sum : m ≡ seconds + left

first_arc : {g : Streets} {a b v w : NodeNo} {vs : List NodeNo} {m : ℕ} → IsWalk g a (v ∷ (w ∷ vs)) b m → FirstArc g v w vs b m
first_arc {g} {b = b} {w = w} {vs = vs} (goes {a = a} {v = x} {l = l} {m = k} arc rest) =
    let e = walk_first w rest in
    record {
      seconds = l;
      left = k;
      arc = subst (λ y. IsLeastArc g.arcs a y l) (sym e) arc;
      rest = subst (λ y. IsWalk g y (w ∷ vs) b k) (sym e) rest;
      sum = refl;
    }

two_more : (walk : List NodeNo) (i : ℕ) (d : NodeNo) → i + 1 < length walk
    → drop i walk ≡ get_or walk i d ∷ (get_or walk (i + 1) d ∷ drop (i + 1 + 1) walk)
two_more walk i d within =
    drop_more walk i d (omega arith) ∙ ap (λ vs. get_or walk i d ∷ vs) (drop_more walk (i + 1) d within)

pub walk_on : (n : Network) (walk : List NodeNo) (b : NodeNo) (end i second ends : ℕ) (d : NodeNo) → i + 1 < length walk
    → HasWalked n walk b end i second → ends ≡ second + least_seconds n.arcs (get_or walk i d) (get_or walk (i + 1) d)
    → HasWalked n walk b end (i + 1) ends
walk_on n walk b end i second ends d within was is =
    let arc = first_arc (subst (λ vs. IsWalk (streets n) was.at vs b was.left) (two_more walk i d within) was.is_walk) in
    let e = least_seconds_is n.arcs (get_or walk i d) (get_or walk (i + 1) d) arc.seconds arc.arc in
    record {
      at = get_or walk (i + 1) d;
      left = arc.left;
      is_walk = subst (λ vs. IsWalk (streets n) (get_or walk (i + 1) d) vs b arc.left) (sym (drop_more walk (i + 1) d within)) arc.rest;
      ends = omega (arith, e, arc.sum, was.ends, is);
    }

node_eq : (a b : NodeNo) → a.0 ≡ b.0 → a ≡ b
node_eq a b e = ap (λ (k : ℕ). let v : NodeNo = record { 0 = k } in v) e

-- the rows from one place on are that of the arc there and those from the next place on
pub walk_records-drop : (q j : ℕ) (arcs : List Arc) (walk : List NodeNo) (i second ends : ℕ) (d from to : NodeNo) → i + 1 < length walk
    → from.0 ≡ (get_or walk i d).0 → to.0 ≡ (get_or walk (i + 1) d).0
    → ends ≡ second + least_seconds arcs (get_or walk i d) (get_or walk (i + 1) d)
    → walk_records q j arcs (drop i walk) second ≡ walk_record q j from second to ends ∷ walk_records q j arcs (drop (i + 1) walk) ends
walk_records-drop q j arcs walk i second ends d from to within from_is to_is is =
    let v = get_or walk i d in
    let w = get_or walk (i + 1) d in
    let after = ap (λ vs. walk_records q j arcs vs second) (two_more walk i d within)
    ∙ ap (λ vs. walk_record q j v second w (second + least_seconds arcs v w) ∷ walk_records q j arcs vs (second + least_seconds arcs v w))
    (sym (drop_more walk (i + 1) d within)) in
    subst (λ x. walk_records q j arcs (drop i walk) second ≡ walk_record q j x second to ends ∷ walk_records q j arcs (drop (i + 1) walk) ends) (sym (node_eq from v from_is))
    (subst (λ x. walk_records q j arcs (drop i walk) second ≡ walk_record q j v second x ends ∷ walk_records q j arcs (drop (i + 1) walk) ends) (sym (node_eq to w to_is))
    (subst (λ e. walk_records q j arcs (drop i walk) second ≡ walk_record q j v second w e ∷ walk_records q j arcs (drop (i + 1) walk) e) (sym is) after))

short_walk : (q j : ℕ) (arcs : List Arc) (vs : List NodeNo) (second : ℕ) → length vs ≤ 1 → walk_records q j arcs vs second ≡ []
short_walk q j arcs [] second few = refl
short_walk q j arcs (v ∷ []) second few = refl
short_walk q j arcs (v ∷ (w ∷ vs)) second few = absurd (omega arith)

pub walk_records-end : (q j : ℕ) (arcs : List Arc) (walk : List NodeNo) (i second : ℕ) → length walk ≤ i + 1
    → walk_records q j arcs (drop i walk) second ≡ []
walk_records-end q j arcs walk i second past = short_walk q j arcs (drop i walk) second (omega (arith, length-drop i walk))

-- the calls of a ride are those that stand at its places
some_same : {X : Type 0} (x y : X) → Some x ≡ Some y → x ≡ y
some_same x y e = cc

pub ride_calls : (n : Network) (ride : Ride) (on off : Call) (trip : Trip) (on' off' : Call) → IsRide n ride on off
    → Some trip ≡ slice_get n.trips ride.trip.0 → Some on' ≡ slice_get trip.calls ride.board → Some off' ≡ slice_get trip.calls ride.alight
    → (on ≡ on') × (off ≡ off')
ride_calls n ride on off trip on' off' is trip_is on_is off_is =
    let t = some_same is.boards.0 trip (sym is.boards.1 ∙ sym trip_is) in
    let u = some_same is.leaves.0 trip (sym is.leaves.1 ∙ sym trip_is) in (
      some_same on on' (sym is.boards.2 ∙ (ap (λ (x : Trip). slice_get x.calls ride.board) t ∙ sym on_is)),
      some_same off off' (sym is.leaves.2 ∙ (ap (λ (x : Trip). slice_get x.calls ride.alight) u ∙ sym off_is)),
    )

pub ride_records-is : (q j : ℕ) (n : Network) (ride : Ride) (trip : Trip) (on off : Call)
    → Some trip ≡ slice_get n.trips ride.trip.0 → Some on ≡ slice_get trip.calls ride.board → Some off ≡ slice_get trip.calls ride.alight
    → ride_records q j n ride ≡ ride_record q j n trip on off ∷ []
ride_records-is q j n ride trip on off trip_is on_is off_is =
    ap (λ o. ride_between q j n o (call_at o ride.board) (call_at o ride.alight)) (sym trip_is)
    ∙ (ap (λ o. ride_between q j n (Some trip) o (slice_get trip.calls ride.alight)) (sym on_is)
    ∙ ap (λ o. ride_between q j n (Some trip) (Some on) o) (sym off_is))

left_at_is : (n : Network) (ride : Ride) (on off : Call) → IsRide n ride on off → left_at n ride ≡ off.arr
left_at_is n ride on off is =
    ap (λ o. arrival_at (call_at o ride.alight)) is.leaves.1 ∙ ap arrival_at is.leaves.2

-- at a place of a journey: what is left of it leads to its end
pub record OnWay (n : Network) (ws : List (List NodeNo)) (rs : List Ride) (t : NodeNo) (arrive i second : ℕ) : Type 0 where
  pub at : NodeNo
  pub travels : Travels n at second (drop i ws) (drop i rs) t arrive

-- the first leg of what is left, and the rest
pub record FirstLeg (n : Network) (p : NodeNo) (second : ℕ) (walk : List NodeNo) (ride : Ride) (ws : List (List NodeNo)) (rs : List Ride)
    (t : NodeNo) (arrive : ℕ) : Type 0 where
  pub on : Call
  pub off : Call
  pub seconds : ℕ
  pub is_walk : IsWalk (streets n) p walk (node_of n on.stop) seconds
  pub is_ride : IsRide n ride on off
  pub in_time : second + seconds ≤ on.dep
  pub left : left_at n ride ≡ off.arr
  pub rest : Travels n (node_of n off.stop) off.arr ws rs t arrive

first_leg : {n : Network} {p t : NodeNo} {r arrive : ℕ} {walk : List NodeNo} {ride : Ride} {ws : List (List NodeNo)} {rs : List Ride}
    → Travels n p r (walk ∷ ws) (ride ∷ rs) t arrive → FirstLeg n p r walk ride ws rs t arrive
first_leg {n} {ride = ride} (rides {m = m} {on = on} {off = off} is_walk is_ride in_time rest) =
    record {
      on = on;
      off = off;
      seconds = m;
      is_walk = is_walk;
      is_ride = is_ride;
      in_time = omega (arith, in_time);
      left = left_at_is n ride on off is_ride;
      rest = rest;
    }

pub record LastWalk (n : Network) (p : NodeNo) (second : ℕ) (walk : List NodeNo) (ws : List (List NodeNo)) (t : NodeNo) (arrive : ℕ) : Type 0 where
  pub seconds : ℕ
  pub is_walk : IsWalk (streets n) p walk t seconds
  pub in_time : second + seconds ≡ arrive

last_walk : {n : Network} {p t : NodeNo} {r arrive : ℕ} {walk : List NodeNo} {ws : List (List NodeNo)}
    → Travels n p r (walk ∷ ws) [] t arrive → LastWalk n p r walk ws t arrive
last_walk (walks {m = m} is) = record { seconds = m; is_walk = is; in_time = refl }

module _ (n : Network) (ws : List (List NodeNo)) (rs : List Ride) (i second : ℕ) (walk : List NodeNo) (d : Ride)
    (within_walks : i < length ws) (walk_is : walk ≡ get_or ws i walk) where
  walk_there : drop i ws ≡ walk ∷ drop (i + 1) ws
  walk_there = drop_more ws i walk within_walks ∙ ap (λ vs. vs ∷ drop (i + 1) ws) (sym walk_is)

  module _ (within : i < length rs) where
    pub leg_at : (t : NodeNo) (arrive : ℕ) (was : OnWay n ws rs t arrive i second)
        → FirstLeg n was.at second walk (get_or rs i d) (drop (i + 1) ws) (drop (i + 1) rs) t arrive
    leg_at t arrive was =
        first_leg (subst (λ vs. Travels n was.at second vs (get_or rs i d ∷ drop (i + 1) rs) t arrive) walk_there
        (subst (λ us. Travels n was.at second (drop i ws) us t arrive) (drop_more rs i d within) was.travels))

    -- the rows from one leg on are those of the leg and those from the next leg on
    pub leg_records-drop : (q j : ℕ) (left : ℕ) → left_at n (get_or rs i d) ≡ left
        → leg_records q j n (drop i ws) (drop i rs) second
        ≡ (walk_records q j n.arcs walk second ++ ride_records q j n (get_or rs i d)) ++ leg_records q j n (drop (i + 1) ws) (drop (i + 1) rs) left
    leg_records-drop q j left left_is =
        ap (λ vs. leg_records q j n vs (drop i rs) second) walk_there
        ∙ (ap (λ us. leg_records q j n (walk ∷ drop (i + 1) ws) us second) (drop_more rs i d within)
        ∙ (sym (append_assoc (walk_records q j n.arcs walk second) (ride_records q j n (get_or rs i d)) _)
        ∙ ap (λ k. (walk_records q j n.arcs walk second ++ ride_records q j n (get_or rs i d)) ++ leg_records q j n (drop (i + 1) ws) (drop (i + 1) rs) k) left_is))

  module _ (past : length rs ≤ i) where
    pub walk_at : (t : NodeNo) (arrive : ℕ) (was : OnWay n ws rs t arrive i second)
        → LastWalk n was.at second walk (drop (i + 1) ws) t arrive
    walk_at t arrive was =
        last_walk (subst (λ vs. Travels n was.at second vs [] t arrive) walk_there
        (subst (λ us. Travels n was.at second (drop i ws) us t arrive) (drop_all i rs past) was.travels))

    pub leg_records-end : (q j : ℕ) → leg_records q j n (drop i ws) (drop i rs) second ≡ walk_records q j n.arcs walk second
    leg_records-end q j =
        ap (λ vs. leg_records q j n vs (drop i rs) second) walk_there
        ∙ ap (λ us. leg_records q j n (walk ∷ drop (i + 1) ws) us second) (drop_all i rs past)

-- a journey has one walk more than rides
pub travels_shape : {n : Network} {p t : NodeNo} {r arrive : ℕ} {ws : List (List NodeNo)} {rs : List Ride}
    → Travels n p r ws rs t arrive → length ws ≡ length rs + 1
travels_shape (walks is) = refl
travels_shape (rides is is_ride in_time rest) = omega (arith, travels_shape rest)

pub arrival_fits : (n : Network) (finding : Finding) → (is : IsPrintable n finding) → finding.pair.arrive < 2 ^ 64 → is.arrive < 2 ^ 64
arrival_fits n finding is small = elim is.within [ inl no_later ↦ omega (arith, no_later, small) | inr fits ↦ fits ]
