-- Each journey has one of listed transfers that is as listed_legs in both parts, over the list of all shortcuts: by induction
-- on the number of rides and then on the marks, and by the way back from legs to a journey.
use Rattle.std.proofs.Common.{◌≡◌, ℕ, suc, ◌+◌, ◌*◌, ◌<◌, ◌≤◌, ◌⊎◌, List, [], ◌∷◌, length, refl, sym, subst, inl, inr, arith, Option, Some, None}
use Rattle.std.specs.Prelude.{Contains}
use Rattle.move_model.specs.declared.network.Network.{Network}
use Rattle.move_model.specs.declared.network.NodeNo.{NodeNo}
use Rattle.move_model.specs.declared.network.StopNo.{StopNo}
use Rattle.move_model.specs.declared.network.Call.{Call}
use Rattle.move_model.specs.declared.journey.Ride.{Ride}
use Rattle.move_model.specs.declared.journey.Shortcut.{Shortcut}
use Rattle.move_model.specs.Network.{IsNetwork, node_of}
use Rattle.move_model.specs.Journey.{IsRide, Travels}
use Rattle.move_model.specs.Journey.Travels.{walks, rides}
use Rattle.move_model.specs.Shortcut.{IsLess, IsShortcutList, TransferListed, TransfersListed, Suffices}
use Rattle.pareto_laws.specs.TransferList.{HoldsDistances}
use Rattle.pareto_laws.proofs.Lexicographic.{strong_induction, lex_induction}
use Rattle.pareto_laws.proofs.Calls.{on_same, off_same}
use Rattle.pareto_laws.proofs.Legs.{Leg, place, since, Reaches, IsChain, marks, StaysOrListed, AllListed, least_legs, reach_from}
use Rattle.pareto_laws.proofs.Exchange.{improve}

length-marks : (next : Option StopNo) (legs : List Leg) → length (marks next legs) ≡ 5 * length legs
length-marks next [] = refl
length-marks next (leg ∷ legs) = omega (arith, length-marks (Some leg.on.stop) legs)

module _ (n : Network) (ok : IsNetwork n) (s : NodeNo) (d : ℕ) (list : List Shortcut) (lists : IsShortcutList n list) (t : NodeNo) where
  -- legs of listed transfers that lead to t, no later than `arrive` and at most `many`
  pub record HasListedLegs (arrive many : ℕ) : Type 0 where
    pub legs : List Leg
    pub chain : IsChain n s d legs
    pub second : ℕ
    pub reaches : Reaches n s d legs t second
    pub no_later : second ≤ arrive
    pub no_more : length legs ≤ many
    pub listed : AllListed list legs

  HasListedLegs-more : (arrive many later more : ℕ) → HasListedLegs arrive many → arrive ≤ later → many ≤ more → HasListedLegs later more
  HasListedLegs-more arrive many later more g h k =
      record {
        legs = g.legs;
        chain = g.chain;
        second = g.second;
        reaches = g.reaches;
        listed = g.listed;
        no_later = omega (arith, g.no_later);
        no_more = omega (arith, g.no_more);
      }

  abbrev pub Claim : ℕ → Type 0
  Claim k = (legs : List Leg) → length legs ≡ k → IsChain n s d legs → (r : ℕ) → Reaches n s d legs t r → HasListedLegs r k

  pub listed_legs : (k : ℕ) → Claim k
  listed_legs = strong_induction Claim (λ k fewer legs e chain r at. by_marks k fewer (r ∷ marks None legs) (omega (arith, length-marks None legs)) legs e chain r at refl)
    where
      by_marks : (k : ℕ) → ((j : ℕ) → j < k → Claim j) → (xs : List ℕ) → length xs ≡ suc (5 * k)
          → (legs : List Leg) → length legs ≡ k → IsChain n s d legs → (r : ℕ) → Reaches n s d legs t r → r ∷ marks None legs ≡ xs → HasListedLegs r k
      by_marks k fewer =
          lex_induction (suc (5 * k))
          (λ xs. (legs : List Leg) → length legs ≡ k → IsChain n s d legs → (r : ℕ) → Reaches n s d legs t r → r ∷ marks None legs ≡ xs → HasListedLegs r k)
          (λ xs l less legs e chain r at is.
          elim (improve n ok s d list lists legs chain t None r at) [
            | inl listed ↦ record { legs = legs; chain = chain; second = r; reaches = at; no_later = omega arith; no_more = omega arith; listed = listed }
            | inr b ↦ elim b.falls [
              | inl few ↦
                  HasListedLegs-more b.second (length b.others) r k
                  (fewer (length b.others) (omega (arith, few)) b.others refl b.chain b.second b.reaches)
                  b.no_later (omega (arith, few))
              | inr h ↦
                  HasListedLegs-more b.second k r k
                  (less (b.second ∷ marks None b.others) (omega (arith, length-marks None b.others, h.0))
                  (subst (λ ys. IsLess (b.second ∷ marks None b.others) ys) is h.1) b.others (omega (arith, h.0)) b.chain b.second b.reaches refl)
                  b.no_later (omega arith)
            ]
          ])

  -- what stays or is listed between legs is so between their rides
  transfer_of : (leg next : Leg) → IsRide n leg.ride leg.on leg.off → IsRide n next.ride next.on next.off → StaysOrListed list leg next
      → TransferListed n list leg.ride next.ride
  transfer_of leg next is is_next h on off on' off' ride ride' =
      let e = off_same n leg.ride leg.on leg.off on off is ride in
      let f = on_same n next.ride next.on next.off on' off' is_next ride' in
      subst
      (λ (c : Call). (c.stop ≡ on'.stop) ⊎ ((m : ℕ) × Contains list (record { from = c.stop; to = on'.stop; seconds = m })))
      e
      (subst
      (λ (c : Call). (leg.off.stop ≡ c.stop) ⊎ ((m : ℕ) × Contains list (record { from = leg.off.stop; to = c.stop; seconds = m })))
      f h)

  -- a journey of these rides from the start
  record IsJourneyOf (arrive many : ℕ) : Type 0 where
    all_walks : List (List NodeNo)
    all_rides : List Ride
    travels : Travels n s d all_walks all_rides t arrive
    count : length all_rides ≡ many
    transfers : TransfersListed n list all_rides

  back : (legs : List Leg) (leg : Leg) → IsChain n s d (leg ∷ legs) → AllListed list (leg ∷ legs) → (arrive : ℕ)
      (ws : List (List NodeNo)) (rs : List Ride) → Travels n (place n s (leg ∷ legs)) (since d (leg ∷ legs)) ws rs t arrive
      → TransfersListed n list (leg.ride ∷ rs) → IsJourneyOf arrive (length (leg ∷ legs) + length rs)
  back [] leg chain listed arrive ws rs further transfers =
      let goes = chain.0 in
      record {
        all_walks = goes.reaches.distance.attained.0 ∷ ws;
        all_rides = leg.ride ∷ rs;
        travels = rides goes.reaches.distance.attained.1 goes.is_ride (omega (arith, goes.in_time, goes.reaches.second_is)) further;
        count = omega arith;
        transfers = transfers;
      }
  back (prev ∷ legs) leg chain listed arrive ws rs further transfers =
      let goes = chain.0 in
      let made = back legs prev chain.1 listed.1 arrive (goes.reaches.distance.attained.0 ∷ ws) (leg.ride ∷ rs)
      (rides goes.reaches.distance.attained.1 goes.is_ride (omega (arith, goes.in_time, goes.reaches.second_is)) further)
      (transfer_of prev leg chain.1.0.is_ride goes.is_ride listed.0, transfers) in
      record { all_walks = made.all_walks; all_rides = made.all_rides; travels = made.travels; count = omega (arith, made.count); transfers = made.transfers }

  journey_of : (legs : List Leg) → IsChain n s d legs → AllListed list legs → (r : ℕ) → Reaches n s d legs t r → IsJourneyOf r (length legs)
  journey_of [] chain listed r at =
      record {
        all_walks = at.distance.attained.0 ∷ [];
        all_rides = [];
        travels = subst (λ k. Travels n s d (at.distance.attained.0 ∷ []) [] t k) (sym at.second_is) (walks at.distance.attained.1);
        count = refl;
        transfers = tt;
      }
  journey_of (leg ∷ legs) chain listed r at =
      let made = back legs leg chain listed r (at.distance.attained.0 ∷ []) []
      (subst (λ k. Travels n (node_of n leg.off.stop) leg.off.arr (at.distance.attained.0 ∷ []) [] t k) (sym at.second_is) (walks at.distance.attained.1))
      tt in
      record { all_walks = made.all_walks; all_rides = made.all_rides; travels = made.travels; count = omega (arith, made.count); transfers = made.transfers }

pub shortcuts_suffice : (n : Network) (list : List Shortcut) → IsNetwork n → IsShortcutList n list → Suffices n list
shortcuts_suffice n list ok lists s t journey arrive is =
    let d : ℕ = journey.depart in
    let start = least_legs n ok s d is [] tt (reach_from n ok s d []) in
    let g = listed_legs n ok s d list lists t (length start.legs) start.legs refl start.chain start.second start.reaches in
    let made = journey_of n ok s d list lists t g.legs g.chain g.listed g.second g.reaches in
    record {
      journey = record { depart = d; walks = made.all_walks; rides = made.all_rides };
      arrives = g.second;
      departs = refl;
      leads = made.travels;
      no_later = omega (arith, g.no_later, start.no_later);
      no_more = omega (arith, made.count, g.no_more, start.count);
      listed = made.transfers;
    }

pub shortcuts_hold_distances : (n : Network) (list : List Shortcut) → IsShortcutList n list → HoldsDistances n list
shortcuts_hold_distances n list lists entry h = ((lists.exact entry).0 h).seconds_are
