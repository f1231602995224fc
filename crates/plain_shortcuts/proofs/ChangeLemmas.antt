-- Two rides with a walk between them.
use Rattle.std.proofs.Common.{◌≡◌, ℕ, ◌+◌, ◌<◌, ◌≤◌, ◌⊎◌, List, Some, None, length, slice_get, refl, sym, ap, ◌∙◌, subst, inl, inr, arith}
use Rattle.std.specs.Prelude.{◌↔◌, Contains, Option}
use Rattle.move_model.specs.declared.network.Network.{Network}
use Rattle.move_model.specs.declared.network.StopNo.{StopNo}
use Rattle.move_model.specs.Check.{KeepsRules}
use Rattle.move_model.specs.Streets.{IsDistance, HasDistance}
use Rattle.move_model.specs.Network.{IsNetwork, streets, node_of, IsStopDistance}
use Rattle.pareto_laws.proofs.Distances.{distance_same}
use Rattle.pareto_laws.proofs.DistanceBound.{distance_within_limits}
use Rattle.pareto_laws.proofs.Calls.{on_stands, off_stands}
use Rattle.plain_shortcuts.specs.declared.rides.RideCalls.{RideCalls}
use Rattle.plain_shortcuts.specs.declared.changes.Change.{Change}
use Rattle.plain_shortcuts.specs.Rides.{IsRideOf, AreRides}
use Rattle.plain_shortcuts.specs.Walks.{HoldsWalks, walk_between, IsCaughtBy}
use Rattle.plain_shortcuts.specs.Changes.{IsChange, StandsAtStops}
use Rattle.plain_shortcuts.proofs.Lists.{StandsBelow, below_more, below_all}

-- no distance passes the limit
pub walk_short : (n : Network) (x y : StopNo) (m : ℕ) → KeepsRules n → IsStopDistance n x y m → m < 2000000000000
walk_short n x y m rules is =
    distance_within_limits (streets n) rules.network.streets_join rules.has_nodes.1 rules.arcs_short (node_of n x) (node_of n y) m is

-- what a row says of two stops
pub walk_some : (n : Network) (walks : List (List (Option ℕ))) (x y : StopNo) (m : ℕ) → HoldsWalks n walks → x.0 < length n.stops
    → Some m ≡ walk_between n walks x y → IsStopDistance n x y m
walk_some n walks x y m holds low e =
    subst (λ (r : Option ℕ). HasDistance (streets n) (node_of n x) (node_of n y) r) (sym e) ((holds.distances x low).distances (node_of n y))

pub walk_none : (n : Network) (walks : List (List (Option ℕ))) (x y : StopNo) (m : ℕ) → HoldsWalks n walks → x.0 < length n.stops
    → None ≡ walk_between n walks x y → IsStopDistance n x y m → ⊥
walk_none n walks x y m holds low e is =
    subst (λ (r : Option ℕ). HasDistance (streets n) (node_of n x) (node_of n y) r) (sym e) ((holds.distances x low).distances (node_of n y)) is.attained.0 m is.attained.1

-- the stops of a change exist
pub change_stands : (n : Network) (u : StopNo) (z : ℕ) (c : Change) → IsNetwork n → IsChange n u z c → StandsAtStops n c
change_stands n u z c ok is = record {
  left_first = off_stands n ok c.first.ride c.first.on c.first.off is.first_ride;
  boarded_second = on_stands n ok c.second.ride c.second.on c.second.off is.second_ride;
  left_second = off_stands n ok c.second.ride c.second.on c.second.off is.second_ride;
}

-- two rides make one change at most
pub one_change : (n : Network) (u : StopNo) (z : ℕ) (c d : Change) → IsChange n u z c → IsChange n u z d → c.first ≡ d.first → c.second ≡ d.second → c ≡ d
one_change n u z c d is also first second =
    let between : IsStopDistance n d.first.off.stop d.second.on.stop is.walk2 =
    subst (λ (r : RideCalls). IsStopDistance n r.off.stop d.second.on.stop is.walk2) first
    (subst (λ (r : RideCalls). IsStopDistance n c.first.off.stop r.on.stop is.walk2) second is.between) in
    let walks = distance_same between also.between in
    let arrives : c.first.off.arr ≡ d.first.off.arr = ap (λ (r : RideCalls). r.off.arr) first in
    let ready : c.ready ≡ d.ready = omega (arith, is.ready_is, also.ready_is, walks, arrives) in
    λ i. record { first = first i; second = second i; ready = ready i }

-- no change where one of its rides can't be caught
pub no_first : (n : Network) (u : StopNo) (z : ℕ) (c : Change) (first : RideCalls) → ((m : ℕ) → IsCaughtBy n u z first.on m → ⊥) → IsChange n u z c → c.first ≡ first → ⊥
no_first n u z c first none is from =
    none is.walk1 (subst (λ (r : RideCalls). IsCaughtBy n u z r.on is.walk1) from (record { to_it = is.to_first; in_time = is.in_time1 }))

pub no_second : (n : Network) (u : StopNo) (z : ℕ) (c : Change) (first next : RideCalls) → ((m : ℕ) → IsCaughtBy n first.off.stop first.off.arr next.on m → ⊥)
    → IsChange n u z c → c.first ≡ first → c.second ≡ next → ⊥
no_second n u z c first next none is from to =
    let here : IsCaughtBy n c.first.off.stop c.first.off.arr c.second.on is.walk2 = record { to_it = is.between; in_time = omega (arith, is.in_time2, is.ready_is) } in
    none is.walk2 (subst (λ (r : RideCalls). IsCaughtBy n first.off.stop first.off.arr r.on is.walk2) to
    (subst (λ (r : RideCalls). IsCaughtBy n r.off.stop r.off.arr c.second.on is.walk2) from here))

-- the changes from one first ride to one of the first k rides
abbrev pub ChangesTo : Network → StopNo → ℕ → RideCalls → List RideCalls → ℕ → Change → Type 0
ChangesTo n u z first rides k c = IsChange n u z c × (c.first ≡ first) × StandsBelow rides k c.second

module _ (n : Network) (u : StopNo) (z : ℕ) (first : RideCalls) (rides : List RideCalls) (k : ℕ) (next : RideCalls) (is_next : slice_get rides k ≡ Some next) where
  pub changes_more : (c d : Change) → IsChange n u z c → c.first ≡ first → c.second ≡ next
      → ChangesTo n u z first rides (k + 1) d ↔ (ChangesTo n u z first rides k d ⊎ (c ≡ d))
  changes_more c d is at to = (
    λ (has, from, below). elim ((below_more rides k next d.second is_next).0 below) [
      | inl low ↦ inl (has, from, low)
      | inr e ↦ inr (one_change n u z c d is has (at ∙ sym from) (to ∙ e))
    ],
    λ h. elim h [
      | inl (has, from, low) ↦ (has, from, (below_more rides k next d.second is_next).1 (inl low))
      | inr e ↦
          subst (λ (x : Change). ChangesTo n u z first rides (k + 1) x) e (is, at, (below_more rides k next c.second is_next).1 (inr (sym to)))
    ],
  )

  pub changes_none : (d : Change) → ((c : Change) → IsChange n u z c → c.first ≡ first → c.second ≡ next → ⊥)
      → ChangesTo n u z first rides (k + 1) d ↔ ChangesTo n u z first rides k d
  changes_none d none = (
    λ (has, from, below). elim ((below_more rides k next d.second is_next).0 below) [
      | inl low ↦ (has, from, low)
      | inr e ↦ absurd (none d has from (sym e))
    ],
    λ (has, from, low). (has, from, (below_more rides k next d.second is_next).1 (inl low)),
  )

pub changes_all : (n : Network) (u : StopNo) (z : ℕ) (first : RideCalls) (rides : List RideCalls) (k : ℕ) (c : Change) → AreRides n rides → length rides ≤ k
    → (IsChange n u z c × (c.first ≡ first)) ↔ ChangesTo n u z first rides k c
changes_all n u z first rides k c are all = (
  λ (is, from). (is, from, below_all rides c.second k all ((are c.second).1 is.second_ride)),
  λ (is, from, below). (is, from),
)

-- the changes from one of the first k rides
abbrev pub ChangesBelow : Network → StopNo → ℕ → List RideCalls → ℕ → Change → Type 0
ChangesBelow n u z rides k c = IsChange n u z c × StandsBelow rides k c.first

pub below_change : (n : Network) (u : StopNo) (z : ℕ) (rides : List RideCalls) (k : ℕ) (next : RideCalls) (c : Change) → slice_get rides k ≡ Some next
    → ChangesBelow n u z rides (k + 1) c ↔ (ChangesBelow n u z rides k c ⊎ (IsChange n u z c × (c.first ≡ next)))
below_change n u z rides k next c is_next = (
  λ (is, below). elim ((below_more rides k next c.first is_next).0 below) [ inl low ↦ inl (is, low) | inr e ↦ inr (is, sym e) ],
  λ h. elim h [
    | inl (is, low) ↦ (is, (below_more rides k next c.first is_next).1 (inl low))
    | inr (is, e) ↦ (is, (below_more rides k next c.first is_next).1 (inr (sym e)))
  ],
)

pub below_changes : (n : Network) (u : StopNo) (z : ℕ) (rides : List RideCalls) (k : ℕ) (c : Change) → AreRides n rides → length rides ≤ k
    → IsChange n u z c ↔ ChangesBelow n u z rides k c
below_changes n u z rides k c are all = (λ is. (is, below_all rides c.first k all ((are c.first).1 is.first_ride)), λ (is, below). is)
