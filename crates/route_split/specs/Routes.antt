-- The routes of a day's trips: a partition of the trips in which no trip overtakes another.
--     HaveSamePlaces cs ds       the calls have equal stops and equal flags, one by one
--     IsNoLater cs ds            no arrival and no departure of cs is after that of ds at the same call
--     IsIn groups t g p          the trip t has place p in the g-th group
--     IsPartition trips groups   each trip has one place in one group, and no group is empty
--     IsOneRoute trips group     the trips of a route: their numbers rise, their places are equal, no second falls
--     AreAlike trips g h         some trip of the one and some trip of the other have equal places
--     AreApart trips g h         of some trip of the one and some trip of the other neither is no later
--     AreRoutes trips groups     the groups are the routes of the trips
use Rattle.std.specs.Prelude.{◌≡◌, ◌≢◌, ℕ, ◌<◌, ◌≤◌, List, map, length, slice_get, Some}
use Rattle.move_model.specs.declared.network.TripNo.{TripNo}
use Rattle.move_model.specs.declared.network.Trip.{Trip}
use Rattle.move_model.specs.declared.network.Call.{Call}
use Rattle.route_split.specs.declared.place.Place.{Place}

abbrev pub place_of : Call → Place
place_of call = record { stop = call.stop; board = call.board; alight = call.alight }

abbrev pub HaveSamePlaces : List Call → List Call → Type 0
HaveSamePlaces cs ds = map place_of cs ≡ map place_of ds

abbrev pub IsNoLater : List Call → List Call → Type 0
IsNoLater cs ds = (k : ℕ) (c d : Call) → slice_get cs k ≡ Some c → slice_get ds k ≡ Some d → (c.arr ≤ d.arr) × (c.dep ≤ d.dep)

-- the trip with this number has a place in the group
pub record IsTripIn (trips : List Trip) (group : List TripNo) (p : ℕ) (t : TripNo) (trip : Trip) : Type 0 where
  pub at_place : slice_get group p ≡ Some t
  pub is_trip : slice_get trips t.0 ≡ Some trip

pub record IsIn (groups : List (List TripNo)) (t : TripNo) (g p : ℕ) : Type 0 where
  pub group : List TripNo
  pub is_group : slice_get groups g ≡ Some group
  pub at_place : slice_get group p ≡ Some t

pub record IsPartition (trips : List Trip) (groups : List (List TripNo)) : Type 0 where
  pub none_empty : (g : ℕ) (group : List TripNo) → slice_get groups g ≡ Some group → 0 < length group
  pub exist : (t : TripNo) (g p : ℕ) → IsIn groups t g p → t.0 < length trips
  pub somewhere : (t : TripNo) → t.0 < length trips → (g : ℕ) × (p : ℕ) × IsIn groups t g p
  pub once : (t : TripNo) (g p h q : ℕ) → IsIn groups t g p → IsIn groups t h q → (g ≡ h) × (p ≡ q)

pub record IsOneRoute (trips : List Trip) (group : List TripNo) : Type 0 where
  pub rise : (p q : ℕ) (t u : TripNo) → p < q → slice_get group p ≡ Some t → slice_get group q ≡ Some u → t.0 < u.0
  pub same_places : (p q : ℕ) (t u : TripNo) (a b : Trip) → p < q → IsTripIn trips group p t a → IsTripIn trips group q u b
      → HaveSamePlaces a.calls b.calls
  pub never_overtaken : (p q : ℕ) (t u : TripNo) (a b : Trip) → p < q → IsTripIn trips group p t a → IsTripIn trips group q u b
      → IsNoLater a.calls b.calls

pub record AreAlike (trips : List Trip) (group other : List TripNo) : Type 0 where
  pub p : ℕ
  pub q : ℕ
  pub t : TripNo
  pub u : TripNo
  pub a : Trip
  pub b : Trip
  pub of_group : IsTripIn trips group p t a
  pub of_other : IsTripIn trips other q u b
  pub same_places : HaveSamePlaces a.calls b.calls

pub record AreApart (trips : List Trip) (group other : List TripNo) : Type 0 where
  pub p : ℕ
  pub q : ℕ
  pub t : TripNo
  pub u : TripNo
  pub a : Trip
  pub b : Trip
  pub of_group : IsTripIn trips group p t a
  pub of_other : IsTripIn trips other q u b
  pub not_before : ¬ IsNoLater a.calls b.calls
  pub not_after : ¬ IsNoLater b.calls a.calls

pub record AreRoutes (trips : List Trip) (groups : List (List TripNo)) : Type 0 where
  pub partition : IsPartition trips groups
  pub each_route : (g : ℕ) (group : List TripNo) → slice_get groups g ≡ Some group → IsOneRoute trips group
  pub apart : (g h : ℕ) (group other : List TripNo) → g ≢ h → slice_get groups g ≡ Some group → slice_get groups h ≡ Some other
      → AreAlike trips group other → AreApart trips group other
