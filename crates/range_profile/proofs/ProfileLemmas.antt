-- What departures and the stops of each second give, and the answer.
use Rattle.std.proofs.Common.{◌≡◌, ℕ, zero, suc, ◌+◌, ◌-◌, ◌*◌, ◌/◌, ◌<◌, ◌≤◌, ◌⊎◌, inl, inr, List, [], ◌∷◌, length, get_or, refl, sym, ap, subst, arith, Option, Some}
use Rattle.std.specs.Prelude.{slice_get, slice_index, Contains, Result, IfOk}
use Rattle.std.proofs.lemmas.Result.{IfOk-weaker}
use Rattle.std.specs.List.{AllAdjacentBelow}
use Rattle.std.proofs.lemmas.Option.{slice_get_within}
use Rattle.pareto_laws.proofs.LeastArcs.{Contains-here, Contains-later, Contains-cons_cases}
use Rattle.std.specs.declared.alloc.Global.{Global}
use Rattle.std.specs.declared.vec.Vec.{Vec}
use Rattle.move_model.specs.declared.network.Network.{Network}
use Rattle.move_model.specs.declared.network.Call.{Call}
use Rattle.move_model.specs.declared.network.Trip.{Trip}
use Rattle.move_model.specs.declared.network.TripNo.{TripNo}
use Rattle.move_model.specs.declared.network.StopNo.{StopNo}
use Rattle.move_model.specs.Range.{IsCatch, AreDepartures}
use Rattle.std.proofs.Math.Nat.{mul-le-mul_left}
use Rattle.route_split.specs.Table.{Table}
use Rattle.route_split.specs.Calls.{HoldsTrips, call_of}
use Rattle.range_lanes.specs.Hits.{IsCaughtAmong}
use Rattle.range_profile.specs.Seeds.{HasSeed}
use Rattle.range_search.specs.Search.{IsRowCaught}
use Rattle.range_profile.specs.Window.{SeedsWindow}
use Rattle.range_profile.proofs.WindowLemmas.{falls}

abbrev Falling : List ℕ → Type 0
Falling ds = AllAdjacentBelow (λ a b. b < a) ds (length ds)

some_at : {X : Type 0} (xs : List X) (k : ℕ) → k < length xs → (x : X) × (slice_get xs k ≡ Some x)
some_at [] k lt = absurd (omega (arith, lt))
some_at (x ∷ xs) zero lt = (x, refl)
some_at (x ∷ xs) (suc k) lt = some_at xs k (omega (arith, lt))

read_at : (ds : List ℕ) (j d : ℕ) → j < length ds → get_or ds j d ≡ d → slice_index ds j ≡ d
read_at [] j d lt e = absurd (omega (arith, lt))
read_at (x ∷ ds) zero d lt e = e
read_at (x ∷ ds) (suc j) d lt e = read_at ds j d (omega (arith, lt)) e

falling_rest : (x : ℕ) (xs : List ℕ) → Falling (x ∷ xs) → Falling xs
falling_rest x xs falling k d lt =
    let e : suc k + 1 ≡ suc (k + 1) = omega arith in
    subst (λ j. get_or (x ∷ xs) j d < get_or xs k d) e (falling (suc k) d (omega (arith, lt)))

below_first : (x : ℕ) (xs : List ℕ) → Falling (x ∷ xs) → (d : ℕ) → Contains xs d → d < x
below_first x xs falling d has =
    let e : slice_index xs has.0 ≡ d = read_at xs has.0 d has.1 has.2 in
    omega (arith, falls (x ∷ xs) falling 0 (suc has.0) (omega arith) (omega (arith, has.1)), e)

-- a falling list whose numbers another has is no longer
pub no_longer : (xs ys : List ℕ) → Falling xs → Falling ys → ((d : ℕ) → Contains xs d → Contains ys d) → length xs ≤ length ys
no_longer [] ys falling falling' within = omega arith
no_longer (x ∷ xs) [] falling falling' within = absurd (omega (arith, (within x (Contains-here x xs)).1))
no_longer (x ∷ xs) (y ∷ ys) falling falling' within =
    let low : x ≤ y = elim (Contains-cons_cases y ys x (within x (Contains-here x xs))) [
      | inl e ↦ omega (arith, e)
      | inr later ↦ omega (arith, below_first y ys falling' x later)
    ] in
    omega (
      arith,
      no_longer xs ys (falling_rest x xs falling) (falling_rest y ys falling') (λ d has.
          elim (Contains-cons_cases y ys d (within d (Contains-later x xs d has))) [
            | inl e ↦ absurd (omega (arith, e, low, below_first x xs falling d has))
            | inr later ↦ later
          ]),
    )

pub departures_same : (n : Network) (row : List (Option ℕ)) (first last : ℕ) (xs ys : List ℕ) → AreDepartures n row first last xs → AreDepartures n row first last ys → length xs ≤ length ys
departures_same n row first last xs ys are are' = no_longer xs ys are.falling are'.falling (λ d has. (are'.exact d).1 ((are.exact d).0 has))

pub departures_start : (n : Network) (row : List (Option ℕ)) (first last : ℕ) (ds : List ℕ) → AreDepartures n row first last ds → slice_get ds 0 ≡ Some last
departures_start n row first last ds are = go ds are.falling ((are.exact last).1 (inl refl)) (λ d has. low d ((are.exact d).0 has))
  where
    low : (d : ℕ) → (d ≡ last) ⊎ ((first ≤ d) × (d ≤ last) × IsCatch n row d) → d ≤ last
    low d (inl e) = omega (arith, e)
    low d (inr h) = h.1

    go : (ds : List ℕ) → Falling ds → Contains ds last → ((d : ℕ) → Contains ds d → d ≤ last) → slice_get ds 0 ≡ Some last
    go [] falling has all = absurd (omega (arith, has.1))
    go (x ∷ ds) falling has all = elim (Contains-cons_cases x ds last has) [
      | inl e ↦ ap (λ v. Some v) e
      | inr later ↦ absurd (omega (arith, below_first x ds falling last later, all x (Contains-here x ds)))
    ]

-- a row that is just caught is a trip's call that is just caught
record RowCall (row : List (Option ℕ)) (buffer : ℕ) (trips : List Trip) (d : ℕ) (stop : StopNo) : Type 0 where
  caught : IsCaughtAmong row buffer trips (length trips) d
  stop_is : caught.caught.call.stop ≡ stop

row_among : (table : Table) (trips : List Trip) (row : List (Option ℕ)) (d : ℕ) (stop : StopNo) → HoldsTrips trips table.routes → IsRowCaught table row d stop
    → RowCall row table.buffer trips d stop
row_among table trips row d stop holds c =
    let no : (x : TripNo) × (slice_get c.route.trips c.p ≡ Some x) = some_at c.route.trips c.p c.is_row in
    let is_row = holds.rows_are c.r c.route c.is_route c.p no.0 no.1 in
    record {
      caught = record {
        place = no.0.0;
        early = slice_get_within trips no.0.0 is_row.trip is_row.is_trip;
        trip = is_row.trip;
        is_trip = is_row.is_trip;
        caught = record {
          place = c.i;
          early = omega (arith, c.goes_on, is_row.as_many);
          call = call_of c.route c.p c.i c.place;
          is_call = is_row.calls_are c.i c.place c.is_place;
          caught = record { may_board = c.may_board; seconds = c.seconds; walk = c.walk; departs = c.departs };
        };
      };
      stop_is = c.stop_is;
    }

catch_of : (n : Network) (row : List (Option ℕ)) (d : ℕ) → IsCaughtAmong row n.buffer n.trips (length n.trips) d → IsCatch n row d
catch_of n row d c =
    let o = c.caught in
    let next : (v : Call) × (slice_get c.trip.calls (o.place + 1) ≡ Some v) = some_at c.trip.calls (o.place + 1) o.early in
    record {
      trip = record { 0 = c.place };
      place = o.place;
      call = o.call;
      next = next.0;
      seconds = o.caught.seconds;
      calls = (c.trip, c.is_trip, o.is_call);
      may_board = o.caught.may_board;
      goes_on = (c.trip, c.is_trip, next.1);
      walk = o.caught.walk;
      departs = o.caught.departs;
    }

pub seeds_window : (table : Table) (n : Network) (row : List (Option ℕ)) (first last count : ℕ) (seeds : List (Vec StopNo Global)) (ds : List ℕ)
    → HoldsTrips n.trips table.routes → n.buffer ≡ table.buffer → count ≡ last - first
    → ((k : ℕ) → k < count → (c : IsCaughtAmong row table.buffer n.trips (length n.trips) (first + k)) → HasSeed seeds k c.caught.call.stop)
    → AreDepartures n row first last ds → SeedsWindow table row first last seeds ds
seeds_window table n row first last count seeds ds holds buffer_is count_is seeded are = record {
  each = λ k stop before caught.
      let c : RowCall row table.buffer n.trips (first + k) stop = row_among table n.trips row (first + k) stop holds caught in (
        subst (λ s. HasSeed seeds k s) c.stop_is (seeded k (omega (arith, before, count_is)) c.caught),
        (are.exact (first + k)).1 (inr (
          omega arith,
          omega (arith, before),
          catch_of n row (first + k) (subst (λ b. IsCaughtAmong row b n.trips (length n.trips) (first + k)) (sym buffer_is) c.caught),
        )),
      );
}

-- fewer departures open no more
pub opened_least : (routes start opens few many : ℕ) → few ≤ many → opens ≤ start + routes * ((few + 7) / 8) → opens ≤ start + routes * ((many + 7) / 8)
opened_least routes start opens few many le was =
    let groups : (few + 7) / 8 ≤ (many + 7) / 8 = omega (arith, le) in
    omega (arith, was, mul-le-mul_left routes groups)

pub ok_still : {X Y : Type 0} (r : Result X Y) (P Q : X → Type 0) → IfOk r P → ((x : X) → P x → Q x) → IfOk r Q
ok_still r P Q given more = IfOk-weaker r P Q more given

-- at least one ride is allowed
pub limit_more : (limit routes groups start opens : ℕ) → 1 ≤ limit → opens ≤ start + routes * groups → opens ≤ start + limit * routes * groups
limit_more limit routes groups start opens one was =
    let low : routes ≤ limit * routes = omega (arith, mul-le-mul_left routes one) in
    omega (arith, was, mul-le-mul_left groups low)
