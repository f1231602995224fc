-- Lists of stops that grow.
use Rattle.std.proofs.Common.{◌≡◌, ◌≢◌, ℕ, zero, suc, ◌+◌, ◌-◌, ◌<◌, ◌≤◌, ◌⊎◌, inl, inr, List, [], ◌∷◌, ◌++◌, length, set, get_or, refl, sym, ap, ◌∙◌, subst, arith, Option, Some, None}
use Rattle.std.specs.Prelude.{slice_get, Contains, All}
use Rattle.std.proofs.lemmas.Bool.{cases_eq, cases_lt}
use Rattle.std.proofs.lemmas.List.{length-set}
use Rattle.std.proofs.lemmas.Option.{same_Some, slice_get-get_or}
use Rattle.std.proofs.lemmas.List.Elements.{Contains-append_left, Contains-push, Contains-push_cases, Contains-get_or}
use Rattle.std.specs.declared.alloc.Global.{Global}
use Rattle.std.specs.declared.vec.Vec.{Vec}
use Rattle.move_model.specs.declared.network.StopNo.{StopNo}
use Rattle.move_model.specs.declared.network.Call.{Call}
use Rattle.move_model.specs.declared.network.Trip.{Trip}
use Rattle.range_lanes.specs.Hits.{IsCaught, IsCaughtOf, IsCaughtAmong}
use Rattle.range_profile.specs.Seeds.{HasSeed, Grow, AreWithin}

pub grow_same : (seeds : List (Vec StopNo Global)) → Grow seeds seeds
grow_same seeds = record { many = refl; each = λ k stop h. h }

pub grow_on : (a b c : List (Vec StopNo Global)) → Grow a b → Grow b c → Grow a c
grow_on a b c first then = record { many = then.many ∙ first.many; each = λ k stop h. then.each k stop (first.each k stop h) }

set_at : (seeds : List (Vec StopNo Global)) (i : ℕ) (v : Vec StopNo Global) → i < length seeds → slice_get (set seeds i v) i ≡ Some v
set_at [] i v lt = absurd (omega (arith, lt))
set_at (x ∷ seeds) zero v lt = refl
set_at (x ∷ seeds) (suc i) v lt = set_at seeds i v (omega (arith, lt))

set_others : (seeds : List (Vec StopNo Global)) (i j : ℕ) (v : Vec StopNo Global) → i ≢ j → slice_get (set seeds i v) j ≡ slice_get seeds j
set_others [] i j v other = refl
set_others (x ∷ seeds) zero zero v other = absurd (other refl)
set_others (x ∷ seeds) zero (suc j) v other = refl
set_others (x ∷ seeds) (suc i) zero v other = refl
set_others (x ∷ seeds) (suc i) (suc j) v other = set_others seeds i j v (λ e. other (ap suc e))

module _ (seeds : List (Vec StopNo Global)) (i : ℕ) (was now : Vec StopNo Global) (within : i < length seeds) (is : slice_get seeds i ≡ Some was)
    (grows : (s : StopNo) → Contains was.items s → Contains now.items s) where
  pub set_grow : Grow seeds (set seeds i now)
  set_grow = record {
    many = length-set seeds i now;
    each = λ k stop h. elim (cases_eq i k) [
      | inl e ↦
          let same : h.list ≡ was = same_Some h.list was (sym h.is_list ∙ ap (λ j. slice_get seeds j) (sym e) ∙ is) in
          record {
            list = now;
            is_list = ap (λ j. slice_get (set seeds i now) j) (sym e) ∙ set_at seeds i now within;
            has = grows stop (subst (λ (v : Vec StopNo Global). Contains v.items stop) same h.has);
          }
      | inr other ↦ record { list = h.list; is_list = set_others seeds i k now other ∙ h.is_list; has = h.has }
    ];
  }

  pub set_within : (stops : ℕ) → ((s : StopNo) → Contains now.items s → Contains was.items s ⊎ (s.0 < stops)) → AreWithin stops seeds → AreWithin stops (set seeds i now)
  set_within stops new all k stop h = elim (cases_eq i k) [
    | inl e ↦
        let same : h.list ≡ now = same_Some h.list now (sym h.is_list ∙ ap (λ j. slice_get (set seeds i now) j) (sym e) ∙ set_at seeds i now within) in
        elim (new stop (subst (λ (v : Vec StopNo Global). Contains v.items stop) same h.has)) [
          | inl old ↦ all i stop (record { list = was; is_list = is; has = old })
          | inr lt ↦ lt
        ]
    | inr other ↦ all k stop (record { list = h.list; is_list = sym (set_others seeds i k now other) ∙ h.is_list; has = h.has })
  ]

-- a stop is put last in the list of a second
module _ (seeds : List (Vec StopNo Global)) (i : ℕ) (was now : Vec StopNo Global) (stop : StopNo) (within : i < length seeds) (is : slice_get seeds i ≡ Some was)
    (items : now.items ≡ was.items ++ stop ∷ []) where
  pub push_grow : Grow seeds (set seeds i now)
  push_grow = set_grow seeds i was now within is (λ s has. subst (λ v. Contains v s) (sym items) (Contains-append_left was.items (stop ∷ []) s has))

  pub push_within : (stops : ℕ) → stop.0 < stops → AreWithin stops seeds → AreWithin stops (set seeds i now)
  push_within stops lt = set_within seeds i was now within is (λ s has. subst (λ v. Contains v s) (sym items) (Contains-append_left was.items (stop ∷ []) s has)) stops
      (λ s has. elim (Contains-push_cases was.items stop s (subst (λ v. Contains v s) items has)) [
        | inl old ↦ inl old
        | inr e ↦ inr (subst (λ (v : StopNo). v.0 < stops) e lt)
      ])

  pub push_has : (k : ℕ) → k ≡ i → HasSeed (set seeds i now) k stop
  push_has k e = record {
    list = now;
    is_list = ap (λ j. slice_get (set seeds i now) j) e ∙ set_at seeds i now within;
    has = subst (λ v. Contains v stop) (sym items) (Contains-push was.items stop);
  }

-- nothing is put there
module _ (seeds : List (Vec StopNo Global)) (i : ℕ) (was now : Vec StopNo Global) (within : i < length seeds) (is : slice_get seeds i ≡ Some was)
    (items : now.items ≡ was.items) where
  pub stay_grow : Grow seeds (set seeds i now)
  stay_grow = set_grow seeds i was now within is (λ s has. subst (λ v. Contains v s) (sym items) has)

  pub stay_within : (stops : ℕ) → AreWithin stops seeds → AreWithin stops (set seeds i now)
  stay_within stops = set_within seeds i was now within is (λ s has. subst (λ v. Contains v s) (sym items) has) stops (λ s has. inl (subst (λ v. Contains v s) items has))

pub trip_more : (row : List (Option ℕ)) (buffer i d k : ℕ) (calls : List Call) (call : Call) (seeds seeds' : List (Vec StopNo Global)) → 1 ≤ i → slice_get calls (i - 1) ≡ Some call
    → Grow seeds seeds' → ((c : IsCaughtOf row buffer calls i d) → HasSeed seeds k c.call.stop) → (IsCaught row buffer d call → HasSeed seeds' k call.stop)
    → (c : IsCaughtOf row buffer calls (i + 1) d) → HasSeed seeds' k c.call.stop
trip_more row buffer i d k calls call seeds seeds' from is grow before now c = elim (cases_lt (c.place + 1) i) [
  | inl lt ↦ grow.each k c.call.stop (before (record { place = c.place; early = lt; call = c.call; is_call = c.is_call; caught = c.caught }))
  | inr ge ↦
      let e : c.place ≡ i - 1 = omega (arith, ge, c.early, from) in
      let same : c.call ≡ call = same_Some c.call call (sym c.is_call ∙ ap (λ j. slice_get calls j) e ∙ is) in
      subst (λ (v : Call). HasSeed seeds' k v.stop) (sym same) (now (subst (λ v. IsCaught row buffer d v) same c.caught))
]

pub trips_more : (row : List (Option ℕ)) (buffer n d k : ℕ) (trips : List Trip) (trip : Trip) (seeds seeds' : List (Vec StopNo Global)) → slice_get trips n ≡ Some trip
    → Grow seeds seeds' → ((c : IsCaughtAmong row buffer trips n d) → HasSeed seeds k c.caught.call.stop)
    → ((c : IsCaughtOf row buffer trip.calls (length trip.calls) d) → HasSeed seeds' k c.call.stop)
    → (c : IsCaughtAmong row buffer trips (n + 1) d) → HasSeed seeds' k c.caught.call.stop
trips_more row buffer n d k trips trip seeds seeds' is grow before now c = elim (cases_lt c.place n) [
  | inl lt ↦ grow.each k c.caught.call.stop (before (record { place = c.place; early = lt; trip = c.trip; is_trip = c.is_trip; caught = c.caught }))
  | inr ge ↦
      let e : c.place ≡ n = omega (arith, ge, c.early) in
      go c.trip (same_Some c.trip trip (sym c.is_trip ∙ ap (λ j. slice_get trips j) e ∙ is)) c.caught
]
  where
    go : (t : Trip) → t ≡ trip → (o : IsCaughtOf row buffer t.calls (length t.calls) d) → HasSeed seeds' k o.call.stop
    go t same o = now (record {
      place = o.place;
      early = subst (λ (v : Trip). o.place + 1 < length v.calls) same o.early;
      call = o.call;
      is_call = subst (λ (v : Trip). slice_get v.calls o.place ≡ Some o.call) same o.is_call;
      caught = o.caught;
    })

pub within_at : (stops k : ℕ) (seeds : List (Vec StopNo Global)) (v : Vec StopNo Global) → AreWithin stops seeds → slice_get seeds k ≡ Some v → All (λ stop. stop.0 < stops) v.items
within_at stops k seeds v all at i d lt = all k (get_or v.items i d) (record { list = v; is_list = at; has = Contains-get_or v.items i d lt })

get_push : (seeds : List (Vec StopNo Global)) (v w : Vec StopNo Global) (k : ℕ) → slice_get (seeds ++ v ∷ []) k ≡ Some w → (slice_get seeds k ≡ Some w) ⊎ (v ≡ w)
get_push [] v w zero e = inr (same_Some v w e)
get_push [] v w (suc k) e = absurd (no e)
  where
    no : None ≡ Some w → ⊥
    no e = cc
get_push (x ∷ seeds) v w zero e = inl e
get_push (x ∷ seeds) v w (suc k) e = get_push seeds v w k e

-- one more list, which is empty
pub empty_more : (seeds : List (Vec StopNo Global)) (v : Vec StopNo Global) → v.items ≡ [] → AreWithin 0 seeds → AreWithin 0 (seeds ++ v ∷ [])
empty_more seeds v empty all k stop h = elim (get_push seeds v h.list k h.is_list) [
  | inl old ↦ all k stop (record { list = h.list; is_list = old; has = h.has })
  | inr e ↦
      let has : Contains [] stop = subst (λ items. Contains items stop) (ap (λ (w : Vec StopNo Global). w.items) (sym e) ∙ empty) h.has in
      absurd (omega (arith, has.1))
]

pub item_at : {X : Type 0} (xs ys : List X) (k : ℕ) (x : X) → ys ≡ xs → k < length ys → x ≡ get_or ys k x → slice_get xs k ≡ Some x
item_at xs ys k x same lt is = subst (λ v. slice_get v k ≡ Some x) same (slice_get-get_or ys k x lt ∙ ap (λ v. Some v) (sym is))

pub walk_same : (o : Option (Option ℕ)) (a b : ℕ) → o ≡ Some (Some a) → o ≡ Some (Some b) → a ≡ b
walk_same o a b e f = cc

pub seed_moved : (seeds : List (Vec StopNo Global)) (j k : ℕ) (stop : StopNo) → HasSeed seeds j stop → j ≡ k → HasSeed seeds k stop
seed_moved seeds j k stop has e = subst (λ i. HasSeed seeds i stop) e has

pub trip_all : (row : List (Option ℕ)) (buffer n m d k : ℕ) (calls : List Call) (seeds : List (Vec StopNo Global)) → n ≤ m
    → ((c : IsCaughtOf row buffer calls m d) → HasSeed seeds k c.call.stop) → (c : IsCaughtOf row buffer calls n d) → HasSeed seeds k c.call.stop
trip_all row buffer n m d k calls seeds le all c =
    all (record { place = c.place; early = omega (arith, c.early, le); call = c.call; is_call = c.is_call; caught = c.caught })

pub trips_all : (row : List (Option ℕ)) (buffer n m d k : ℕ) (trips : List Trip) (seeds : List (Vec StopNo Global)) → n ≤ m
    → ((c : IsCaughtAmong row buffer trips m d) → HasSeed seeds k c.caught.call.stop) → (c : IsCaughtAmong row buffer trips n d) → HasSeed seeds k c.caught.call.stop
trips_all row buffer n m d k trips seeds le all c =
    all (record { place = c.place; early = omega (arith, c.early, le); trip = c.trip; is_trip = c.is_trip; caught = c.caught })

-- no list has a stop yet
pub within_more : (stops : ℕ) (seeds : List (Vec StopNo Global)) → AreWithin 0 seeds → AreWithin stops seeds
within_more stops seeds none k stop h = absurd (omega (arith, none k stop h))
