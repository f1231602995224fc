-- One route more in the chains.
use Rattle.std.proofs.Common.{◌≡◌, ℕ, ◌+◌, ◌-◌, ◌%◌, ◌<◌, ◌≤◌, ◌⊎◌, inl, inr, List, [], ◌∷◌, ◌++◌, length, map, get_or, set, subst, sym, refl, ap, ◌∙◌, arith, Some, get_or-set_same, get_or-set_other}
use Rattle.std.specs.Prelude.{slice_get, slice_index}
use Rattle.std.specs.List.{fold}
use Rattle.std.proofs.lemmas.Bool.{cases_lt, cases_eq}
use Rattle.std.proofs.lemmas.List.{length-set, get_or_append_left, get_or_push, length_push}
use Rattle.std.proofs.lemmas.Option.{slice_get-get_or, get_or_from_slice_get}
use Rattle.move_model.specs.declared.network.Trip.{Trip}
use Rattle.move_model.specs.declared.network.Call.{Call}
use Rattle.route_split.specs.Routes.{place_of}
use Rattle.route_split.specs.Split.{CanFollow, CanStand, CannotStand}
use Rattle.route_split.specs.Fill.{no_trip, trip_at}
use Rattle.route_split.specs.Chains.{next_key, key_of, bucket_of, AreChains, AreChained}
use Rattle.route_split.proofs.EntryLemmas.{same_maps}

-- a fold that sees an item by its place alone
fold_places : (key : ℕ) (cs ds : List Call) → map place_of cs ≡ map place_of ds
    → fold (λ k call. next_key k (place_of call)) key cs ≡ fold (λ k call. next_key k (place_of call)) key ds
fold_places key cs ds same = by_map key cs ∙ ap (fold next_key key) same ∙ sym (by_map key ds)
  where
    by_map : (key : ℕ) (cs : List Call) → fold (λ k call. next_key k (place_of call)) key cs ≡ fold next_key key (map place_of cs)
    by_map key [] = refl
    by_map key (c ∷ cs) = by_map (next_key key (place_of c)) cs

pub same_bucket : (trips : List Trip) (size t u : ℕ) → t < length trips → u < length trips → CanStand trips t u → bucket_of trips size t ≡ bucket_of trips size u
same_bucket trips size t u low low' can =
    let follows = can (trip_at trips t) (trip_at trips u) (slice_get-get_or trips t no_trip low) (slice_get-get_or trips u no_trip low') in
    ap (λ k. k % size) (fold_places 0 (trip_at trips t).calls (trip_at trips u).calls
    (same_maps place_of (trip_at trips t).calls (trip_at trips u).calls follows.as_many follows.same))

-- trips of different chains can't stand behind one another
pub other_bucket : (trips : List Trip) (size t u : ℕ) → t < length trips → u < length trips → (bucket_of trips size t ≡ bucket_of trips size u → ⊥) → CannotStand trips t u
other_bucket trips size t u low low' other = λ a b at_a at_b follows.
    other (ap (λ k. k % size) (same_key a b at_a at_b follows))
  where
    same_key : (a b : Trip) → slice_get trips t ≡ Some a → slice_get trips u ≡ Some b → CanFollow a.calls b.calls → key_of (trip_at trips t).calls ≡ key_of (trip_at trips u).calls
    same_key a b at_a at_b follows =
        ap (λ (v : Trip). key_of v.calls) (get_or_from_slice_get trips t a no_trip at_a)
        ∙ fold_places 0 a.calls b.calls (same_maps place_of a.calls b.calls follows.as_many follows.same)
        ∙ ap (λ (v : Trip). key_of v.calls) (sym (get_or_from_slice_get trips u b no_trip at_b))

-- a route keeps its number
pub same_chains : (key key' : ℕ → ℕ) (count : ℕ) (tops nexts : List ℕ) → ((g : ℕ) → g < count → key' g ≡ key g) → AreChains key count tops nexts
    → AreChains key' count tops nexts
same_chains key key' count tops nexts same was = record {
  one_each = was.one_each;
  top_low = was.top_low;
  top_in = λ b low some. same (get_or tops b 0 - 1) (omega (arith, was.top_low b low, some)) ∙ was.top_in b low some;
  next_low = was.next_low;
  next_in = λ h low some. same (get_or nexts h 0 - 1) (omega (arith, was.next_low h low, some, low)) ∙ was.next_in h low some ∙ sym (same h low);
  newest = λ g low. subst (λ k. g < get_or tops k 0) (sym (same g low)) (was.newest g low);
  next = λ g h before low e. was.next g h before low (sym (same g (omega (arith, before, low))) ∙ e ∙ same h low);
}

module _ (key : ℕ → ℕ) (count b : ℕ) (tops nexts : List ℕ) (was : AreChains key count tops nexts) (here : b < length tops) (is : key count ≡ b) where
  old_next : (h : ℕ) → h < count → get_or (nexts ++ get_or tops b 0 ∷ []) h 0 ≡ get_or nexts h 0
  old_next h low = get_or_append_left nexts (get_or tops b 0 ∷ []) 0 h (omega (arith, low, was.one_each))

  new_next : get_or (nexts ++ get_or tops b 0 ∷ []) count 0 ≡ get_or tops b 0
  new_next = get_or_push nexts (get_or tops b 0) 0 count was.one_each

  top_cases : (c : ℕ) → ((c ≡ b) × (get_or (set tops b (count + 1)) c 0 ≡ count + 1)) ⊎ ((c ≡ b → ⊥) × (get_or (set tops b (count + 1)) c 0 ≡ get_or tops c 0))
  top_cases c = elim (cases_eq c b) [
    | inl same ↦ inl (same, ap (λ n. get_or (set tops b (count + 1)) n 0) same ∙ get_or-set_same tops b (count + 1) 0 here)
    | inr other ↦ inr (other, get_or-set_other tops b c (count + 1) 0 other)
  ]

  next_cases : (h : ℕ) → h < count + 1 → (h < count) ⊎ (h ≡ count)
  next_cases h low = elim (cases_lt h count) [
    | inl before ↦ inl before
    | inr last ↦ inr (omega (arith, low, last))
  ]

  -- a new route stands on top of its chain
  pub chains_more : AreChains key (count + 1) (set tops b (count + 1)) (nexts ++ get_or tops b 0 ∷ [])
  chains_more = record {
    one_each = length_push nexts (get_or tops b 0) ∙ ap (λ n. n + 1) was.one_each;
    top_low = λ c low. elim (top_cases c) [
      | inl new ↦ omega (arith, new.1)
      | inr old ↦ omega (arith, old.1, was.top_low c (omega (arith, low, length-set tops b (count + 1))))
    ];
    top_in = λ c low some. elim (top_cases c) [
      | inl new ↦ let e : get_or (set tops b (count + 1)) c 0 - 1 ≡ count = omega (arith, new.1) in ap key e ∙ is ∙ sym new.0
      | inr old ↦ ap (λ n. key (n - 1)) old.1 ∙ was.top_in c (omega (arith, low, length-set tops b (count + 1))) (omega (arith, some, old.1))
    ];
    next_low = λ h low. elim (next_cases h low) [
      | inl before ↦ omega (arith, old_next h before, was.next_low h before)
      | inr last ↦ omega (arith, ap (λ n. get_or (nexts ++ get_or tops b 0 ∷ []) n 0) last, new_next, was.top_low b here, last)
    ];
    next_in = λ h low some. elim (next_cases h low) [
      | inl before ↦ ap (λ n. key (n - 1)) (old_next h before) ∙ was.next_in h before (omega (arith, some, old_next h before))
      | inr last ↦
          let e : get_or (nexts ++ get_or tops b 0 ∷ []) h 0 ≡ get_or tops b 0 = ap (λ n. get_or (nexts ++ get_or tops b 0 ∷ []) n 0) last ∙ new_next in
          ap (λ n. key (n - 1)) e ∙ was.top_in b here (omega (arith, some, e)) ∙ sym is ∙ ap key (sym last)
    ];
    newest = λ g low. elim (next_cases g low) [
      | inl before ↦ elim (top_cases (key g)) [
        | inl new ↦ omega (arith, new.1, before)
        | inr old ↦ omega (arith, old.1, was.newest g before)
      ]
      | inr last ↦ elim (top_cases (key g)) [
        | inl new ↦ omega (arith, new.1, last)
        | inr old ↦ absurd (old.0 (ap key last ∙ is))
      ]
    ];
    next = λ g h before low e. elim (next_cases h low) [
      | inl old ↦ omega (arith, old_next h old, was.next g h before old e)
      | inr last ↦
          let on : key g ≡ b = e ∙ ap key last ∙ is in
          let up = subst (λ n. g < get_or tops n 0) on (was.newest g (omega (arith, before, last))) in
          omega (arith, ap (λ n. get_or (nexts ++ get_or tops b 0 ∷ []) n 0) last, new_next, up)
    ];
  }

-- the last trip of a route gives way to one that can follow it
pub chains_join : (trips : List Trip) (lasts tops nexts : List ℕ) (g u : ℕ) → AreChained trips lasts tops nexts → g < length lasts → u < length trips
    → slice_index lasts g < length trips → CanStand trips (slice_index lasts g) u → AreChained trips (set lasts g u) tops nexts
chains_join trips lasts tops nexts g u was low low_u low_last can =
    subst (λ n. AreChains (λ h. bucket_of trips (length tops) (slice_index (set lasts g u) h)) n tops nexts) (sym (length-set lasts g u))
    (same_chains (λ h. bucket_of trips (length tops) (slice_index lasts h)) (λ h. bucket_of trips (length tops) (slice_index (set lasts g u) h)) (length lasts) tops nexts
    (λ h within. elim (cases_eq h g) [
      | inl same ↦
          ap (λ n. bucket_of trips (length tops) (slice_index (set lasts g u) n)) same
          ∙ ap (bucket_of trips (length tops)) (get_or-set_same lasts g u 0 low)
          ∙ sym (same_bucket trips (length tops) (slice_index lasts g) u low_last low_u can)
          ∙ ap (λ n. bucket_of trips (length tops) (slice_index lasts n)) (sym same)
      | inr other ↦ ap (bucket_of trips (length tops)) (get_or-set_other lasts g h u 0 other)
    ]) was)

-- a route is opened
pub chains_open : (trips : List Trip) (lasts tops nexts : List ℕ) (u b : ℕ) → AreChained trips lasts tops nexts → b < length tops
    → b ≡ bucket_of trips (length tops) u
    → AreChained trips (lasts ++ u ∷ []) (set tops b (length lasts + 1)) (nexts ++ slice_index tops b ∷ [])
chains_open trips lasts tops nexts u b was low is =
    let count = length lasts in
    let key : ℕ → ℕ = λ h. bucket_of trips (length tops) (slice_index (lasts ++ u ∷ []) h) in
    let old = same_chains (λ h. bucket_of trips (length tops) (slice_index lasts h)) key count tops nexts
    (λ h within. ap (bucket_of trips (length tops)) (get_or_append_left lasts (u ∷ []) 0 h within)) was in
    let last : key count ≡ b = ap (bucket_of trips (length tops)) (get_or_push lasts u 0 count refl) ∙ sym is in
    subst (λ n. AreChains (λ h. bucket_of trips n (slice_index (lasts ++ u ∷ []) h)) (length (lasts ++ u ∷ [])) (set tops b (count + 1)) (nexts ++ slice_index tops b ∷ []))
    (sym (length-set tops b (count + 1)))
    (subst (λ n. AreChains key n (set tops b (count + 1)) (nexts ++ slice_index tops b ∷ [])) (sym (length_push lasts u))
    (chains_more key count b tops nexts old low last))

module _ (trips : List Trip) (lasts tops nexts : List ℕ) (u b : ℕ) (was : AreChained trips lasts tops nexts) (below : b < length tops) where
  -- the routes of the chain from its top on: none before
  pub none_above : (g : ℕ) → g < length lasts → slice_index tops b ≤ g → bucket_of trips (length tops) (slice_index lasts g) ≡ b → CannotStand trips (slice_index lasts g) u
  none_above g low over on = absurd (omega (arith, over, subst (λ n. g < slice_index tops n) on (was.newest g low)))

  -- the chain was tried to its end
  pub none_at_all : ((g : ℕ) → g < length lasts → slice_index lasts g < length trips) → u < length trips → b ≡ bucket_of trips (length tops) u
      → ((g : ℕ) → g < length lasts → bucket_of trips (length tops) (slice_index lasts g) ≡ b → CannotStand trips (slice_index lasts g) u)
      → (g : ℕ) → g < length lasts → CannotStand trips (slice_index lasts g) u
  none_at_all within low is tried g low_g = elim (cases_eq (bucket_of trips (length tops) (slice_index lasts g)) b) [
    | inl on ↦ tried g low_g on
    | inr off ↦ other_bucket trips (length tops) (slice_index lasts g) u (within g low_g) low (λ e. off (e ∙ sym is))
  ]
