-- Jumps over the routes of a chain, and the bounds by which they are taken.
use Rattle.std.proofs.Common.{◌≡◌, ℕ, ◌+◌, ◌-◌, ◌<◌, ◌≤◌, inl, inr, List, [], ◌∷◌, ◌++◌, length, get_or, set, subst, sym, refl, ap, ◌∙◌, arith, get_or-set_same, get_or-set_other}
use Rattle.std.specs.Prelude.{slice_index}
use Rattle.std.proofs.lemmas.Bool.{cases_lt, cases_eq}
use Rattle.std.proofs.lemmas.List.{length-set, get_or_append_left, get_or_push, length_push}
use Rattle.std.proofs.lemmas.Option.{slice_get_within, slice_get_cases, get_or_from_slice_get, same_Some}
use Rattle.move_model.specs.declared.network.Trip.{Trip}
use Rattle.move_model.specs.declared.network.Call.{Call}
use Rattle.route_split.specs.Routes.{IsNoLater}
use Rattle.std.proofs.lemmas.Option.{slice_get-get_or}
use Rattle.route_split.specs.Split.{CanFollow, CanStand, CannotStand}
use Rattle.route_split.specs.Fill.{no_trip, trip_at, no_call}
use Rattle.route_split.specs.Chains.{bucket_of, AreChains, AreChained}
use Rattle.route_split.proofs.ChainLemmas.{same_bucket}
use Rattle.route_split.specs.Jumps.{IsUnder, IsBound, Bounds, IsJump, AreJumps, AreJumped, IsBehind}

pub bound_refl : (calls : List Call) → IsBound calls calls
bound_refl calls = record {
  as_many = refl;
  no_later = λ k c d at_c at_d.
      let e : c ≡ d = same_Some c d (sym at_c ∙ at_d) in
      (omega (arith, ap (λ (v : Call). v.arr) e), omega (arith, ap (λ (v : Call). v.dep) e));
}

pub bound_on : (xs ys zs : List Call) → IsBound xs ys → IsBound ys zs → IsBound xs zs
bound_on xs ys zs xy yz = record {
  as_many = xy.as_many ∙ yz.as_many;
  no_later = λ k x z at_x at_z. elim (slice_get_cases ys k).1 [
    | inl some ↦
        let a = xy.no_later k x some.0 at_x some.2 in
        let b = yz.no_later k some.0 z some.2 at_z in
        (omega (arith, a.0, b.0), omega (arith, a.1, b.1))
    | inr past ↦ absurd (omega (arith, past.0, slice_get_within xs k x at_x, xy.as_many))
  ];
}

pub bound_follow : (xs ys : List Call) → CanFollow xs ys → IsBound xs ys
bound_follow xs ys can = record { as_many = can.as_many; no_later = can.no_later }

pub under_push : (low calls : List Call) (l : Call) (n : ℕ) → length low ≡ n → IsUnder low calls n → l.arr ≤ (get_or calls n no_call).arr
    → l.dep ≤ (get_or calls n no_call).dep → IsUnder (low ++ l ∷ []) calls (n + 1)
under_push low calls l n is was arr dep = λ k lt. elim (cases_lt k n) [
  | inl before ↦
      let e : get_or (low ++ l ∷ []) k no_call ≡ get_or low k no_call = get_or_append_left low (l ∷ []) no_call k (omega (arith, before, is)) in
      let w = was k before in
      (omega (arith, ap (λ (v : Call). v.arr) e, w.0), omega (arith, ap (λ (v : Call). v.dep) e, w.1))
  | inr past ↦
      let same : n ≡ k = omega (arith, lt, past) in
      let e : get_or (low ++ l ∷ []) k no_call ≡ l = get_or_push low l no_call k (is ∙ same) in
      let at : get_or calls n no_call ≡ get_or calls k no_call = ap (λ m. get_or calls m no_call) same in
      (omega (arith, ap (λ (v : Call). v.arr) e, ap (λ (v : Call). v.arr) at, arr), omega (arith, ap (λ (v : Call). v.dep) e, ap (λ (v : Call). v.dep) at, dep))
]

pub under_bound : (low calls : List Call) (n : ℕ) → length low ≡ n → length calls ≡ n → IsUnder low calls n → IsBound low calls
under_bound low calls n is is' under = record {
  as_many = is ∙ sym is';
  no_later = λ k l c at_l at_c.
      let el = get_or_from_slice_get low k l no_call at_l in
      let ec = get_or_from_slice_get calls k c no_call at_c in
      let w = under k (omega (arith, slice_get_within calls k c at_c, is')) in
      (omega (arith, ap (λ (v : Call). v.arr) el, ap (λ (v : Call). v.arr) ec, w.0), omega (arith, ap (λ (v : Call). v.dep) el, ap (λ (v : Call). v.dep) ec, w.1));
}

module _ (trips : List Trip) where
  -- trips below a bound that is later somewhere can't stand before a trip
  pub none_leapt : (low : List Call) (t u : ℕ) → IsBound low (trip_at trips t).calls → (IsNoLater low (trip_at trips u).calls → ⊥) → CannotStand trips t u
  none_leapt low t u bound late = λ a b at_a at_b follows.
      let at_t = get_or_from_slice_get trips t a no_trip at_a in
      let at_u = get_or_from_slice_get trips u b no_trip at_b in
      let on_a : IsBound low a.calls = subst (λ (v : Trip). IsBound low v.calls) at_t bound in
      let on_b = bound_on low a.calls b.calls on_a (bound_follow a.calls b.calls follows) in
      late (subst (λ (v : Trip). IsNoLater low v.calls) (sym at_u) on_b.no_later)

  -- a route alone is bounded by its last trip
  pub bounds_leaf : (key : ℕ → ℕ) (lasts tops nexts : List ℕ) (g : ℕ) → AreChains key (length lasts) tops nexts → g < length lasts
      → Bounds key trips lasts (trip_at trips (slice_index lasts g)).calls (slice_index nexts g) g
  bounds_leaf key lasts tops nexts g chained low = λ h upto from e. elim (cases_lt h g) [
    | inl before ↦ absurd (omega (arith, from, chained.next h g before low e))
    | inr past ↦
        let same : g ≡ h = omega (arith, upto, past) in
        subst (λ n. IsBound (trip_at trips (slice_index lasts g)).calls (trip_at trips (slice_index lasts n)).calls) same (bound_refl (trip_at trips (slice_index lasts g)).calls)
  ]

  -- a route over two trees
  pub jump_two : (key : ℕ → ℕ) (lasts tops nexts jumps : List ℕ) (lows : List (List Call)) (low left right : List Call) (p a b : ℕ)
      → AreChains key (length lasts) tops nexts → AreJumps key trips lasts nexts jumps lows → p < length lasts
      → slice_index nexts p ≡ a + 1 → slice_index jumps a ≡ b + 1
      → Bounds key trips lasts left (slice_index jumps a) a → Bounds key trips lasts right (slice_index jumps b) b
      → IsBound low (trip_at trips (slice_index lasts p)).calls → IsBound low left → IsBound low right
      → IsJump key trips lasts low (slice_index nexts p) (slice_index jumps b) p
  jump_two key lasts tops nexts jumps lows low left right p a b chained jumped within next_is jump_is of_left of_right last_on left_on right_on =
      let a_low : a < length lasts = omega (arith, next_is, chained.next_low p within, within) in
      let ja = jumped.jump a a_low in
      let b_low : b < a = omega (arith, jump_is, ja.low_enough, chained.next_low a a_low) in
      let b_in : b < length lasts = omega (arith, a_low, b_low) in
      let jb = jumped.jump b b_in in
      let a_is : slice_index nexts p - 1 ≡ a = omega (arith, next_is) in
      let b_is : slice_index jumps a - 1 ≡ b = omega (arith, jump_is) in
      let key_a : key a ≡ key p = ap key (sym a_is) ∙ chained.next_in p within (omega (arith, next_is)) in
      let key_b : key b ≡ key a = ap key (sym b_is) ∙ ja.in_chain (omega (arith, jump_is)) in
      record {
        low_enough = omega (arith, jb.low_enough, chained.next_low b b_in, b_low, next_is);
        in_chain = λ some. jb.in_chain some ∙ key_b ∙ key_a;
        bounds = λ more h upto from e. elim (cases_lt h p) [
          | inl before ↦
              let h_low : h < a + 1 = omega (arith, next_is, chained.next h p before within e) in
              elim (cases_lt h (b + 1)) [
                | inl under ↦ bound_on low right _ right_on (of_right h (omega (arith, under)) from (e ∙ sym key_a ∙ sym key_b))
                | inr over ↦ bound_on low left _ left_on (of_left h (omega (arith, h_low)) (omega (arith, over, jump_is)) (e ∙ sym key_a))
              ]
          | inr past ↦
              let same : p ≡ h = omega (arith, upto, past) in
              subst (λ n. IsBound low (trip_at trips (slice_index lasts n)).calls) same last_on
        ];
      }

  -- a route gets another jump
  pub jumps_renew : (key : ℕ → ℕ) (lasts nexts jumps : List ℕ) (lows : List (List Call)) (low : List Call) (jump p : ℕ)
      → AreJumps key trips lasts nexts jumps lows → p < length lasts → IsJump key trips lasts low (slice_index nexts p) jump p
      → AreJumps key trips lasts nexts (set jumps p jump) (set lows p low)
  jumps_renew key lasts nexts jumps lows low jump p was within new = record {
    one_each = length-set jumps p jump ∙ was.one_each;
    low_each = length-set lows p low ∙ was.low_each;
    jump = λ g low_g. elim (cases_eq g p) [
      | inl same ↦
          subst (λ n. IsJump key trips lasts (get_or (set lows p low) n []) (slice_index nexts n) (slice_index (set jumps p jump) n) n) (sym same)
          (subst (λ l. IsJump key trips lasts l (slice_index nexts p) (slice_index (set jumps p jump) p) p) (sym (get_or-set_same lows p low [] (omega (arith, within, was.low_each))))
          (subst (λ j. IsJump key trips lasts low (slice_index nexts p) j p) (sym (get_or-set_same jumps p jump 0 (omega (arith, within, was.one_each)))) new))
      | inr other ↦
          subst (λ l. IsJump key trips lasts l (slice_index nexts g) (slice_index (set jumps p jump) g) g) (sym (get_or-set_other lows p g low [] other))
          (subst (λ j. IsJump key trips lasts (get_or lows g []) (slice_index nexts g) j g) (sym (get_or-set_other jumps p g jump 0 other)) (was.jump g low_g))
    ];
  }

  -- keys stay, and last trips give way to later ones
  jump_moved : (key key' : ℕ → ℕ) (lasts lasts' : List ℕ) (count : ℕ) (low : List Call) (next jump g : ℕ) → g < count → next ≤ g
      → ((h : ℕ) → h < count → key' h ≡ key h)
      → ((h : ℕ) → h < count → IsBound (trip_at trips (slice_index lasts h)).calls (trip_at trips (slice_index lasts' h)).calls)
      → IsJump key trips lasts low next jump g → IsJump key' trips lasts' low next jump g
  jump_moved key key' lasts lasts' count low next jump g within below same on was = record {
    low_enough = was.low_enough;
    in_chain = λ some. same (jump - 1) (omega (arith, was.low_enough, below, within)) ∙ was.in_chain some ∙ sym (same g within);
    bounds = λ more h upto from e.
        let low_h : h < count = omega (arith, upto, within) in
        bound_on low _ _ (was.bounds more h upto from (sym (same h low_h) ∙ e ∙ same g within)) (on h low_h);
  }

  pub jumps_join : (key key' : ℕ → ℕ) (lasts lasts' tops nexts jumps : List ℕ) (lows : List (List Call)) → length lasts' ≡ length lasts
      → AreChains key (length lasts) tops nexts
      → ((h : ℕ) → h < length lasts → key' h ≡ key h)
      → ((h : ℕ) → h < length lasts → IsBound (trip_at trips (slice_index lasts h)).calls (trip_at trips (slice_index lasts' h)).calls)
      → AreJumps key trips lasts nexts jumps lows → AreJumps key' trips lasts' nexts jumps lows
  jumps_join key key' lasts lasts' tops nexts jumps lows as_many chained same on was = record {
    one_each = was.one_each ∙ sym as_many;
    low_each = was.low_each ∙ sym as_many;
    jump = λ g low_g.
        let within : g < length lasts = omega (arith, low_g, as_many) in
        jump_moved key key' lasts lasts' (length lasts) (get_or lows g []) (slice_index nexts g) (slice_index jumps g) g within (chained.next_low g within) same on (was.jump g within);
  }

  -- a new route leaps over itself alone
  pub jumps_open : (key key' : ℕ → ℕ) (lasts tops nexts jumps : List ℕ) (lows : List (List Call)) (u top : ℕ)
      → AreChains key (length lasts) tops nexts
      → ((h : ℕ) → h < length lasts → key' h ≡ key h)
      → (0 < top → key' (top - 1) ≡ key' (length lasts))
      → AreJumps key trips lasts nexts jumps lows
      → AreJumps key' trips (lasts ++ u ∷ []) (nexts ++ top ∷ []) (jumps ++ top ∷ []) (lows ++ [] ∷ [])
  jumps_open key key' lasts tops nexts jumps lows u top chained same on was = record {
    one_each = length_push jumps top ∙ ap (λ n. n + 1) was.one_each ∙ sym (length_push lasts u);
    low_each = length_push lows [] ∙ ap (λ n. n + 1) was.low_each ∙ sym (length_push lasts u);
    jump = λ g low_g. elim (cases_lt g (length lasts)) [
      | inl within ↦
          subst (λ l. IsJump key' trips (lasts ++ u ∷ []) l (slice_index (nexts ++ top ∷ []) g) (slice_index (jumps ++ top ∷ []) g) g)
          (sym (get_or_append_left lows ([] ∷ []) [] g (omega (arith, within, was.low_each))))
          (subst (λ j. IsJump key' trips (lasts ++ u ∷ []) (get_or lows g []) (slice_index (nexts ++ top ∷ []) g) j g)
          (sym (get_or_append_left jumps (top ∷ []) 0 g (omega (arith, within, was.one_each))))
          (subst (λ n. IsJump key' trips (lasts ++ u ∷ []) (get_or lows g []) n (slice_index jumps g) g)
          (sym (get_or_append_left nexts (top ∷ []) 0 g (omega (arith, within, chained.one_each))))
          (jump_moved key key' lasts (lasts ++ u ∷ []) (length lasts) (get_or lows g []) (slice_index nexts g) (slice_index jumps g) g within (chained.next_low g within) same
          (λ h low_h. subst (λ n. IsBound (trip_at trips (slice_index lasts h)).calls (trip_at trips n).calls) (sym (get_or_append_left lasts (u ∷ []) 0 h low_h)) (bound_refl (trip_at trips (slice_index lasts h)).calls))
          (was.jump g within))))
      | inr past ↦
          let last : length lasts ≡ g = omega (arith, low_g, past, length_push lasts u) in
          let j_is : slice_index (jumps ++ top ∷ []) g ≡ top = get_or_push jumps top 0 g (was.one_each ∙ last) in
          let n_is : slice_index (nexts ++ top ∷ []) g ≡ top = get_or_push nexts top 0 g (chained.one_each ∙ last) in
          record {
            low_enough = omega (arith, j_is, n_is);
            in_chain = λ some. ap (λ n. key' (n - 1)) j_is ∙ on (omega (arith, some, j_is)) ∙ ap key' last;
            bounds = λ more. absurd (more (j_is ∙ sym n_is));
          }
    ];
  }

  -- no route stands between a route and the next one
  pub next_behind : (key : ℕ → ℕ) (lasts tops nexts : List ℕ) (u g link : ℕ) → AreChains key (length lasts) tops nexts → g < length lasts
      → link ≡ slice_index nexts g → IsBehind key trips lasts u g link
  next_behind key lasts tops nexts u g link chained within is = record {
    low = omega (arith, is, chained.next_low g within);
    on = λ some. ap (λ n. key (n - 1)) is ∙ chained.next_in g within (omega (arith, some, is));
    none = λ h before from e. absurd (omega (arith, from, is, chained.next h g before within e));
  }

  -- no route that a jump leaps over can take a trip that is before its bound somewhere
  pub jump_behind : (key : ℕ → ℕ) (lasts tops nexts jumps : List ℕ) (lows : List (List Call)) (low : List Call) (u g link next : ℕ)
      → AreChains key (length lasts) tops nexts → AreJumps key trips lasts nexts jumps lows → g < length lasts
      → link ≡ slice_index jumps g → next ≡ slice_index nexts g → low ≡ get_or lows g [] → (link ≡ next → ⊥)
      → (IsNoLater low (trip_at trips u).calls → ⊥) → IsBehind key trips lasts u g link
  jump_behind key lasts tops nexts jumps lows low u g link next chained jumped within is next_is low_is more late =
      let j = jumped.jump g within in
      let more' : slice_index jumps g ≡ slice_index nexts g → ⊥ = λ e. more (is ∙ e ∙ sym next_is) in
      record {
        low = omega (arith, is, j.low_enough, chained.next_low g within);
        on = λ some. ap (λ n. key (n - 1)) is ∙ j.in_chain (omega (arith, some, is));
        none = λ h before from e.
            none_leapt low (slice_index lasts h) u
            (subst (λ l. IsBound l (trip_at trips (slice_index lasts h)).calls) (sym low_is) (j.bounds more' h (omega (arith, before)) (omega (arith, from, is)) e)) late;
      }

  -- the second tree's root is a route
  pub second_low : (key : ℕ → ℕ) (lasts tops nexts jumps : List ℕ) (lows : List (List Call)) (p a b : ℕ)
      → AreChains key (length lasts) tops nexts → AreJumps key trips lasts nexts jumps lows → p < length lasts
      → slice_index nexts p ≡ a + 1 → slice_index jumps a ≡ b + 1 → b < length lasts
  second_low key lasts tops nexts jumps lows p a b chained jumped within next_is jump_is =
      let a_low : a < length lasts = omega (arith, next_is, chained.next_low p within, within) in
      omega (arith, jump_is, (jumped.jump a a_low).low_enough, chained.next_low a a_low, a_low)

  pub chained_moved : (lasts tops nexts lasts' tops' nexts' : List ℕ) → lasts' ≡ lasts → tops' ≡ tops → nexts' ≡ nexts
      → AreChained trips lasts tops nexts → AreChained trips lasts' tops' nexts'
  chained_moved lasts tops nexts lasts' tops' nexts' el et en is =
      subst (λ l. AreChained trips l tops' nexts') (sym el)
      (subst (λ l. AreChained trips lasts l nexts') (sym et)
      (subst (λ l. AreChained trips lasts tops l) (sym en) is))

  pub jumped_moved : (size size' : ℕ) (lasts nexts jumps lasts' nexts' jumps' : List ℕ) (lows lows' : List (List Call)) → size' ≡ size → lasts' ≡ lasts
      → nexts' ≡ nexts → jumps' ≡ jumps → lows' ≡ lows → AreJumped trips size lasts nexts jumps lows → AreJumped trips size' lasts' nexts' jumps' lows'
  jumped_moved size size' lasts nexts jumps lasts' nexts' jumps' lows lows' es el en ej ew is =
      subst (λ n. AreJumped trips n lasts' nexts' jumps' lows') (sym es)
      (subst (λ l. AreJumped trips size l nexts' jumps' lows') (sym el)
      (subst (λ l. AreJumped trips size lasts l jumps' lows') (sym en)
      (subst (λ l. AreJumped trips size lasts nexts l lows') (sym ej)
      (subst (λ l. AreJumped trips size lasts nexts jumps l) (sym ew) is))))

  -- a trip stands behind the last one of a route
  pub jumped_join : (lasts tops nexts jumps : List ℕ) (lows : List (List Call)) (g u : ℕ) → AreChained trips lasts tops nexts
      → AreJumped trips (length tops) lasts nexts jumps lows → g < length lasts → u < length trips → slice_index lasts g < length trips
      → CanStand trips (slice_index lasts g) u → AreJumped trips (length tops) (set lasts g u) nexts jumps lows
  jumped_join lasts tops nexts jumps lows g u chained jumped low low_u low_last can =
      jumps_join (λ h. bucket_of trips (length tops) (slice_index lasts h)) (λ h. bucket_of trips (length tops) (slice_index (set lasts g u) h))
      lasts (set lasts g u) tops nexts jumps lows (length-set lasts g u) chained
      (λ h within. elim (cases_eq h g) [
        | inl same ↦
            ap (λ n. bucket_of trips (length tops) (slice_index (set lasts g u) n)) same
            ∙ ap (bucket_of trips (length tops)) (get_or-set_same lasts g u 0 low)
            ∙ sym (same_bucket trips (length tops) (slice_index lasts g) u low_last low_u can)
            ∙ ap (λ n. bucket_of trips (length tops) (slice_index lasts n)) (sym same)
        | inr other ↦ ap (bucket_of trips (length tops)) (get_or-set_other lasts g h u 0 other)
      ])
      (λ h within. elim (cases_eq h g) [
        | inl same ↦
            subst (λ n. IsBound (trip_at trips (slice_index lasts n)).calls (trip_at trips (slice_index (set lasts g u) n)).calls) (sym same)
            (subst (λ n. IsBound (trip_at trips (slice_index lasts g)).calls (trip_at trips n).calls) (sym (get_or-set_same lasts g u 0 low))
            (bound_follow _ _ (can (trip_at trips (slice_index lasts g)) (trip_at trips u) (slice_get-get_or trips (slice_index lasts g) no_trip low_last) (slice_get-get_or trips u no_trip low_u))))
        | inr other ↦
            subst (λ n. IsBound (trip_at trips (slice_index lasts h)).calls (trip_at trips n).calls) (sym (get_or-set_other lasts g h u 0 other))
            (bound_refl (trip_at trips (slice_index lasts h)).calls)
      ])
      jumped

  -- a trip opens a route
  pub jumped_open : (lasts tops nexts jumps : List ℕ) (lows : List (List Call)) (u chain : ℕ) → AreChained trips lasts tops nexts
      → AreJumped trips (length tops) lasts nexts jumps lows → chain < length tops → chain ≡ bucket_of trips (length tops) u
      → AreJumped trips (length tops) (lasts ++ u ∷ []) (nexts ++ slice_index tops chain ∷ []) (jumps ++ slice_index tops chain ∷ []) (lows ++ [] ∷ [])
  jumped_open lasts tops nexts jumps lows u chain chained jumped low is =
      let key : ℕ → ℕ = λ h. bucket_of trips (length tops) (slice_index lasts h) in
      let key' : ℕ → ℕ = λ h. bucket_of trips (length tops) (slice_index (lasts ++ u ∷ []) h) in
      let same : (h : ℕ) → h < length lasts → key' h ≡ key h = λ h within. ap (bucket_of trips (length tops)) (get_or_append_left lasts (u ∷ []) 0 h within) in
      jumps_open key key' lasts tops nexts jumps lows u (slice_index tops chain) chained same
      (λ some.
      same (slice_index tops chain - 1) (omega (arith, some, chained.top_low chain low)) ∙ chained.top_in chain low some ∙ is
      ∙ sym (ap (bucket_of trips (length tops)) (get_or_push lasts u 0 (length lasts) refl)))
      jumped
