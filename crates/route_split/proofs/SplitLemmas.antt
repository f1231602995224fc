-- One more trip in the routes.
use Rattle.std.proofs.Common.{◌≡◌, ◌≢◌, ℕ, zero, suc, ◌+◌, ◌<◌, ◌≤◌, inl, inr, List, [], ◌∷◌, ◌++◌, length, set, subst, sym, refl, ap, ◌∙◌, arith, Some, length-append, get_or-set_same, get_or-set_other}
use Rattle.std.specs.Prelude.{slice_get, slice_index}
use Rattle.std.proofs.lemmas.List.{length-set}
use Rattle.std.proofs.lemmas.Option.{slice_get_within, slice_get_cases}
use Rattle.std.proofs.lemmas.Bool.{cases_lt}
use Rattle.move_model.specs.declared.network.Trip.{Trip}
use Rattle.move_model.specs.declared.network.Call.{Call}
use Rattle.route_split.specs.Split.{CanFollow, CanStand, CannotStand, HasObstacle, IsSplit, AreLasts}

at_old : (xs : List ℕ) (y t : ℕ) → t < length xs → slice_index (xs ++ y ∷ []) t ≡ slice_index xs t
at_old [] y t h = absurd (omega arith)
at_old (x ∷ xs) y zero h = refl
at_old (x ∷ xs) y (suc t) h = at_old xs y t (omega arith)

at_new : (xs : List ℕ) (y t : ℕ) → t ≡ length xs → slice_index (xs ++ y ∷ []) t ≡ y
at_new [] y t e = subst (λ n. slice_index (y ∷ []) n ≡ y) (sym e) refl
at_new (x ∷ xs) y zero e = absurd (omega (arith, e))
at_new (x ∷ xs) y (suc t) e = at_new xs y t (omega (arith, e))

follow_on : (cs ds es : List Call) → CanFollow cs ds → CanFollow ds es → CanFollow cs es
follow_on cs ds es ab bc = record {
  as_many = ab.as_many ∙ bc.as_many;
  same = λ k c e at_c at_e. let d = middle k c at_c in ab.same k c d.0 at_c d.1 ∙ bc.same k d.0 e d.1 at_e;
  no_later = λ k c e at_c at_e. let d = middle k c at_c in
      let x = ab.no_later k c d.0 at_c d.1 in
      let y = bc.no_later k d.0 e d.1 at_e in
      (omega (arith, x.0, y.0), omega (arith, x.1, y.1));
}
  where
    middle : (k : ℕ) (c : Call) → slice_get cs k ≡ Some c → (d : Call) × (slice_get ds k ≡ Some d)
    middle k c at = elim (slice_get_cases ds k).1 [
      | inl some ↦ (some.0, some.2)
      | inr past ↦ absurd (omega (arith, past.0, slice_get_within cs k c at, ab.as_many))
    ]

stand_on : (trips : List Trip) (t m u : ℕ) → m < length trips → CanStand trips t m → CanStand trips m u → CanStand trips t u
stand_on trips t m u within tm mu a b at_t at_u = elim (slice_get_cases trips m).1 [
  | inl some ↦ follow_on a.calls (some.0).calls b.calls (tm a some.0 at_t some.2) (mu some.0 b some.2 at_u)
  | inr past ↦ absurd (omega (arith, past.0, within))
]

module _ (trips : List Trip) (routes lasts : List ℕ) (u : ℕ) (in_trips : u < length trips) (was : IsSplit trips routes u (length lasts)) (ends : AreLasts routes lasts u) where
  -- a number for the trip u
  old_at : (y t : ℕ) → t < u → slice_index (routes ++ y ∷ []) t ≡ slice_index routes t
  old_at y t h = at_old routes y t (omega (arith, was.one_each))

  new_at : (y : ℕ) → slice_index (routes ++ y ∷ []) u ≡ y
  new_at y = at_new routes y u (sym was.one_each)

  kept_obstacle : (y g h : ℕ) → HasObstacle trips routes u g h → HasObstacle trips (routes ++ y ∷ []) (u + 1) g h
  kept_obstacle y g h o = record {
    t = o.t;
    u = o.u;
    before = o.before;
    within = omega (arith, o.within);
    t_in = old_at y o.t (omega (arith, o.before, o.within)) ∙ o.t_in;
    u_in = old_at y o.u o.within ∙ o.u_in;
    cannot = o.cannot;
  }

  alike_with : (y : ℕ) → ((t : ℕ) → t < u → slice_index routes t ≡ y → CanStand trips t u) → (t v : ℕ) → t < v → v < u + 1
      → slice_index (routes ++ y ∷ []) t ≡ slice_index (routes ++ y ∷ []) v → CanStand trips t v
  alike_with y new t v before within same = elim (cases_lt v u) [
    | inl lt ↦ was.alike t v before lt (sym (old_at y t (omega arith)) ∙ same ∙ old_at y v lt)
    | inr ge ↦ let e : u ≡ v = omega arith in
        subst (λ n. CanStand trips t n) e
        (new t (omega arith) (sym (old_at y t (omega arith)) ∙ same ∙ ap (λ n. slice_index (routes ++ y ∷ []) n) (sym e) ∙ new_at y))
  ]

  below_with : (y count : ℕ) → length lasts ≤ count → y < count → (t : ℕ) → t < u + 1 → slice_index (routes ++ y ∷ []) t < count
  below_with y count more lt t within = elim (cases_lt t u) [
    | inl lt' ↦ omega (arith, old_at y t lt', was.below t lt')
    | inr ge ↦ let e : u ≡ t = omega arith in omega (arith, new_at y, ap (λ n. slice_index (routes ++ y ∷ []) n) e)
  ]

  module _ (g : ℕ) (within : g < length lasts) (can : CanStand trips (slice_index lasts g) u) where
    behind : (t : ℕ) → t < u → slice_index routes t ≡ g → CanStand trips t u
    behind t lt e =
        let low : t ≤ slice_index lasts g = omega (arith, ends.latest t lt, ap (λ n. slice_index lasts n) e) in
        let last_in = ends.within g within in
        elim (cases_lt t (slice_index lasts g)) [
          | inl lt' ↦ stand_on trips t (slice_index lasts g) u (omega (arith, last_in, in_trips)) (was.alike t (slice_index lasts g) lt' last_in (e ∙ sym (ends.in_route g within))) can
          | inr ge ↦ let same : slice_index lasts g ≡ t = omega arith in subst (λ n. CanStand trips n u) same can
        ]

    pub split_joins : IsSplit trips (routes ++ g ∷ []) (u + 1) (length (set lasts g u))
    split_joins = record {
      one_each = omega (arith, length-append routes (g ∷ []), was.one_each);
      below = below_with g (length (set lasts g u)) (omega (arith, length-set lasts g u)) (omega (arith, length-set lasts g u));
      alike = alike_with g behind;
      apart = λ f h before lt. kept_obstacle g f h (was.apart f h before (omega (arith, length-set lasts g u)));
    }

    pub lasts_join : AreLasts (routes ++ g ∷ []) (set lasts g u) (u + 1)
    lasts_join = record {
      within = λ h lt. cases_at (λ n w. w < u + 1) (omega arith) (λ k lt' ne. omega (arith, ends.within k lt')) h (omega (arith, length-set lasts g u));
      in_route = λ h lt. cases_at (λ n w. slice_index (routes ++ g ∷ []) w ≡ n) (new_at g)
          (λ k lt' ne. old_at g (slice_index lasts k) (ends.within k lt') ∙ ends.in_route k lt') h (omega (arith, length-set lasts g u));
      latest = λ t lt. elim (cases_lt t u) [
        | inl lt' ↦
            subst (λ n. t ≤ slice_index (set lasts g u) n) (sym (old_at g t lt'))
            (cases_at (λ n w. slice_index lasts n ≤ u → t ≤ slice_index lasts n → t ≤ w) (λ a b. omega arith) (λ k in_lasts ne a b. b)
            (slice_index routes t) (was.below t lt') (omega (arith, ends.within (slice_index routes t) (was.below t lt'))) (ends.latest t lt'))
        | inr ge ↦ let e : u ≡ t = omega arith in
            let at : slice_index (routes ++ g ∷ []) t ≡ g = ap (λ n. slice_index (routes ++ g ∷ []) n) (sym e) ∙ new_at g in
            subst (λ n. t ≤ slice_index (set lasts g u) n) (sym at) (omega (arith, get_or-set_same lasts g u 0 within))
      ];
    }
      where
        cases_at : (P : ℕ → ℕ → Type 0) → P g u → ((k : ℕ) → k < length lasts → k ≢ g → P k (slice_index lasts k)) → (k : ℕ) → k < length lasts → P k (slice_index (set lasts g u) k)
        cases_at P here other k lt = elim (cases_lt k g) [
          | inl a ↦ (let ne : k ≢ g = omega arith in subst (P k) (sym (get_or-set_other lasts g k u 0 ne)) (other k lt ne))
          | inr b ↦ elim (cases_lt g k) [
            | inl c ↦ (let ne : k ≢ g = omega arith in subst (P k) (sym (get_or-set_other lasts g k u 0 ne)) (other k lt ne))
            | inr d ↦ (let e : g ≡ k = omega arith in subst (λ n. P n (slice_index (set lasts g u) n)) e (subst (P g) (sym (get_or-set_same lasts g u 0 within)) here))
          ]
        ]

  module _ (none : (g : ℕ) → g < length lasts → CannotStand trips (slice_index lasts g) u) where
    pub split_opens : IsSplit trips (routes ++ length lasts ∷ []) (u + 1) (length (lasts ++ u ∷ []))
    split_opens = record {
      one_each = omega (arith, length-append routes (length lasts ∷ []), was.one_each);
      below = below_with (length lasts) (length (lasts ++ u ∷ [])) (omega (arith, length-append lasts (u ∷ []))) (omega (arith, length-append lasts (u ∷ [])));
      alike = alike_with (length lasts) (λ t lt e. absurd (omega (arith, was.below t lt, e)));
      apart = λ f h before lt. elim (cases_lt h (length lasts)) [
        | inl lt' ↦ kept_obstacle (length lasts) f h (was.apart f h before lt')
        | inr ge ↦
            let e : length lasts ≡ h = omega (arith, ge, lt, length-append lasts (u ∷ [])) in
            let in_lasts : f < length lasts = omega arith in
            let last_in = ends.within f in_lasts in
            record {
              t = slice_index lasts f;
              u = u;
              before = last_in;
              within = omega arith;
              t_in = old_at (length lasts) (slice_index lasts f) last_in ∙ ends.in_route f in_lasts;
              u_in = new_at (length lasts) ∙ e;
              cannot = none f in_lasts;
            }
      ];
    }

    pub lasts_open : AreLasts (routes ++ length lasts ∷ []) (lasts ++ u ∷ []) (u + 1)
    lasts_open = record {
      within = λ h lt. elim (cases_lt h (length lasts)) [
        | inl lt' ↦ omega (arith, at_old lasts u h lt', ends.within h lt')
        | inr ge ↦ omega (arith, at_new lasts u h (omega (arith, ge, lt, length-append lasts (u ∷ []))))
      ];
      in_route = λ h lt. elim (cases_lt h (length lasts)) [
        | inl lt' ↦ ap (λ n. slice_index (routes ++ length lasts ∷ []) n) (at_old lasts u h lt') ∙ old_at (length lasts) (slice_index lasts h) (ends.within h lt') ∙ ends.in_route h lt'
        | inr ge ↦
            let e : h ≡ length lasts = omega (arith, ge, lt, length-append lasts (u ∷ [])) in
            ap (λ n. slice_index (routes ++ length lasts ∷ []) n) (at_new lasts u h e) ∙ new_at (length lasts) ∙ sym e
      ];
      latest = λ t lt. elim (cases_lt t u) [
        | inl lt' ↦ omega (arith, ends.latest t lt', at_old lasts u (slice_index routes t) (was.below t lt'), ap (λ n. slice_index (lasts ++ u ∷ []) n) (old_at (length lasts) t lt'))
        | inr ge ↦ let e : u ≡ t = omega arith in
            let at : slice_index (routes ++ length lasts ∷ []) t ≡ length lasts = ap (λ n. slice_index (routes ++ length lasts ∷ []) n) (sym e) ∙ new_at (length lasts) in
            omega (arith, at_new lasts u (slice_index (routes ++ length lasts ∷ []) t) at)
      ];
    }
