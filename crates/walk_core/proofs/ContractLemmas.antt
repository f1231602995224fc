-- A vertex is contracted.
use Rattle.std.proofs.Common.{◌≡◌, ◌≢◌, ℕ, ◌+◌, ◌<◌, ◌≤◌, List, length, slice_index_or, slice_set, arith, refl, sym, ap, subst, inl, inr, ◌∙◌}
use Rattle.std.specs.Prelude.{Contains}
use Rattle.std.proofs.lemmas.Bool.{cases_eq, cases_lt}
use Rattle.std.proofs.lemmas.List.{get_or_default, get_or-set_same, get_or-set_other, length-set}
use Rattle.std.proofs.lemmas.List.Elements.{Contains-get_or}
use Rattle.move_model.specs.Streets.{Streets}
use Rattle.walk_laws.specs.declared.CoreArc.{CoreArc}
use Rattle.walk_laws.specs.Sums.{HasArc, HasWithin, IsRest, rank_of, last_rank, Keeps, Bridges, IsContracted}
use Rattle.walk_laws.proofs.SumLemmas.{IsSum-one, IsSum-map, IsWithin}
use Rattle.walk_laws.proofs.Step.{keeps_still}
use Rattle.walk_core.specs.Middles.{HasMiddle, IsRuled, Ruled}
use Rattle.walk_core.specs.Core.{HasDifferentEnds}
use Rattle.walk_core.specs.Row.{is_last}
use Rattle.walk_core.specs.Rows.{Cleans, row_of}
use Rattle.walk_core.specs.Search.{Fits, Avoids}
use Rattle.walk_core.specs.Bridge.{view_of, IsBuilt, Grows, Real, Spans, IsSpanned, AllDone, AreOthers, IsCounted, IsBridge}
use Rattle.walk_core.specs.State.{Rises}
use Rattle.walk_core.proofs.BridgeLemmas.{HasWithin-itself, Grows-join}

module _ (old new : List (List CoreArc)) (m : ℕ) (rank : List ℕ) (cleans : Cleans old new m rank) where
  pub arc_from_clean : (a b k : ℕ) → HasArc new a b k → HasArc old a b k
  arc_from_clean a b k (middle, stands) =
      let x : CoreArc = record { to = record { 0 = b }; seconds = k; middle = record { 0 = middle } } in
      elim (cases_eq a m) [
        | inl e ↦
            (middle, subst (λ (v : ℕ). Contains (row_of old v) x) (sym e) (cleans.here.only x (subst (λ (v : ℕ). Contains (row_of new v) x) e stands)).0)
        | inr ne ↦ (middle, subst (λ (r : List CoreArc). Contains r x) (cleans.others a ne) stands)
      ]

  clean_only : (a : ℕ) (z : CoreArc) → Contains (row_of new a) z → Contains (row_of old a) z
  clean_only a z c = elim (cases_eq a m) [
    | inl e ↦ subst (λ (v : ℕ). Contains (row_of old v) z) (sym e) (cleans.here.only z (subst (λ (v : ℕ). Contains (row_of new v) z) e c)).0
    | inr ne ↦ subst (λ (r : List CoreArc). Contains r z) (cleans.others a ne) c
  ]

  arc_stays_clean : (a b k : ℕ) → is_last rank b → HasArc old a b k → HasArc new a b k
  arc_stays_clean a b k left (middle, stands) =
      let x : CoreArc = record { to = record { 0 = b }; seconds = k; middle = record { 0 = middle } } in
      elim (cases_eq a m) [
        | inl e ↦ (
          middle,
          subst (λ (v : ℕ). Contains (row_of new v) x) (sym e)
              (cleans.here.stays x (subst (λ (v : ℕ). Contains (row_of old v) x) e stands) left),
        )
        | inr ne ↦ (middle, subst (λ (r : List CoreArc). Contains r x) (sym (cleans.others a ne)) stands)
      ]

  arc_stays_other : (a b k : ℕ) → a ≢ m → HasArc old a b k → HasArc new a b k
  arc_stays_other a b k ne (middle, stands) =
      let x : CoreArc = record { to = record { 0 = b }; seconds = k; middle = record { 0 = middle } } in
      (middle, subst (λ (r : List CoreArc). Contains r x) (sym (cleans.others a ne)) stands)

  fits_clean : (count : ℕ) → Fits old count → Fits new count
  fits_clean count fits =
      record {
        many = cleans.many ∙ fits.many;
        ends = λ a b k h. fits.ends a b k (arc_from_clean a b k h);
        short = λ a b k h. fits.short a b k (arc_from_clean a b k h);
        apart = λ a b k h. fits.apart a b k (arc_from_clean a b k h);
        from_one = λ a b k h. fits.from_one a b k (arc_from_clean a b k h);
      }

  ends_clean : ((v : ℕ) → HasDifferentEnds (row_of old v)) → (v : ℕ) → HasDifferentEnds (row_of new v)
  ends_clean ends v = elim (cases_eq v m) [
    | inl e ↦ subst (λ (k : ℕ). HasDifferentEnds (row_of new k)) (sym e) (cleans.here.ends (ends m))
    | inr ne ↦ subst (λ (r : List CoreArc). HasDifferentEnds r) (sym (cleans.others v ne)) (ends v)
  ]

  others_clean : Fits new (length rank) → AreOthers rank m (row_of new m)
  others_clean fits =
      let here : (k : ℕ) (d : CoreArc) → k < length (row_of new m) → Contains (row_of new m) (slice_index_or (row_of new m) k d) =
      λ k d lt. Contains-get_or (row_of new m) k d lt in
      record {
        left = λ k d lt. (cleans.here.only (slice_index_or (row_of new m) k d) (here k d lt)).1;
        other = λ k d lt. λ e. fits.apart m _ _ (_, here k d lt) (sym e);
        low = λ k d lt. fits.ends m _ _ (_, here k d lt);
        one = λ k d lt. (fits.from_one m _ _ (_, here k d lt)).1;
        short = λ k d lt. fits.short m _ _ (_, here k d lt);
      }

-- both rows of m are cleaned
module _ (out out' into into' : List (List CoreArc)) (rank : List ℕ) (m : ℕ) (built : IsBuilt (view_of out into rank)) (left : is_last rank m)
    (clean_out : Cleans out out' m rank) (clean_into : Cleans into into' m rank) where
  pub built_clean : IsBuilt (view_of out' into' rank)
  built_clean =
      record {
        out_fits = fits_clean out out' m rank clean_out (length rank) built.out_fits;
        into_fits = fits_clean into into' m rank clean_into (length rank) built.into_fits;
        mirrored = λ p q l rest.
            let was : HasWithin into q p l = built.mirrored p q l (record {
              from_left = record { is_left = rest.from_left.is_left };
              to_left = record { is_left = rest.to_left.is_left };
              stands = arc_from_clean out out' m rank clean_out p q l rest.stands;
            }) in
            record { l = was.l; stands = arc_stays_clean into into' m rank clean_into q p was.l rest.from_left.is_left was.stands; within = was.within };
        out_ends = ends_clean out out' m rank clean_out built.out_ends;
        into_ends = ends_clean into into' m rank clean_into built.into_ends;
      }

  pub ins_clean : AreOthers rank m (row_of into' m)
  ins_clean = others_clean into into' m rank clean_into built_clean.into_fits

  pub outs_clean : AreOthers rank m (row_of out' m)
  outs_clean = others_clean out out' m rank clean_out built_clean.out_fits

  grows_clean : ((v : ℕ) → rank_of (view_of out into rank) v ≤ last_rank) → Grows (view_of out into rank) (view_of out' into' rank)
  grows_clean ranks =
      record {
        rank = refl;
        out_stays = λ p q l le arc. HasWithin-itself out' p q l (elim (cases_eq p m) [
          | inl e ↦
              let top : rank_of (view_of out into rank) p ≡ last_rank = ap (λ (v : ℕ). slice_index_or rank v last_rank) e ∙ left in
              arc_stays_clean out out' m rank clean_out p q l (omega (arith, le, top, ranks q)) arc
          | inr ne ↦ arc_stays_other out out' m rank clean_out p q l ne arc
        ]);
        into_stays = λ p q l le arc. HasWithin-itself into' q p l (elim (cases_eq q m) [
          | inl e ↦
              let top : rank_of (view_of out into rank) q ≡ last_rank = ap (λ (v : ℕ). slice_index_or rank v last_rank) e ∙ left in
              arc_stays_clean into into' m rank clean_into q p l (omega (arith, le, top, ranks p)) arc
          | inr ne ↦ arc_stays_other into into' m rank clean_into q p l ne arc
        ]);
      }

  -- and then all pairs are bridged, and m gets its rank
  module _ (out2 into2 : List (List CoreArc)) (ins outs : List CoreArc) (count : ℕ) (low : m < length rank) (room : count < last_rank)
      (counted : IsCounted rank count) (ins_are : ins ≡ row_of into' m) (outs_are : outs ≡ row_of out' m)
      (done : AllDone m ins outs (length ins) (view_of out' into' rank) (view_of out2 into2 rank)) where
    rank_other : (v : ℕ) → v ≢ m → slice_index_or (slice_set rank m count) v last_rank ≡ slice_index_or rank v last_rank
    rank_other v ne = get_or-set_other rank m v count last_rank ne

    rank_here : slice_index_or (slice_set rank m count) m last_rank ≡ count
    rank_here = get_or-set_same rank m count last_rank low

    -- a vertex that is left afterwards was left before, and is not m
    left_before : (v : ℕ) → is_last (slice_set rank m count) v → (v ≢ m) × is_last rank v
    left_before v is =
        let ne : v ≢ m = λ e. omega (arith, ap (λ (x : ℕ). slice_index_or (slice_set rank m count) x last_rank) e, rank_here, is) in
        (ne, sym (rank_other v ne) ∙ is)

    rank_back : (p q : ℕ) → ((v : ℕ) → slice_index_or rank v last_rank ≤ last_rank)
        → slice_index_or (slice_set rank m count) p last_rank ≤ slice_index_or (slice_set rank m count) q last_rank
        → slice_index_or rank p last_rank ≤ slice_index_or rank q last_rank
    rank_back p q ranks le = elim (cases_eq q m) [
      | inl e ↦ omega (arith, ap (λ (x : ℕ). slice_index_or rank x last_rank) e, left, ranks p)
      | inr ne ↦ elim (cases_eq p m) [
        | inl e ↦ elim (cases_lt (slice_index_or rank q last_rank) last_rank) [
          | inl lt ↦ absurd (omega (arith, counted.below q lt, rank_other q ne, rank_here, ap (λ (x : ℕ). slice_index_or (slice_set rank m count) x last_rank) e))
          | inr ge ↦ omega (arith, ranks p)
        ]
        | inr other ↦ omega (arith, rank_other q ne, rank_other p other)
      ]
    ]

    pub built_after : IsBuilt (view_of out2 into2 (slice_set rank m count))
    built_after =
        record {
          out_fits = subst (λ (n : ℕ). Fits out2 n) (sym (length-set rank m count)) done.built.out_fits;
          into_fits = subst (λ (n : ℕ). Fits into2 n) (sym (length-set rank m count)) done.built.into_fits;
          mirrored = λ p q l rest.
              done.built.mirrored p q l (record {
                from_left = record { is_left = (left_before p rest.from_left.is_left).1 };
                to_left = record { is_left = (left_before q rest.to_left.is_left).1 };
                stands = rest.stands;
              });
          out_ends = done.built.out_ends;
          into_ends = done.built.into_ends;
        }

    pub counted_after : IsCounted (slice_set rank m count) (count + 1)
    counted_after = record {
      below = λ v lt. elim (cases_eq v m) [
        | inl e ↦ omega (arith, rank_here, ap (λ (x : ℕ). slice_index_or (slice_set rank m count) x last_rank) e)
        | inr ne ↦ omega (arith, counted.below v (omega (arith, rank_other v ne)), rank_other v ne)
      ];
    }

    pub rises_after : Rises (view_of out into rank) → Rises (view_of out2 into2 (slice_set rank m count))
    rises_after rises =
        record {
          up = λ p q l lt arc. elim (cases_eq p m) [
            | inl e ↦
                let here : HasArc out2 m q l = subst (λ (v : ℕ). HasArc out2 v q l) e arc in
                let was : Contains (row_of out' m) (record { to = record { 0 = q }; seconds = l; middle = record { 0 = here.0 } }) =
                subst (λ (r : List CoreArc). Contains r (record { to = record { 0 = q }; seconds = l; middle = record { 0 = here.0 } })) (done.only.frozen_out m (inl refl)) here.1 in
                let q_left : is_last rank q = (clean_out.here.only _ was).1 in
                let q_ne : q ≢ m = λ same. done.built.out_fits.apart m q l here (sym same) in
                omega (arith, room, q_left, rank_other q q_ne, rank_here, ap (λ (x : ℕ). slice_index_or (slice_set rank m count) x last_rank) e)
            | inr ne ↦
                let low : slice_index_or rank p last_rank < last_rank = omega (arith, lt, rank_other p ne) in
                let same : row_of out2 p ≡ row_of out p = done.only.frozen_out p (inr low) ∙ clean_out.others p ne in
                let rose : slice_index_or rank p last_rank < slice_index_or rank q last_rank =
                rises.up p q l low (arc.0, subst (λ (r : List CoreArc). Contains r (record { to = record { 0 = q }; seconds = l; middle = record { 0 = arc.0 } })) same arc.1) in
                elim (cases_eq q m) [
                  | inl e ↦ omega (arith, rank_other p ne, counted.below p low, rank_here, ap (λ (x : ℕ). slice_index_or (slice_set rank m count) x last_rank) e)
                  | inr other ↦ omega (arith, rose, rank_other p ne, rank_other q other)
                ]
          ];
          down = λ p q l lt arc. elim (cases_eq q m) [
            | inl e ↦
                let here : HasArc into2 m p l = subst (λ (v : ℕ). HasArc into2 v p l) e arc in
                let was : Contains (row_of into' m) (record { to = record { 0 = p }; seconds = l; middle = record { 0 = here.0 } }) =
                subst (λ (r : List CoreArc). Contains r (record { to = record { 0 = p }; seconds = l; middle = record { 0 = here.0 } })) (done.only.frozen_into m (inl refl)) here.1 in
                let p_left : is_last rank p = (clean_into.here.only _ was).1 in
                let p_ne : p ≢ m = λ same. done.built.into_fits.apart m p l here (sym same) in
                omega (arith, room, p_left, rank_other p p_ne, rank_here, ap (λ (x : ℕ). slice_index_or (slice_set rank m count) x last_rank) e)
            | inr ne ↦
                let low : slice_index_or rank q last_rank < last_rank = omega (arith, lt, rank_other q ne) in
                let same : row_of into2 q ≡ row_of into q = done.only.frozen_into q (inr low) ∙ clean_into.others q ne in
                let rose : slice_index_or rank q last_rank < slice_index_or rank p last_rank =
                rises.down p q l low (arc.0, subst (λ (r : List CoreArc). Contains r (record { to = record { 0 = p }; seconds = l; middle = record { 0 = arc.0 } })) same arc.1) in
                elim (cases_eq p m) [
                  | inl e ↦ omega (arith, rank_other q ne, counted.below q low, rank_here, ap (λ (x : ℕ). slice_index_or (slice_set rank m count) x last_rank) e)
                  | inr other ↦ omega (arith, rose, rank_other q ne, rank_other p other)
                ]
          ];
        }

    spans_at : (x y : CoreArc) → Contains ins x → Contains outs y → IsSpanned (view_of out2 into2 rank) m x y
    spans_at x y (i, lt, e) (j, lt', f) =
        let s : IsSpanned (view_of out2 into2 rank) m (slice_index_or ins i x) (slice_index_or outs j x) = done.spans i j x lt lt' in
        subst (λ (z : CoreArc). IsSpanned (view_of out2 into2 rank) m z y) e
        (subst (λ (z : CoreArc). IsSpanned (view_of out2 into2 rank) m (slice_index_or ins i x) z) (get_or_default outs j x y lt' ∙ f) s)

    module _ (graph : Streets) (keeps : Keeps graph (view_of out into rank)) where
      real_clean : Real graph (view_of out' into' rank)
      real_clean =
          record {
            out = λ p q l arc. keeps.real_out p q l (arc_from_clean out out' m rank clean_out p q l arc);
            into = λ p q l arc. keeps.real_into p q l (arc_from_clean into into' m rank clean_into q p l arc);
          }

      real_after : Real graph (view_of out2 into2 rank)
      real_after =
          done.real graph
          (λ k d lt. real_clean.into _ m _ (_, subst (λ (r : List CoreArc). Contains r (slice_index_or ins k d)) ins_are (Contains-get_or ins k d lt)))
          (λ k d lt. real_clean.out m _ _ (_, subst (λ (r : List CoreArc). Contains r (slice_index_or outs k d)) outs_are (Contains-get_or outs k d lt)))
          real_clean

      grown : Grows (view_of out into rank) (view_of out2 into2 rank)
      grown = Grows-join (view_of out into rank) (view_of out' into' rank) (view_of out2 into2 rank) (grows_clean keeps.ranks) done.grows

      bridge : (p q s : ℕ) → Spans (view_of out2 into2 rank) m p q s → Bridges (view_of out2 into2 (slice_set rank m count)) p q s
      bridge p q s spans =
          let each : (a b l : ℕ) → Avoids out2 rank m a b l → IsWithin (IsRest (view_of out2 into2 (slice_set rank m count))) a b l =
          λ a b l arc. record {
            l = l;
            sum = IsSum-one (record {
              from_left = record { is_left = rank_other a arc.from_other ∙ arc.from_left };
              to_left = record { is_left = rank_other b arc.to_other ∙ arc.to_left };
              stands = arc.stands;
            });
            within = omega arith;
          } in
          let whole = IsSum-map each spans.sum in
          record { l = whole.l; over = whole.sum; within = omega (arith, whole.within, spans.within) }

      step : IsContracted graph (view_of out into rank) (view_of out2 into2 (slice_set rank m count)) m
      step =
          record {
            left = record { is_left = left };
            others = rank_other;
            gone = omega (arith, rank_here, room);
            above = λ v lt. omega (arith, rank_here, counted.below v lt);
            real_out = real_after.out;
            real_into = real_after.into;
            mirrored = λ p q l rest. built_after.mirrored p q l rest;
            out_stays = λ p q l le arc. grown.out_stays p q l (rank_back p q keeps.ranks le) arc;
            into_stays = λ p q l le arc. grown.into_stays p q l (rank_back q p keeps.ranks le) arc;
            bridged = λ p q l k p_left q_left ne short in_arc out_arc.
                let p_was = left_before p p_left.is_left in
                let q_was = left_before q q_left.is_left in
                let x : CoreArc = record { to = record { 0 = p }; seconds = l; middle = record { 0 = in_arc.0 } } in
                let y : CoreArc = record { to = record { 0 = q }; seconds = k; middle = record { 0 = out_arc.0 } } in
                let x_stands : Contains (row_of into' m) x = (clean_into.here.stays x in_arc.1 p_was.1) in
                let y_stands : Contains (row_of out' m) y = (clean_out.here.stays y out_arc.1 q_was.1) in
                bridge p q (l + k)
                (spans_at x y (subst (λ (r : List CoreArc). Contains r x) (sym ins_are) x_stands)
                (subst (λ (r : List CoreArc). Contains r y) (sym outs_are) y_stands) ne short);
          }

      pub keeps_after : Keeps graph (view_of out2 into2 (slice_set rank m count))
      keeps_after = keeps_still graph (view_of out into rank) (view_of out2 into2 (slice_set rank m count)) m keeps step

      -- the rule on middles

      rank_above : (v k : ℕ) → k < count → k < slice_index_or rank v last_rank → k < slice_index_or (slice_set rank m count) v last_rank
      rank_above v k few lt = elim (cases_eq v m) [
        | inl e ↦ omega (arith, rank_here, ap (λ (x : ℕ). slice_index_or (slice_set rank m count) x last_rank) e)
        | inr ne ↦ omega (arith, rank_other v ne)
      ]

      middle_after : (p q l mid : ℕ) → HasMiddle (view_of out into rank) p q l mid → HasMiddle (view_of out2 into2 (slice_set rank m count)) p q l mid
      middle_after p q l mid has =
          let low : slice_index_or rank mid last_rank < last_rank = omega (arith, has.below_from, keeps.ranks p) in
          let few : slice_index_or rank mid last_rank < count = counted.below mid low in
          let ne : mid ≢ m = λ e. omega (arith, left, low, ap (λ (x : ℕ). slice_index_or rank x last_rank) e) in
          let same = rank_other mid ne in
          let out_same : row_of out2 mid ≡ row_of out mid = done.only.frozen_out mid (inr low) ∙ clean_out.others mid ne in
          let into_same : row_of into2 mid ≡ row_of into mid = done.only.frozen_into mid (inr low) ∙ clean_into.others mid ne in
          record {
            below_from = omega (arith, same, rank_above p (slice_index_or rank mid last_rank) few has.below_from);
            below_to = omega (arith, same, rank_above q (slice_index_or rank mid last_rank) few has.below_to);
            k = has.k;
            n = has.n;
            down = (has.down.0, subst (λ (r : List CoreArc). Contains r (record { to = record { 0 = p }; seconds = has.k; middle = record { 0 = has.down.0 } })) (sym into_same) has.down.1);
            up = (has.up.0, subst (λ (r : List CoreArc). Contains r (record { to = record { 0 = q }; seconds = has.n; middle = record { 0 = has.up.0 } })) (sym out_same) has.up.1);
            total = has.total;
          }

      bridge_after : (p q l mid : ℕ) → IsBridge rank m ins outs p q l mid → HasMiddle (view_of out2 into2 (slice_set rank m count)) p q l mid
      bridge_after p q l mid b =
          let into_m : ins ≡ row_of into2 m = ins_are ∙ sym (done.only.frozen_into m (inl refl)) in
          let out_m : outs ≡ row_of out2 m = outs_are ∙ sym (done.only.frozen_out m (inl refl)) in
          let first : HasArc into2 m p b.first.seconds =
          subst (λ (v : ℕ). HasArc into2 m v b.first.seconds) b.first_to (b.first.middle.0, subst (λ (r : List CoreArc). Contains r b.first) into_m b.first_in) in
          let second : HasArc out2 m q b.second.seconds =
          subst (λ (v : ℕ). HasArc out2 m v b.second.seconds) b.second_to (b.second.middle.0, subst (λ (r : List CoreArc). Contains r b.second) out_m b.second_in) in
          let mid_rank : slice_index_or (slice_set rank m count) mid last_rank ≡ count = ap (λ (x : ℕ). slice_index_or (slice_set rank m count) x last_rank) b.is_m ∙ rank_here in
          let p_ne : p ≢ m = λ e. left_apart p b.first b.first_in b.first_to e in
          let q_ne : q ≢ m = λ e. right_apart q b.second b.second_in b.second_to e in
          record {
            below_from = omega (arith, mid_rank, room, rank_other p p_ne, b.from_left);
            below_to = omega (arith, mid_rank, room, rank_other q q_ne, b.to_left);
            k = b.first.seconds;
            n = b.second.seconds;
            down = subst (λ (v : ℕ). HasArc into2 v p b.first.seconds) (sym b.is_m) first;
            up = subst (λ (v : ℕ). HasArc out2 v q b.second.seconds) (sym b.is_m) second;
            total = b.total;
          }
        where
          left_apart : (p : ℕ) (x : CoreArc) → Contains ins x → x.to.0 ≡ p → p ≡ m → ⊥
          left_apart p x c e f =
              built_clean.into_fits.apart m x.to.0 x.seconds (x.middle.0, subst (λ (r : List CoreArc). Contains r x) ins_are c) (sym (e ∙ f))

          right_apart : (q : ℕ) (y : CoreArc) → Contains outs y → y.to.0 ≡ q → q ≡ m → ⊥
          right_apart q y c e f =
              built_clean.out_fits.apart m y.to.0 y.seconds (y.middle.0, subst (λ (r : List CoreArc). Contains r y) outs_are c) (sym (e ∙ f))

      ruled_still : (p q l mid : ℕ) → IsRuled graph (view_of out into rank) p q l mid → IsRuled graph (view_of out2 into2 (slice_set rank m count)) p q l mid
      ruled_still p q l mid (inl street) = inl street
      ruled_still p q l mid (inr has) = inr (middle_after p q l mid has)

      pub ruled_after : Ruled graph (view_of out into rank) → Ruled graph (view_of out2 into2 (slice_set rank m count))
      ruled_after ruled =
          record {
            out = λ p z c. elim (done.only.out p z c) [
              | inl d ↦ ruled_still p z.to.0 z.seconds z.middle.0 (ruled.out p z (clean_only out out' m rank clean_out p z d))
              | inr b ↦ inr (bridge_after p z.to.0 z.seconds z.middle.0 b)
            ];
            into = λ q z c. elim (done.only.into q z c) [
              | inl d ↦ ruled_still z.to.0 q z.seconds z.middle.0 (ruled.into q z (clean_only into into' m rank clean_into q z d))
              | inr b ↦ inr (bridge_after z.to.0 q z.seconds z.middle.0 b)
            ];
          }
