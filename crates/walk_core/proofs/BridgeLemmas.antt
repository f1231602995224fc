-- Steps of a contraction.
use Rattle.std.proofs.Common.{◌≡◌, ◌≢◌, ℕ, ◌+◌, ◌<◌, ◌≤◌, ◌⊎◌, List, length, slice_index_or, arith, refl, sym, ap, subst, inl, inr, ◌∙◌}
use Rattle.std.specs.Prelude.{Contains}
use Rattle.std.proofs.lemmas.Bool.{cases_eq}
use Rattle.std.proofs.lemmas.List.Elements.{Contains-get_or}
use Rattle.std.proofs.lemmas.List.{get_or_default}
use Rattle.move_model.specs.declared.network.NodeNo.{NodeNo}
use Rattle.move_model.specs.Streets.{Streets}
use Rattle.walk_laws.specs.declared.CoreArc.{CoreArc}
use Rattle.walk_laws.specs.Sums.{IsSum, IsStreet, View, HasArc, HasWithin, IsRest, rank_of, longest, last_rank}
use Rattle.walk_laws.proofs.SumLemmas.{IsSum-append, IsSum-one, IsSum-map, IsWithin}
use Rattle.walk_core.specs.Core.{HasDifferentEnds}
use Rattle.walk_core.specs.Row.{is_last, HasNoLonger}
use Rattle.walk_core.specs.Rows.{Puts, row_of}
use Rattle.walk_core.specs.Search.{Fits, Avoids}
use Rattle.walk_core.specs.Bridge.{view_of, IsBuilt, Grows, Real, Spans, IsSpanned, PairDone, RowDone, AllDone, OnlyBridges, IsFrozen}

-- a row and its arcs

within_from_row : (rows : List (List CoreArc)) (p : ℕ) (arc : CoreArc) → HasNoLonger (row_of rows p) arc → HasWithin rows p arc.to.0 arc.seconds
within_from_row rows p arc n =
    record {
      l = n.it.seconds;
      stands = (
        n.it.middle.0,
        subst (λ (b : ℕ). Contains (row_of rows p) (record { to = record { 0 = b }; seconds = n.it.seconds; middle = n.it.middle })) n.same n.stands,
      );
      within = n.within;
    }

pub HasWithin-itself : (rows : List (List CoreArc)) (p q l : ℕ) → HasArc rows p q l → HasWithin rows p q l
HasWithin-itself rows p q l arc = record { l = l; stands = arc; within = omega arith }

-- the arc that was put, or one that stood there
record IsThis (p : ℕ) (arc : CoreArc) (a b k : ℕ) : Type 0 where
  from_is : a ≡ p
  to_is : b ≡ arc.to.0
  seconds_is : k ≡ arc.seconds

module _ (old new : List (List CoreArc)) (p : ℕ) (arc : CoreArc) (puts : Puts old new p arc) where
  arc_from_put : (a b k : ℕ) → HasArc new a b k → HasArc old a b k ⊎ IsThis p arc a b k
  arc_from_put a b k (middle, stands) =
      let x : CoreArc = record { to = record { 0 = b }; seconds = k; middle = record { 0 = middle } } in
      elim (cases_eq a p) [
        | inl e ↦ elim (puts.here.only x (subst (λ (v : ℕ). Contains (row_of new v) x) e stands)) [
          | inl c ↦ inl (middle, subst (λ (v : ℕ). Contains (row_of old v) x) (sym e) c)
          | inr same ↦ inr (record { from_is = e; to_is = ap (λ (y : CoreArc). y.to.0) same; seconds_is = ap (λ (y : CoreArc). y.seconds) same })
        ]
        | inr ne ↦ inl (middle, subst (λ (r : List CoreArc). Contains r x) (puts.others a ne) stands)
      ]

  arc_stays_put : (a b k : ℕ) → HasArc old a b k → HasWithin new a b k
  arc_stays_put a b k (middle, stands) =
      let x : CoreArc = record { to = record { 0 = b }; seconds = k; middle = record { 0 = middle } } in
      elim (cases_eq a p) [
        | inl e ↦
            subst (λ (v : ℕ). HasWithin new v b k) (sym e)
            (within_from_row new p x (puts.here.stays x (subst (λ (v : ℕ). Contains (row_of old v) x) e stands)))
        | inr ne ↦ HasWithin-itself new a b k (middle, subst (λ (r : List CoreArc). Contains r x) (sym (puts.others a ne)) stands)
      ]

  arc_put : HasWithin new p arc.to.0 arc.seconds
  arc_put = within_from_row new p arc puts.here.put

  fits_put : (count : ℕ) → p ≢ arc.to.0 → 1 ≤ p → 1 ≤ arc.to.0 → arc.to.0 < count → arc.seconds ≤ longest → Fits old count → Fits new count
  fits_put count ne p_one to_one low short fits =
      record {
        many = puts.many ∙ fits.many;
        ends = λ a b k h. elim (arc_from_put a b k h) [
          | inl c ↦ fits.ends a b k c
          | inr t ↦ omega (arith, t.to_is)
        ];
        short = λ a b k h. elim (arc_from_put a b k h) [
          | inl c ↦ fits.short a b k c
          | inr t ↦ omega (arith, t.seconds_is)
        ];
        apart = λ a b k h. elim (arc_from_put a b k h) [
          | inl c ↦ fits.apart a b k c
          | inr t ↦ λ e. ne (sym t.from_is ∙ e ∙ t.to_is)
        ];
        from_one = λ a b k h. elim (arc_from_put a b k h) [
          | inl c ↦ fits.from_one a b k c
          | inr t ↦ (omega (arith, t.from_is), omega (arith, t.to_is))
        ];
      }

  ends_at_put : ((v : ℕ) → HasDifferentEnds (row_of old v)) → (v : ℕ) → HasDifferentEnds (row_of new v)
  ends_at_put ends v = elim (cases_eq v p) [
    | inl e ↦ subst (λ (k : ℕ). HasDifferentEnds (row_of new k)) (sym e) (puts.ends (ends p))
    | inr ne ↦ subst (λ (r : List CoreArc). HasDifferentEnds r) (sym (puts.others v ne)) (ends v)
  ]

-- growth

pub Grows-none : (w : View) → Grows w w
Grows-none w =
    record {
      rank = refl;
      out_stays = λ p q l le arc. HasWithin-itself w.out p q l arc;
      into_stays = λ p q l le arc. HasWithin-itself w.into q p l arc;
    }

HasWithin-more : (rows : List (List CoreArc)) (p q k l : ℕ) → HasWithin rows p q k → k ≤ l → HasWithin rows p q l
HasWithin-more rows p q k l w le = record { l = w.l; stands = w.stands; within = omega (arith, w.within) }

rank_same : (one two : View) → two.rank ≡ one.rank → (v : ℕ) → rank_of two v ≡ rank_of one v
rank_same one two e v = ap (λ (r : List ℕ). slice_index_or r v last_rank) e

pub Grows-join : (one two three : View) → Grows one two → Grows two three → Grows one three
Grows-join one two three f g =
    record {
      rank = g.rank ∙ f.rank;
      out_stays = λ p q l le arc.
          let a = f.out_stays p q l le arc in
          HasWithin-more three.out p q a.l l
          (g.out_stays p q a.l (omega (arith, rank_same one two f.rank p, rank_same one two f.rank q)) a.stands) a.within;
      into_stays = λ p q l le arc.
          let a = f.into_stays p q l le arc in
          HasWithin-more three.into q p a.l l
          (g.into_stays p q a.l (omega (arith, rank_same one two f.rank p, rank_same one two f.rank q)) a.stands) a.within;
    }

pub Spans-grows : (old new : View) (m p q s : ℕ) → Grows old new → Spans old m p q s → Spans new m p q s
Spans-grows old new m p q s grows spans =
    let e = rank_same old new grows.rank in
    let each : (a b l : ℕ) → Avoids old.out old.rank m a b l → IsWithin (Avoids new.out new.rank m) a b l =
    λ a b l arc.
    let w : HasWithin new.out a b l = grows.out_stays a b l (omega (arith, arc.from_left, arc.to_left)) arc.stands in
    record {
      l = w.l;
      sum = IsSum-one (record {
        from_left = e a ∙ arc.from_left;
        to_left = e b ∙ arc.to_left;
        from_other = arc.from_other;
        to_other = arc.to_other;
        stands = w.stands;
      });
      within = w.within;
    } in
    let whole : IsWithin (Avoids new.out new.rank m) p q spans.l = IsSum-map each spans.sum in
    record { l = whole.l; sum = whole.sum; within = omega (arith, whole.within, spans.within) }

pub IsSpanned-grows : (old new : View) (m : ℕ) (x y : CoreArc) → Grows old new → IsSpanned old m x y → IsSpanned new m x y
IsSpanned-grows old new m x y grows spans = λ ne short. Spans-grows old new m x.to.0 y.to.0 (x.seconds + y.seconds) grows (spans ne short)

pub OnlyBridges-none : (rank : List ℕ) (m : ℕ) (ins outs : List CoreArc) (w : View) → OnlyBridges rank m ins outs w w
OnlyBridges-none rank m ins outs w =
    record { out = λ p z c. inl c; into = λ q z c. inl c; frozen_out = λ p f. refl; frozen_into = λ p f. refl }

pub OnlyBridges-join : (rank : List ℕ) (m : ℕ) (ins outs : List CoreArc) (one two three : View)
    → OnlyBridges rank m ins outs one two → OnlyBridges rank m ins outs two three → OnlyBridges rank m ins outs one three
OnlyBridges-join rank m ins outs one two three f g =
    record {
      out = λ p z c. elim (g.out p z c) [ inl d ↦ f.out p z d | inr b ↦ inr b ];
      into = λ q z c. elim (g.into q z c) [ inl d ↦ f.into q z d | inr b ↦ inr b ];
      frozen_out = λ p h. g.frozen_out p h ∙ f.frozen_out p h;
      frozen_into = λ p h. g.frozen_into p h ∙ f.frozen_into p h;
    }

only_at : (rank rank' : List ℕ) (m : ℕ) (ins outs : List CoreArc) (old new : View) → rank ≡ rank' → OnlyBridges rank m ins outs old new → OnlyBridges rank' m ins outs old new
only_at rank rank' m ins outs old new e only = subst (λ (r : List ℕ). OnlyBridges r m ins outs old new) e only

-- a pair that needs no arc
pub PairDone-none : (m : ℕ) (x y : CoreArc) (w : View) → IsBuilt w → IsSpanned w m x y → PairDone m x y w w
PairDone-none m x y w built spans =
    record {
      built = built;
      grows = Grows-none w;
      real = λ graph first second real. real;
      spans = spans;
      only = λ ins outs a b. OnlyBridges-none w.rank m ins outs w;
    }

-- an arc is put on both sides
pub record BothPut (p q l : ℕ) (old new : View) : Type 0 where
  pub built : IsBuilt new
  pub grows : Grows old new
  pub real : (graph : Streets) → IsSum (IsStreet graph) p q l → Real graph old → Real graph new
  pub put : HasWithin new.out p q l

module _ (p q : NodeNo) (l : ℕ) (middle : NodeNo) (out out' into into' : List (List CoreArc)) (rank : List ℕ)
    (built : IsBuilt (view_of out into rank)) (ends_apart : p.0 ≢ q.0) (p_one : 1 ≤ p.0) (q_one : 1 ≤ q.0) (p_low : p.0 < length rank) (q_low : q.0 < length rank) (short : l ≤ longest)
    (puts_out : Puts out out' p.0 (record { seconds = l; to = q; middle = middle }))
    (puts_into : Puts into into' q.0 (record { seconds = l; to = p; middle = middle })) where
  into_put : HasWithin into' q.0 p.0 l
  into_put = arc_put into into' q.0 (record { seconds = l; to = p; middle = middle }) puts_into

  mirrored_put : (a b k : ℕ) → IsRest (view_of out' into' rank) a b k → HasWithin into' b a k
  mirrored_put a b k rest = elim (arc_from_put out out' p.0 _ puts_out a b k rest.stands) [
    | inl c ↦
        let was : HasWithin into b a k = built.mirrored a b k (record { from_left = record { is_left = rest.from_left.is_left }; to_left = record { is_left = rest.to_left.is_left }; stands = c }) in
        HasWithin-more into' b a was.l k (arc_stays_put into into' q.0 _ puts_into b a was.l was.stands) was.within
    | inr t ↦
        HasWithin-more into' b a l k
        (subst (λ (v : ℕ). HasWithin into' v a l) (sym t.to_is)
        (subst (λ (v : ℕ). HasWithin into' q.0 v l) (sym t.from_is) into_put))
        (omega (arith, t.seconds_is))
  ]

  module _ (graph : Streets) (whole : IsSum (IsStreet graph) p.0 q.0 l) where
    same_sum : (a b k : ℕ) → a ≡ p.0 → b ≡ q.0 → k ≡ l → IsSum (IsStreet graph) a b k
    same_sum a b k e f g =
        subst (λ (v : ℕ). IsSum (IsStreet graph) v b k) (sym e)
        (subst (λ (v : ℕ). IsSum (IsStreet graph) p.0 v k) (sym f)
        (subst (λ (v : ℕ). IsSum (IsStreet graph) p.0 q.0 v) (sym g) whole))

    real_put : Real graph (view_of out into rank) → Real graph (view_of out' into' rank)
    real_put real =
        record {
          out = λ a b k arc. elim (arc_from_put out out' p.0 _ puts_out a b k arc) [
            | inl c ↦ real.out a b k c
            | inr t ↦ same_sum a b k t.from_is t.to_is t.seconds_is
          ];
          into = λ a b k arc. elim (arc_from_put into into' q.0 _ puts_into b a k arc) [
            | inl c ↦ real.into a b k c
            | inr t ↦ same_sum a b k t.to_is t.from_is t.seconds_is
          ];
        }

  pub both_put : BothPut p.0 q.0 l (view_of out into rank) (view_of out' into' rank)
  both_put =
      record {
        built = record {
          out_fits = fits_put out out' p.0 _ puts_out (length rank) ends_apart p_one q_one q_low short built.out_fits;
          into_fits = fits_put into into' q.0 _ puts_into (length rank) (λ e. ends_apart (sym e)) q_one p_one p_low short built.into_fits;
          mirrored = mirrored_put;
          out_ends = ends_at_put out out' p.0 _ puts_out built.out_ends;
          into_ends = ends_at_put into into' q.0 _ puts_into built.into_ends;
        };
        grows = record {
          rank = refl;
          out_stays = λ a b k le arc. arc_stays_put out out' p.0 _ puts_out a b k arc;
          into_stays = λ a b k le arc. arc_stays_put into into' q.0 _ puts_into b a k arc;
        };
        real = real_put;
        put = arc_put out out' p.0 (record { seconds = l; to = q; middle = middle }) puts_out;
      }

-- a pair for which an arc is put
pub PairDone-put : (m : ℕ) (x y : CoreArc) (old new : View)
    → is_last new.rank x.to.0 → is_last new.rank y.to.0 → x.to.0 ≢ m → y.to.0 ≢ m
    → BothPut x.to.0 y.to.0 (x.seconds + y.seconds) old new
    → ((ins outs : List CoreArc) → Contains ins x → Contains outs y → OnlyBridges new.rank m ins outs old new)
    → PairDone m x y old new
PairDone-put m x y old new x_left y_left x_other y_other put only =
    record {
      built = put.built;
      grows = put.grows;
      real = λ graph first second real. put.real graph (IsSum-append first second) real;
      spans = λ ne _.
          record {
            l = put.put.l;
            sum = IsSum-one (record { from_left = x_left; to_left = y_left; from_other = x_other; to_other = y_other; stands = put.put.stands });
            within = put.put.within;
          };
      only = only;
    }

pub row_only : (rows rows' : List (List CoreArc)) (p : ℕ) (arc : CoreArc) → Puts rows rows' p arc → (a : ℕ) (z : CoreArc) → Contains (row_of rows' a) z
    → Contains (row_of rows a) z ⊎ ((a ≡ p) × (z ≡ arc))
row_only rows rows' p arc puts a z c = elim (cases_eq a p) [
  | inl e ↦ elim (puts.here.only z (subst (λ (v : ℕ). Contains (row_of rows' v) z) e c)) [
    | inl d ↦ inl (subst (λ (v : ℕ). Contains (row_of rows v) z) (sym e) d)
    | inr same ↦ inr (e, same)
  ]
  | inr ne ↦ inl (subst (λ (r : List CoreArc). Contains r z) (puts.others a ne) c)
]

not_frozen : (rank : List ℕ) (m p v : ℕ) → is_last rank v → v ≢ m → IsFrozen rank m p → p ≢ v
not_frozen rank m p v left other (inl e) = λ same. other (sym same ∙ e)
not_frozen rank m p v left other (inr lt) = λ same. omega (arith, left, ap (λ (x : ℕ). slice_index_or rank x last_rank) same)

-- only bridges were put
pub only_put : (m : ℕ) (x y : CoreArc) (out out' into into' : List (List CoreArc)) (rank : List ℕ)
    → is_last rank x.to.0 → is_last rank y.to.0 → x.to.0 ≢ m → y.to.0 ≢ m
    → Puts out out' x.to.0 (record { seconds = x.seconds + y.seconds; to = y.to; middle = record { 0 = m } })
    → Puts into into' y.to.0 (record { seconds = x.seconds + y.seconds; to = x.to; middle = record { 0 = m } })
    → (ins outs : List CoreArc) → Contains ins x → Contains outs y → OnlyBridges rank m ins outs (view_of out into rank) (view_of out' into' rank)
only_put m x y out out' into into' rank x_left y_left x_other y_other puts_out puts_into ins outs x_in y_in =
    record {
      out = λ p z c. elim (row_only out out' x.to.0 _ puts_out p z c) [
        | inl d ↦ inl d
        | inr t ↦ inr (record {
          is_m = ap (λ (a : CoreArc). a.middle.0) t.1;
          from_left = subst (λ (v : ℕ). is_last rank v) (sym t.0) x_left;
          to_left = subst (λ (v : ℕ). is_last rank v) (ap (λ (a : CoreArc). a.to.0) (sym t.1)) y_left;
          first = x;
          second = y;
          first_in = x_in;
          second_in = y_in;
          first_to = sym t.0;
          second_to = ap (λ (a : CoreArc). a.to.0) (sym t.1);
          total = ap (λ (a : CoreArc). a.seconds) t.1;
        })
      ];
      into = λ q z c. elim (row_only into into' y.to.0 _ puts_into q z c) [
        | inl d ↦ inl d
        | inr t ↦ inr (record {
          is_m = ap (λ (a : CoreArc). a.middle.0) t.1;
          from_left = subst (λ (v : ℕ). is_last rank v) (ap (λ (a : CoreArc). a.to.0) (sym t.1)) x_left;
          to_left = subst (λ (v : ℕ). is_last rank v) (sym t.0) y_left;
          first = x;
          second = y;
          first_in = x_in;
          second_in = y_in;
          first_to = ap (λ (a : CoreArc). a.to.0) (sym t.1);
          second_to = sym t.0;
          total = ap (λ (a : CoreArc). a.seconds) t.1;
        })
      ];
      frozen_out = λ p f. puts_out.others p (not_frozen rank m p x.to.0 x_left x_other f);
      frozen_into = λ p f. puts_into.others p (not_frozen rank m p y.to.0 y_left y_other f);
    }

-- a row, one arc out more
pub RowDone-none : (m : ℕ) (x : CoreArc) (outs : List CoreArc) (w : View) → IsBuilt w → RowDone m x outs 0 w w
RowDone-none m x outs w built =
    record { built = built; grows = Grows-none w; real = λ graph first second real. real; spans = λ k d lt. absurd (omega arith); only = λ ins a. OnlyBridges-none w.rank m ins outs w }

pub RowDone-more : (m : ℕ) (x : CoreArc) (outs : List CoreArc) (i : ℕ) (d : CoreArc) (old w new : View) → i < length outs
    → RowDone m x outs i old w → PairDone m x (slice_index_or outs i d) w new → RowDone m x outs (i + 1) old new
RowDone-more m x outs i d old w new lt row pair =
    record {
      built = pair.built;
      grows = Grows-join old w new row.grows pair.grows;
      real = λ graph first second real. pair.real graph first (second i d lt) (row.real graph first second real);
      spans = λ k e le. elim (cases_eq k i) [
        | inl same ↦
            let at : slice_index_or outs i d ≡ slice_index_or outs k e =
            get_or_default outs i d e lt ∙ ap (λ (j : ℕ). slice_index_or outs j e) (sym same) in
            subst (λ (z : CoreArc). IsSpanned new m x z) at pair.spans
        | inr ne ↦ IsSpanned-grows w new m x (slice_index_or outs k e) pair.grows (row.spans k e (omega arith))
      ];
      only = λ ins a.
          OnlyBridges-join new.rank m ins outs old w new (only_at w.rank new.rank m ins outs old w (sym pair.grows.rank) (row.only ins a))
          (pair.only ins outs a (Contains-get_or outs i d lt));
    }

pub AllDone-none : (m : ℕ) (ins outs : List CoreArc) (w : View) → IsBuilt w → AllDone m ins outs 0 w w
AllDone-none m ins outs w built =
    record { built = built; grows = Grows-none w; real = λ graph first second real. real; spans = λ k j d lt lt'. absurd (omega arith); only = OnlyBridges-none w.rank m ins outs w }

pub AllDone-more : (m : ℕ) (ins outs : List CoreArc) (i : ℕ) (d : CoreArc) (old w new : View) → i < length ins
    → AllDone m ins outs i old w → RowDone m (slice_index_or ins i d) outs (length outs) w new → AllDone m ins outs (i + 1) old new
AllDone-more m ins outs i d old w new lt all row =
    record {
      built = row.built;
      grows = Grows-join old w new all.grows row.grows;
      real = λ graph first second real. row.real graph (first i d lt) second (all.real graph first second real);
      spans = λ k j e le low. elim (cases_eq k i) [
        | inl same ↦
            let at : slice_index_or ins i d ≡ slice_index_or ins k e =
            get_or_default ins i d e lt ∙ ap (λ (j : ℕ). slice_index_or ins j e) (sym same) in
            subst (λ (z : CoreArc). IsSpanned new m z (slice_index_or outs j e)) at (row.spans j e low)
        | inr ne ↦ IsSpanned-grows w new m (slice_index_or ins k e) (slice_index_or outs j e) row.grows (all.spans k j e (omega arith) low)
      ];
      only =
          OnlyBridges-join new.rank m ins outs old w new (only_at w.rank new.rank m ins outs old w (sym row.grows.rank) all.only)
          (row.only ins (Contains-get_or ins i d lt));
    }
