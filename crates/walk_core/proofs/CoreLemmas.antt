-- A core is a contraction of its graph.
use Rattle.std.proofs.Common.{◌≡◌, ℕ, ◌+◌, ◌<◌, ◌≤◌, ◌⊎◌, ◌==◌, Bool, true, false, cond, List, [], length, slice_index_or, Some, arith, refl, sym, ap, subst, inl, inr, ◌∙◌}
use Rattle.std.specs.Prelude.{Contains, slice_get, All}
use Rattle.std.proofs.lemmas.Bool.{cases_lt, eqb-false, eq-eqb, ne_eqb}
use Rattle.std.proofs.lemmas.List.{get_or_past}
use Rattle.std.proofs.lemmas.List.Folds.{list_any-from_Any, list_any_none}
use Rattle.std.proofs.lemmas.List.Elements.{Contains-get_or}
use Rattle.std.proofs.lemmas.Option.{slice_get_within, slice_get-get_or, get_or_from_slice_get}
use Rattle.pareto_laws.proofs.DistanceBound.{distance_within_limits}
use Rattle.move_model.specs.declared.network.NodeNo.{NodeNo}
use Rattle.move_model.specs.Streets.{Streets, IsVertex}
use Rattle.street_graph.specs.Graph.{IsWithinLimits}
use Rattle.walk_laws.specs.declared.CoreArc.{CoreArc}
use Rattle.walk_laws.specs.Sums.{IsSum, IsStreet, HasArc, IsUp, IsDown, IsRest, last_rank, Leads, IsShort}
use Rattle.walk_laws.specs.Sums.IsSum.{none, more}
use Rattle.walk_laws.proofs.SumLemmas.{IsSum-one, IsSum-join, IsSum-append}
use Rattle.walk_laws.proofs.Least.{same_least, shorter}
use Rattle.walk_core.specs.Middles.{IsRuled}
use Rattle.walk_core.specs.Ranks.{IsPlaced, IsOrdered, AreRanks}
use Rattle.walk_core.specs.Core.{is_contracted, core_row, up_row, down_row, Holds, IsBefore, IsCoreArc, IsArcUp, IsArcDown, IsWay, HasDifferentEnds, AreArcs, IsUnfolded, AreUnfolded, IsContraction}
use Rattle.walk_core.specs.Row.{left_by, is_last}
use Rattle.walk_core.specs.Rows.{row_of}
use Rattle.walk_core.specs.Bridge.{view_of, IsUnranked}
use Rattle.walk_core.specs.State.{contraction_of, IsClean, IsSound, IsRight, IsStored, CleansLeft, Advances}
use Rattle.walk_core.proofs.StateLemmas.{IsSound-clean_out, IsRight-clean_out}

-- vertices of the core, by their ranks

pub is_left_or_gone : (rank : List ℕ) (contracted : List NodeNo) (v : ℕ) → IsOrdered rank contracted → is_last rank v ⊎ (slice_index_or rank v last_rank < last_rank)
is_left_or_gone rank contracted v ordered = elim (cases_lt (slice_index_or rank v last_rank) last_rank) [
  | inl lt ↦ inr lt
  | inr ge ↦ inl (omega (arith, ge, ordered.ranks v))
]

pub contains_from_get : (xs : List NodeNo) (k : ℕ) (v : NodeNo) → slice_get xs k ≡ Some v → Contains xs v
contains_from_get xs k v e = (k, slice_get_within xs k v e, get_or_from_slice_get xs k v v e)

pub get_from_contains : (xs : List NodeNo) (v : NodeNo) (c : Contains xs v) → slice_get xs c.0 ≡ Some v
get_from_contains xs v (k, lt, e) = slice_get-get_or xs k v lt ∙ ap Some e

module _ (nodes : ℕ) (out into : List (List CoreArc)) (rank : List ℕ) (contracted : List NodeNo) (stored : AreRanks nodes rank contracted) where
  pub Holds-from_left : (v : NodeNo) → 1 ≤ v.0 → v.0 ≤ nodes → is_last rank v.0 → Holds (contraction_of nodes out into rank contracted) v
  Holds-from_left v one low left =
      record {
        from_one = one;
        to_nodes = low;
        stays = λ c.
            let e = get_from_contains contracted v c in
            let placed : IsPlaced rank c.0 v = stored.ordered.back c.0 v e in
            let lt : c.0 < length contracted = slice_get_within contracted c.0 v e in
            omega (arith, left, placed.rank_is, lt, stored.ordered.few, stored.ordered.small);
      }

  pub left_from_Holds : (v : NodeNo) → Holds (contraction_of nodes out into rank contracted) v → is_last rank v.0
  left_from_Holds v holds = elim (is_left_or_gone rank contracted v.0 stored.ordered) [
    | inl left ↦ left
    | inr lt ↦ absurd (holds.stays (contains_from_get contracted _ v (stored.ordered.place v.0 lt)))
  ]

  pub IsBefore-from_ranks : (v w : NodeNo) → slice_index_or rank v.0 last_rank < slice_index_or rank w.0 last_rank → IsBefore (contraction_of nodes out into rank contracted) v w
  IsBefore-from_ranks v w lt =
      let below : slice_index_or rank v.0 last_rank < last_rank = omega (arith, lt, stored.ordered.ranks w.0) in
      record {
        place = slice_index_or rank v.0 last_rank;
        there = stored.ordered.place v.0 below;
        later = λ k e. omega (arith, lt, (stored.ordered.back k w e).rank_is);
      }

  -- a list by cases

  pub is_gone : (v : ℕ) → slice_index_or rank v last_rank < last_rank → is_contracted (contraction_of nodes out into rank contracted) v ≡ true
  is_gone v lt =
      let there : slice_get contracted (slice_index_or rank v last_rank) ≡ Some (record { 0 = v }) = stored.ordered.place v lt in
      list_any-from_Any (λ (w : NodeNo). w.0 == v) contracted
      (slice_index_or rank v last_rank, record { 0 = v }, slice_get_within contracted _ _ there, get_or_from_slice_get contracted _ _ _ there, eq-eqb v v refl)

  pub is_there : (v : ℕ) → is_last rank v → is_contracted (contraction_of nodes out into rank contracted) v ≡ false
  is_there v left = list_any_none (λ (w : NodeNo). w.0 == v) contracted (λ k d lt. ne_eqb _ _ (λ e.
      let placed : IsPlaced rank k (slice_index_or contracted k d) = stored.ordered.back k _ (slice_get-get_or contracted k d lt) in
      omega (arith, left, placed.rank_is, lt, stored.ordered.few, stored.ordered.small, ap (λ (x : ℕ). slice_index_or rank x last_rank) e)))

  pub out_is : (v : ℕ) → is_last rank v → core_row (contraction_of nodes out into rank contracted) v ≡ row_of out v
  out_is v left = ap (λ b. cond b [] (row_of out v)) (is_there v left)

  pub out_gone : (v : ℕ) → slice_index_or rank v last_rank < last_rank → core_row (contraction_of nodes out into rank contracted) v ≡ []
  out_gone v lt = ap (λ b. cond b [] (row_of out v)) (is_gone v lt)

  pub up_is : (v : ℕ) → slice_index_or rank v last_rank < last_rank → up_row (contraction_of nodes out into rank contracted) v ≡ row_of out v
  up_is v lt = ap (λ b. cond b (row_of out v) []) (is_gone v lt)

  pub up_left : (v : ℕ) → is_last rank v → up_row (contraction_of nodes out into rank contracted) v ≡ []
  up_left v left = ap (λ b. cond b (row_of out v) []) (is_there v left)

  pub down_is : (v : ℕ) → slice_index_or rank v last_rank < last_rank → down_row (contraction_of nodes out into rank contracted) v ≡ row_of into v
  down_is v lt = ap (λ b. cond b (row_of into v) []) (is_gone v lt)

  pub down_left : (v : ℕ) → is_last rank v → down_row (contraction_of nodes out into rank contracted) v ≡ []
  down_left v left = ap (λ b. cond b (row_of into v) []) (is_there v left)

  -- and by the test of a rank

  pub gone_from_test : (v : ℕ) → left_by rank v ≡ false → slice_index_or rank v last_rank < last_rank
  gone_from_test v e = elim (is_left_or_gone rank contracted v stored.ordered) [
    | inl left ↦ absurd (eqb-false _ _ e left)
    | inr lt ↦ lt
  ]

no_item : {X : Type 0} (row : List X) (x : X) → row ≡ [] → Contains row x → ⊥
no_item row x e c = let n = ap length e in omega (arith, c.1, n)

no_ends : (row : List CoreArc) → row ≡ [] → HasDifferentEnds row
no_ends row e = λ i j d before low. let n = ap length e in absurd (omega (arith, low, n))

pub row_low : (rank : List ℕ) (rows : List (List CoreArc)) (v : ℕ) (x : CoreArc) → length rows ≡ length rank → Contains (row_of rows v) x → v < length rank
row_low rank rows v x many c = elim (cases_lt v (length rank)) [
  | inl lt ↦ lt
  | inr ge ↦ absurd (no_item _ x (get_or_past rows v [] (omega (arith, many, ge))) c)
]

module _ (graph : Streets) (limits : IsWithinLimits graph) (out into : List (List CoreArc)) (rank : List ℕ) (contracted : List NodeNo) (stored : AreRanks graph.nodes rank contracted)
    (sound : IsSound (view_of out into rank) contracted) (clean : IsClean (view_of out into rank)) (right : IsRight graph (view_of out into rank)) where
  -- arcs of the lists, and of the rows

  has_out : (p : ℕ) (x : CoreArc) → Contains (core_row (contraction_of graph.nodes out into rank contracted) p) x → is_last rank p × Contains (row_of out p) x
  has_out p x c = elim (is_left_or_gone rank contracted p sound.ordered) [
    | inl left ↦ (left, subst (λ (r : List CoreArc). Contains r x) (out_is graph.nodes out into rank contracted stored p left) c)
    | inr lt ↦ absurd (no_item _ x (out_gone graph.nodes out into rank contracted stored p lt) c)
  ]

  has_up : (p : ℕ) (x : CoreArc) → Contains (up_row (contraction_of graph.nodes out into rank contracted) p) x → (slice_index_or rank p last_rank < last_rank) × Contains (row_of out p) x
  has_up p x c = elim (is_left_or_gone rank contracted p sound.ordered) [
    | inl left ↦ absurd (no_item _ x (up_left graph.nodes out into rank contracted stored p left) c)
    | inr lt ↦ (lt, subst (λ (r : List CoreArc). Contains r x) (up_is graph.nodes out into rank contracted stored p lt) c)
  ]

  has_down : (q : ℕ) (x : CoreArc) → Contains (down_row (contraction_of graph.nodes out into rank contracted) q) x → (slice_index_or rank q last_rank < last_rank) × Contains (row_of into q) x
  has_down q x c = elim (is_left_or_gone rank contracted q sound.ordered) [
    | inl left ↦ absurd (no_item _ x (down_left graph.nodes out into rank contracted stored q left) c)
    | inr lt ↦ (lt, subst (λ (r : List CoreArc). Contains r x) (down_is graph.nodes out into rank contracted stored q lt) c)
  ]

  up_arc : (p q l : ℕ) → slice_index_or rank p last_rank < last_rank → HasArc out p q l → IsArcUp (contraction_of graph.nodes out into rank contracted) p q l
  up_arc p q l lt (middle, c) =
      (middle, subst (λ (r : List CoreArc). Contains r (record { to = record { 0 = q }; seconds = l; middle = record { 0 = middle } })) (sym (up_is graph.nodes out into rank contracted stored p lt)) c)

  down_arc : (p q l : ℕ) → slice_index_or rank q last_rank < last_rank → HasArc into q p l → IsArcDown (contraction_of graph.nodes out into rank contracted) p q l
  down_arc p q l lt (middle, c) =
      (middle, subst (λ (r : List CoreArc). Contains r (record { to = record { 0 = p }; seconds = l; middle = record { 0 = middle } })) (sym (down_is graph.nodes out into rank contracted stored q lt)) c)

  core_arc : (p q l : ℕ) → is_last rank p → HasArc out p q l → IsCoreArc (contraction_of graph.nodes out into rank contracted) p q l
  core_arc p q l left (middle, c) =
      (middle, subst (λ (r : List CoreArc). Contains r (record { to = record { 0 = q }; seconds = l; middle = record { 0 = middle } })) (sym (out_is graph.nodes out into rank contracted stored p left)) c)

  -- the vertices of arcs

  core_vertex : (v : ℕ) → 1 ≤ v → v < length rank → is_last rank v → Holds (contraction_of graph.nodes out into rank contracted) (record { 0 = v })
  core_vertex v one low left = Holds-from_left graph.nodes out into rank contracted stored (record { 0 = v }) one (omega (arith, low, stored.many)) left

  out_in_core : (v : NodeNo) (x : CoreArc) → Contains (core_row (contraction_of graph.nodes out into rank contracted) v.0) x
      → Holds (contraction_of graph.nodes out into rank contracted) v × Holds (contraction_of graph.nodes out into rank contracted) x.to
  out_in_core v x c =
      let has = has_out v.0 x c in
      let arc : HasArc out v.0 x.to.0 x.seconds = (x.middle.0, has.1) in
      let ones = sound.built.out_fits.from_one v.0 x.to.0 x.seconds arc in (
        core_vertex v.0 ones.0 (row_low rank out v.0 x sound.built.out_fits.many has.1) has.0,
        core_vertex x.to.0 ones.1 (sound.built.out_fits.ends v.0 x.to.0 x.seconds arc) (clean.out v.0 x.to.0 x.seconds has.0 arc),
      )

  up_later : (v : NodeNo) (x : CoreArc) → Contains (up_row (contraction_of graph.nodes out into rank contracted) v.0) x → IsBefore (contraction_of graph.nodes out into rank contracted) v x.to
  up_later v x c =
      let has = has_up v.0 x c in
      IsBefore-from_ranks graph.nodes out into rank contracted stored v x.to (sound.rises.up v.0 x.to.0 x.seconds has.0 (x.middle.0, has.1))

  down_later : (v : NodeNo) (x : CoreArc) → Contains (down_row (contraction_of graph.nodes out into rank contracted) v.0) x → IsBefore (contraction_of graph.nodes out into rank contracted) v x.to
  down_later v x c =
      let has = has_down v.0 x c in
      IsBefore-from_ranks graph.nodes out into rank contracted stored v x.to (sound.rises.down x.to.0 v.0 x.seconds has.0 (x.middle.0, has.1))

  ends_by_cases : (v : ℕ) (row list : List CoreArc) → HasDifferentEnds row → (list ≡ row) ⊎ (list ≡ []) → HasDifferentEnds list
  ends_by_cases v row list ends (inl e) = subst (λ (r : List CoreArc). HasDifferentEnds r) (sym e) ends
  ends_by_cases v row list ends (inr e) = no_ends list e

  each : {P : CoreArc → Type 0} (row : List CoreArc) → ((x : CoreArc) → Contains row x → P x) → (k : ℕ) (d : CoreArc) → k < length row → P (slice_index_or row k d)
  each row f k d lt = f (slice_index_or row k d) (Contains-get_or row k d lt)

  arcs : AreArcs (contraction_of graph.nodes out into rank contracted)
  arcs =
      record {
        out_in_core = λ v. each _ (out_in_core v);
        up_later = λ v. each _ (up_later v);
        down_later = λ v. each _ (down_later v);
        out_ends = λ v. ends_by_cases v.0 (row_of out v.0) _ (sound.built.out_ends v.0) (elim (is_left_or_gone rank contracted v.0 sound.ordered) [
          | inl left ↦ inl (out_is graph.nodes out into rank contracted stored v.0 left)
          | inr lt ↦ inr (out_gone graph.nodes out into rank contracted stored v.0 lt)
        ]);
        up_ends = λ v. ends_by_cases v.0 (row_of out v.0) _ (sound.built.out_ends v.0) (elim (is_left_or_gone rank contracted v.0 sound.ordered) [
          | inl left ↦ inr (up_left graph.nodes out into rank contracted stored v.0 left)
          | inr lt ↦ inl (up_is graph.nodes out into rank contracted stored v.0 lt)
        ]);
        down_ends = λ v. ends_by_cases v.0 (row_of into v.0) _ (sound.built.into_ends v.0) (elim (is_left_or_gone rank contracted v.0 sound.ordered) [
          | inl left ↦ inr (down_left graph.nodes out into rank contracted stored v.0 left)
          | inr lt ↦ inl (down_is graph.nodes out into rank contracted stored v.0 lt)
        ]);
        out_short = λ v. each _ (λ x c. sound.built.out_fits.short v.0 x.to.0 x.seconds (x.middle.0, (has_out v.0 x c).1));
        up_short = λ v. each _ (λ x c. sound.built.out_fits.short v.0 x.to.0 x.seconds (x.middle.0, (has_up v.0 x c).1));
        down_short = λ v. each _ (λ x c. sound.built.into_fits.short v.0 x.to.0 x.seconds (x.middle.0, (has_down v.0 x c).1));
      }

  -- middles

  unfolded_of : (p q : NodeNo) (l : ℕ) (m : NodeNo) → IsRuled graph (view_of out into rank) p.0 q.0 l m.0 → IsUnfolded graph (contraction_of graph.nodes out into rank contracted) p q l m
  unfolded_of p q l m (inl street) = inl street
  unfolded_of p q l m (inr has) =
      let low : slice_index_or rank m.0 last_rank < last_rank = omega (arith, has.below_from, sound.ordered.ranks p.0) in
      inr (record {
        before_from = IsBefore-from_ranks graph.nodes out into rank contracted stored m p has.below_from;
        before_to = IsBefore-from_ranks graph.nodes out into rank contracted stored m q has.below_to;
        k = has.k;
        n = has.n;
        down = down_arc p.0 m.0 has.k low has.down;
        up = up_arc m.0 q.0 has.n low has.up;
        total = has.total;
      })

  unfolded : AreUnfolded graph (contraction_of graph.nodes out into rank contracted)
  unfolded =
      record {
        out = λ v. each _ (λ x c. unfolded_of v x.to x.seconds x.middle (right.ruled.out v.0 x (has_out v.0 x c).1));
        up = λ v. each _ (λ x c. unfolded_of v x.to x.seconds x.middle (right.ruled.out v.0 x (has_up v.0 x c).1));
        down = λ v. each _ (λ x c. unfolded_of x.to v x.seconds x.middle (right.ruled.into v.0 x (has_down v.0 x c).1));
      }

  -- distances

  short : IsShort graph
  short = record { distances = λ a b m is. let lt = distance_within_limits graph limits.streets limits.nodes limits.seconds a b m is in omega (arith, lt) }

  real_core : (p q l : ℕ) → IsCoreArc (contraction_of graph.nodes out into rank contracted) p q l → IsSum (IsStreet graph) p q l
  real_core p q l (middle, c) = right.keeps.real_out p q l (middle, (has_out p _ c).1)

  real_up : (p q l : ℕ) → IsArcUp (contraction_of graph.nodes out into rank contracted) p q l → IsSum (IsStreet graph) p q l
  real_up p q l (middle, c) = right.keeps.real_out p q l (middle, (has_up p _ c).1)

  real_down : (p q l : ℕ) → IsArcDown (contraction_of graph.nodes out into rank contracted) p q l → IsSum (IsStreet graph) p q l
  real_down p q l (middle, c) = right.keeps.real_into p q l (middle, (has_down q _ c).1)

  real_way : (a b m : ℕ) → IsWay (contraction_of graph.nodes out into rank contracted) a b m → IsSum (IsStreet graph) a b m
  real_way a b m way =
      subst (λ (k : ℕ). IsSum (IsStreet graph) a b k) way.all
      (IsSum-append (IsSum-append (IsSum-join real_up way.up) (IsSum-join real_core way.over)) (IsSum-join real_down way.down))

  over_core : {g h k : ℕ} → IsSum (IsRest (view_of out into rank)) g h k → IsSum (IsCoreArc (contraction_of graph.nodes out into rank contracted)) g h k
  over_core s = IsSum-join (λ p q l arc. IsSum-one (core_arc p q l arc.from_left.is_left arc.stands)) s

  way_from_streets : (a b : NodeNo) → IsVertex graph a → (m : ℕ) → IsSum (IsStreet graph) a.0 b.0 m
      → (k : ℕ) × IsWay (contraction_of graph.nodes out into rank contracted) a.0 b.0 k × (k ≤ m)
  way_from_streets a b vertex m sum =
      let least = shorter graph limits.streets short (view_of out into rank) right.keeps {a = a.0} {b = b.0} vertex sum in
      let leads : Leads (view_of out into rank) a.0 b.0 least.0 = right.keeps.whole a.0 b.0 least.0 least.3 least.1 in
      let way : IsWay (contraction_of graph.nodes out into rank contracted) a.0 b.0 (leads.l + leads.k + leads.n) =
      record {
        top = leads.top;
        bend = leads.bend;
        l = leads.l;
        k = leads.k;
        n = leads.n;
        up = IsSum-join (λ p q l arc. IsSum-one (up_arc p q l (omega (arith, arc.rises, sound.ordered.ranks q)) arc.stands)) leads.up;
        over = over_core leads.over;
        down = IsSum-join (λ p q l arc. IsSum-one (down_arc p q l (omega (arith, arc.falls, sound.ordered.ranks p)) arc.stands)) leads.down;
        all = refl;
      } in
      (leads.l + leads.k + leads.n, way, omega (arith, leads.within, least.2))

  -- no arc leads up from a vertex of the core, and none down to it
  no_up : {a g l : ℕ} → is_last rank a → IsSum (IsUp (view_of out into rank)) a g l → (a ≡ g) × (l ≡ 0)
  no_up left none = (refl, refl)
  no_up left (more {v = v} arc rest) = absurd (omega (arith, left, arc.rises, sound.ordered.ranks v))

  no_down : {h b n : ℕ} → is_last rank b → IsSum (IsDown (view_of out into rank)) h b n → (h ≡ b) × (n ≡ 0)
  no_down left none = (refl, refl)
  no_down {h} {b} left (more {v = v} arc rest) =
      let end = no_down left rest in
      absurd (omega (arith, left, arc.falls, sound.ordered.ranks h, ap (λ (x : ℕ). slice_index_or rank x last_rank) end.0))

  core_from_streets : (a b : NodeNo) → IsVertex graph a → is_last rank a.0 → is_last rank b.0 → (m : ℕ) → IsSum (IsStreet graph) a.0 b.0 m
      → (k : ℕ) × IsSum (IsCoreArc (contraction_of graph.nodes out into rank contracted)) a.0 b.0 k × (k ≤ m)
  core_from_streets a b vertex a_left b_left m sum =
      let least = shorter graph limits.streets short (view_of out into rank) right.keeps {a = a.0} {b = b.0} vertex sum in
      let leads : Leads (view_of out into rank) a.0 b.0 least.0 = right.keeps.whole a.0 b.0 least.0 least.3 least.1 in
      let start = no_up a_left leads.up in
      let end = no_down b_left leads.down in
      let over : IsSum (IsCoreArc (contraction_of graph.nodes out into rank contracted)) leads.top leads.bend leads.k = over_core leads.over in (
        leads.k,
        subst (λ (x : ℕ). IsSum (IsCoreArc (contraction_of graph.nodes out into rank contracted)) x b.0 leads.k) (sym start.0)
            (subst (λ (x : ℕ). IsSum (IsCoreArc (contraction_of graph.nodes out into rank contracted)) leads.top x leads.k) end.0 over),
        omega (arith, leads.within, least.2),
      )

  pub IsContraction-from_state : IsContraction graph (contraction_of graph.nodes out into rank contracted)
  IsContraction-from_state =
      record {
        limits = limits;
        nodes = refl;
        ranks = stored;
        contracted = λ k d lt.
            let placed : IsPlaced rank k (slice_index_or contracted k d) = sound.ordered.back k _ (slice_get-get_or contracted k d lt) in
            record { from_one = placed.from_one; to_nodes = omega (arith, placed.low, stored.many) };
        each_once = λ i j d before low. λ e.
            let one : IsPlaced rank i (slice_index_or contracted i d) = sound.ordered.back i _ (slice_get-get_or contracted i d (omega (arith, before, low))) in
            let two : IsPlaced rank j (slice_index_or contracted j d) = sound.ordered.back j _ (slice_get-get_or contracted j d low) in
            omega (arith, before, one.rank_is, two.rank_is, ap (λ (v : NodeNo). slice_index_or rank v.0 last_rank) e);
        arcs = arcs;
        unfolded = unfolded;
        keeps = right.keeps;
        ruled = right.ruled;
        distances = λ a b r vertex.
            same_least graph limits.streets short (view_of out into rank) right.keeps a b (IsWay (contraction_of graph.nodes out into rank contracted) a.0 b.0) vertex
            (real_way a.0 b.0) (way_from_streets a b vertex) r;
        core_distances = λ a b r a_holds b_holds.
            let vertex : IsVertex graph a = record { from_one = a_holds.from_one; to_nodes = a_holds.to_nodes } in
            same_least graph limits.streets short (view_of out into rank) right.keeps a b (IsSum (IsCoreArc (contraction_of graph.nodes out into rank contracted)) a.0 b.0) vertex
            (λ m s. IsSum-join real_core s)
            (core_from_streets a b vertex (left_from_Holds graph.nodes out into rank contracted stored a a_holds) (left_from_Holds graph.nodes out into rank contracted stored b b_holds)) r;
      }

-- after all contractions the rows of the core are cleaned
module _ (graph : Streets) (limits : IsWithinLimits graph) (marks : List Bool) (out0 into0 : List (List CoreArc)) (rank0 : List ℕ) (out1 into1 : List (List CoreArc)) (rank1 : List ℕ)
    (contracted : List NodeNo) (out2 : List (List CoreArc)) (many : length rank0 ≡ graph.nodes + 1)
    (advances : Advances marks (view_of out0 into0 rank0) (view_of out1 into1 rank1)) (sound : IsSound (view_of out1 into1 rank1) contracted) where
  ranks_last : AreRanks graph.nodes rank1 contracted
  ranks_last = record { many = advances.many ∙ many; ordered = sound.ordered }

  pub contraction_last : IsRight graph (view_of out0 into0 rank0) → CleansLeft rank1 out1 out2
      → ((v q l : ℕ) → v < length rank1 → is_last rank1 v → HasArc out2 v q l → is_last rank1 q)
      → IsContraction graph (contraction_of graph.nodes out2 into1 rank1 contracted)
  contraction_last right cleans clean =
      let sound2 : IsSound (view_of out2 into1 rank1) contracted = IsSound-clean_out out1 out2 into1 rank1 contracted cleans sound in
      let right2 : IsRight graph (view_of out2 into1 rank1) = IsRight-clean_out out1 out2 into1 rank1 contracted cleans graph (advances.right graph right) in
      let clean2 : IsClean (view_of out2 into1 rank1) =
      record { out = λ p q l left arc. clean p q l (row_low rank1 out2 p (record { to = record { 0 = q }; seconds = l; middle = record { 0 = arc.0 } }) sound2.built.out_fits.many arc.1) left arc } in
      IsContraction-from_state graph limits out2 into1 rank1 contracted ranks_last sound2 clean2 right2

  pub stored_last : IsRight graph (view_of out0 into0 rank0) → CleansLeft rank1 out1 out2
      → ((v q l : ℕ) → v < length rank1 → is_last rank1 v → HasArc out2 v q l → is_last rank1 q)
      → IsStored graph.nodes out2 into1 rank1 contracted
  stored_last right cleans clean =
      record {
        ranks = ranks_last;
        sound = IsSound-clean_out out1 out2 into1 rank1 contracted cleans sound;
        graph = graph;
        contraction = contraction_last right cleans clean;
      }

  pub kept_last : (keep : List NodeNo) → IsUnranked rank0 → All (λ v. IsVertex graph v) keep → All (λ v. slice_index_or marks v.0 false ≡ true) keep
      → All (λ v. Holds (contraction_of graph.nodes out2 into1 rank1 contracted) v) keep
  kept_last keep unranked vertices marked = λ k d lt.
      let vertex : IsVertex graph (slice_index_or keep k d) = vertices k d lt in
      Holds-from_left graph.nodes out2 into1 rank1 contracted ranks_last (slice_index_or keep k d) vertex.from_one vertex.to_nodes
      (advances.kept (slice_index_or keep k d).0 (marked k d lt) (unranked.all (slice_index_or keep k d).0))
