-- What holds between two contractions.
use Rattle.std.proofs.Common.{◌≡◌, ◌≢◌, ℕ, zero, suc, Bool, true, false, ◌+◌, ◌<◌, ◌≤◌, List, [], ◌∷◌, ◌++◌, length, slice_index_or, slice_set, Some, arith, refl, sym, ap, subst, inl, inr, ◌∙◌}
use Rattle.std.specs.Prelude.{Contains, slice_get}
use Rattle.std.proofs.lemmas.Bool.{cases_eq, cases_lt}
use Rattle.std.proofs.lemmas.List.{get_or-set_same, get_or-set_other, length-set, get_or_push, length-append}
use Rattle.std.proofs.lemmas.List.Elements.{Contains-get_or}
use Rattle.std.proofs.lemmas.Option.{slice_get_within, slice_get-get_or}
use Rattle.move_model.specs.declared.network.NodeNo.{NodeNo}
use Rattle.move_model.specs.Streets.{Streets}
use Rattle.walk_laws.specs.declared.CoreArc.{CoreArc}
use Rattle.walk_laws.specs.Sums.{IsSum, View, HasArc, HasWithin, IsUp, IsDown, IsRest, last_rank, Leads}
use Rattle.walk_laws.proofs.SumLemmas.{IsSum-one, IsSum-join}
use Rattle.walk_core.specs.Middles.{HasMiddle, IsRuled}
use Rattle.walk_core.specs.Ranks.{IsPlaced, IsOrdered}
use Rattle.walk_core.specs.Core.{HasDifferentEnds}
use Rattle.walk_core.specs.Row.{is_last}
use Rattle.walk_core.specs.Rows.{Cleans, row_of}
use Rattle.walk_core.specs.Search.{Fits}
use Rattle.walk_core.specs.Bridge.{view_of, IsBuilt, IsCounted, IsUnranked}
use Rattle.walk_core.specs.State.{Rises, IsSound, IsRight, CleansLeft, IsFree, Advances}

-- the order

slice_get-push_below : (xs : List NodeNo) (y : NodeNo) (k : ℕ) → k < length xs → slice_get (xs ++ y ∷ []) k ≡ slice_get xs k
slice_get-push_below [] y k lt = absurd (omega (arith, lt))
slice_get-push_below (x ∷ xs) y zero lt = refl
slice_get-push_below (x ∷ xs) y (suc k) lt = slice_get-push_below xs y k (omega (arith, lt))

slice_get-push_last : (xs : List NodeNo) (y : NodeNo) → slice_get (xs ++ y ∷ []) (length xs) ≡ Some y
slice_get-push_last xs y =
    slice_get-get_or (xs ++ y ∷ []) (length xs) y (omega (arith, length-append xs (y ∷ []))) ∙ ap Some (get_or_push xs y y (length xs) refl)

module _ (rank : List ℕ) (contracted : List NodeNo) (m : ℕ) (ordered : IsOrdered rank contracted) (left : is_last rank m) (from_one : 1 ≤ m) (low : m < length rank)
    (room : length contracted < length rank) where
  here : slice_index_or (slice_set rank m (length contracted)) m last_rank ≡ length contracted
  here = get_or-set_same rank m (length contracted) last_rank low

  other : (v : ℕ) → v ≢ m → slice_index_or (slice_set rank m (length contracted)) v last_rank ≡ slice_index_or rank v last_rank
  other v ne = get_or-set_other rank m v (length contracted) last_rank ne

  at_m : (v : ℕ) → v ≡ m → slice_index_or (slice_set rank m (length contracted)) v last_rank ≡ length contracted
  at_m v e = ap (λ (x : ℕ). slice_index_or (slice_set rank m (length contracted)) x last_rank) e ∙ here

  length_all : length (contracted ++ (record { 0 = m }) ∷ []) ≡ length contracted + 1
  length_all = let e = length-append contracted ((record { 0 = m }) ∷ []) in omega (arith, e)

  place_after : (v : ℕ) → slice_index_or (slice_set rank m (length contracted)) v last_rank < last_rank
      → slice_get (contracted ++ (record { 0 = m }) ∷ []) (slice_index_or (slice_set rank m (length contracted)) v last_rank) ≡ Some (record { 0 = v })
  place_after v lt = elim (cases_eq v m) [
    | inl e ↦
        ap (λ (k : ℕ). slice_get (contracted ++ (record { 0 = m }) ∷ []) k) (at_m v e) ∙ slice_get-push_last contracted (record { 0 = m })
        ∙ ap (λ (x : ℕ). let w : NodeNo = record { 0 = x } in Some w) (sym e)
    | inr ne ↦
        let was : slice_get contracted (slice_index_or rank v last_rank) ≡ Some (record { 0 = v }) = ordered.place v (omega (arith, lt, other v ne)) in
        ap (λ (k : ℕ). slice_get (contracted ++ (record { 0 = m }) ∷ []) k) (other v ne)
        ∙ slice_get-push_below contracted (record { 0 = m }) (slice_index_or rank v last_rank) (slice_get_within contracted _ _ was) ∙ was
  ]

  back_after : (k : ℕ) (v : NodeNo) → slice_get (contracted ++ (record { 0 = m }) ∷ []) k ≡ Some v → IsPlaced (slice_set rank m (length contracted)) k v
  back_after k v e = elim (cases_lt k (length contracted)) [
    | inl lt ↦
        let was : IsPlaced rank k v = ordered.back k v (sym (slice_get-push_below contracted (record { 0 = m }) k lt) ∙ e) in
        let ne : v.0 ≢ m = λ same. omega (arith, left, was.rank_is, room, ordered.small, lt, ap (λ (x : ℕ). slice_index_or rank x last_rank) same) in
        record { rank_is = other v.0 ne ∙ was.rank_is; from_one = was.from_one; low = subst (λ (n : ℕ). v.0 < n) (sym (length-set rank m (length contracted))) was.low }
    | inr ge ↦
        let within : k < length (contracted ++ (record { 0 = m }) ∷ []) = slice_get_within (contracted ++ (record { 0 = m }) ∷ []) k v e in
        let k_is : k ≡ length contracted = omega (arith, within, length_all, ge) in
        let last : Some v ≡ Some (record { 0 = m }) = sym e ∙ ap (λ (x : ℕ). slice_get (contracted ++ (record { 0 = m }) ∷ []) x) k_is ∙ slice_get-push_last contracted (record { 0 = m }) in
        let v_is : v ≡ record { 0 = m } = cc in
        let node : v.0 ≡ m = ap (λ (x : NodeNo). x.0) v_is in
        record { rank_is = at_m v.0 node ∙ sym k_is; from_one = omega (arith, node, from_one); low = subst (λ (n : ℕ). v.0 < n) (sym (length-set rank m (length contracted))) (omega (arith, node, low)) }
  ]

  pub IsOrdered-push : IsOrdered (slice_set rank m (length contracted)) (contracted ++ (record { 0 = m }) ∷ [])
  IsOrdered-push =
      record {
        place = place_after;
        back = back_after;
        ranks = λ v. elim (cases_eq v m) [
          | inl e ↦ omega (arith, at_m v e, room, ordered.small)
          | inr ne ↦ omega (arith, other v ne, ordered.ranks v)
        ];
        few = omega (arith, length_all, room, length-set rank m (length contracted));
        small = omega (arith, length-set rank m (length contracted), ordered.small);
      }

pub counted_from_order : (rank : List ℕ) (contracted : List NodeNo) → IsOrdered rank contracted → IsCounted rank (length contracted)
counted_from_order rank contracted ordered = record { below = λ v lt. slice_get_within contracted _ _ (ordered.place v lt) }

pub IsOrdered-none : (rank : List ℕ) → IsUnranked rank → length rank < last_rank → IsOrdered rank []
IsOrdered-none rank unranked small =
    record {
      place = λ v lt. absurd (omega (arith, lt, unranked.all v));
      back = λ k v e. let within = slice_get_within [] k v e in absurd (omega (arith, within));
      ranks = λ v. omega (arith, unranked.all v);
      few = omega arith;
      small = small;
    }

pub Rises-none : (w : View) → IsUnranked w.rank → Rises w
Rises-none w unranked =
    record { up = λ p q l lt arc. absurd (omega (arith, lt, unranked.all p)); down = λ p q l lt arc. absurd (omega (arith, lt, unranked.all q)) }

-- lists of vertices that are left lose arcs

pub CleansLeft-none : (rank : List ℕ) (rows : List (List CoreArc)) → CleansLeft rank rows rows
CleansLeft-none rank rows =
    record { many = refl; frozen = λ v lt. refl; only = λ v x c. c; stays = λ v x c left. c; ends = λ v e. e }

pub CleansLeft-more : (rank : List ℕ) (one two three : List (List CoreArc)) (at : ℕ) → is_last rank at → CleansLeft rank one two → Cleans two three at rank
    → CleansLeft rank one three
CleansLeft-more rank one two three at left f g =
    record {
      many = g.many ∙ f.many;
      frozen = λ v lt.
          g.others v (λ e. omega (arith, left, lt, ap (λ (x : ℕ). slice_index_or rank x last_rank) e)) ∙ f.frozen v lt;
      only = λ v x c. f.only v x (elim (cases_eq v at) [
        | inl e ↦ subst (λ (k : ℕ). Contains (row_of two k) x) (sym e) (g.here.only x (subst (λ (k : ℕ). Contains (row_of three k) x) e c)).0
        | inr ne ↦ subst (λ (r : List CoreArc). Contains r x) (g.others v ne) c
      ]);
      stays = λ v x c to_left.
          let was : Contains (row_of two v) x = f.stays v x c to_left in
          elim (cases_eq v at) [
            | inl e ↦ subst (λ (k : ℕ). Contains (row_of three k) x) (sym e) (g.here.stays x (subst (λ (k : ℕ). Contains (row_of two k) x) e was) to_left)
            | inr ne ↦ subst (λ (r : List CoreArc). Contains r x) (sym (g.others v ne)) was
          ];
      ends = λ v e. elim (cases_eq v at) [
        | inl same ↦ subst (λ (k : ℕ). HasDifferentEnds (row_of three k)) (sym same) (g.here.ends (subst (λ (k : ℕ). HasDifferentEnds (row_of two k)) same (f.ends v e)))
        | inr ne ↦ subst (λ (r : List CoreArc). HasDifferentEnds r) (sym (g.others v ne)) (f.ends v e)
      ];
    }

module _ (rank : List ℕ) (old new : List (List CoreArc)) (cleans : CleansLeft rank old new) where
  arc_only : (a b k : ℕ) → HasArc new a b k → HasArc old a b k
  arc_only a b k (middle, c) = (middle, cleans.only a _ c)

  arc_stays : (a b k : ℕ) → is_last rank b → HasArc old a b k → HasArc new a b k
  arc_stays a b k left (middle, c) = (middle, cleans.stays a _ c left)

  arc_frozen : (a b k : ℕ) → slice_index_or rank a last_rank < last_rank → HasArc old a b k → HasArc new a b k
  arc_frozen a b k lt (middle, c) = (middle, subst (λ (r : List CoreArc). Contains r (record { to = record { 0 = b }; seconds = k; middle = record { 0 = middle } })) (sym (cleans.frozen a lt)) c)

  fits_left : (count : ℕ) → Fits old count → Fits new count
  fits_left count fits =
      record {
        many = cleans.many ∙ fits.many;
        ends = λ a b k h. fits.ends a b k (arc_only a b k h);
        short = λ a b k h. fits.short a b k (arc_only a b k h);
        apart = λ a b k h. fits.apart a b k (arc_only a b k h);
        from_one = λ a b k h. fits.from_one a b k (arc_only a b k h);
      }

-- the arcs out
module _ (out out' into : List (List CoreArc)) (rank : List ℕ) (contracted : List NodeNo) (cleans : CleansLeft rank out out') where
  pub IsSound-clean_out : IsSound (view_of out into rank) contracted → IsSound (view_of out' into rank) contracted
  IsSound-clean_out sound =
      record {
        built = record {
          out_fits = fits_left rank out out' cleans (length rank) sound.built.out_fits;
          into_fits = sound.built.into_fits;
          mirrored = λ p q l rest. sound.built.mirrored p q l (record {
            from_left = record { is_left = rest.from_left.is_left };
            to_left = record { is_left = rest.to_left.is_left };
            stands = arc_only rank out out' cleans p q l rest.stands;
          });
          out_ends = λ v. cleans.ends v (sound.built.out_ends v);
          into_ends = sound.built.into_ends;
        };
        rises = record {
          up = λ p q l lt arc. sound.rises.up p q l lt (arc_only rank out out' cleans p q l arc);
          down = sound.rises.down;
        };
        ordered = sound.ordered;
      }

  module _ (graph : Streets) (right : IsRight graph (view_of out into rank)) where
    middle_out : (p q l mid : ℕ) → HasMiddle (view_of out into rank) p q l mid → HasMiddle (view_of out' into rank) p q l mid
    middle_out p q l mid has =
        record {
          below_from = has.below_from;
          below_to = has.below_to;
          k = has.k;
          n = has.n;
          down = has.down;
          up = arc_frozen rank out out' cleans mid q has.n (omega (arith, has.below_to, right.keeps.ranks q)) has.up;
          total = has.total;
        }

    ruled_out : (p q l mid : ℕ) → IsRuled graph (view_of out into rank) p q l mid → IsRuled graph (view_of out' into rank) p q l mid
    ruled_out p q l mid (inl street) = inl street
    ruled_out p q l mid (inr has) = inr (middle_out p q l mid has)

    leads_out : (a b m : ℕ) → Leads (view_of out into rank) a b m → Leads (view_of out' into rank) a b m
    leads_out a b m leads =
        let up_one : (p q l : ℕ) → IsUp (view_of out into rank) p q l → IsSum (IsUp (view_of out' into rank)) p q l =
        λ p q l arc. IsSum-one (record { rises = arc.rises; stands = arc_frozen rank out out' cleans p q l (omega (arith, arc.rises, right.keeps.ranks q)) arc.stands }) in
        let rest_one : (p q l : ℕ) → IsRest (view_of out into rank) p q l → IsSum (IsRest (view_of out' into rank)) p q l =
        λ p q l arc. IsSum-one (record {
          from_left = record { is_left = arc.from_left.is_left };
          to_left = record { is_left = arc.to_left.is_left };
          stands = arc_stays rank out out' cleans p q l arc.to_left.is_left arc.stands;
        }) in
        let down_one : (p q l : ℕ) → IsDown (view_of out into rank) p q l → IsSum (IsDown (view_of out' into rank)) p q l =
        λ p q l arc. IsSum-one (record { falls = arc.falls; stands = arc.stands }) in
        record {
          top = leads.top;
          bend = leads.bend;
          l = leads.l;
          k = leads.k;
          n = leads.n;
          up = IsSum-join up_one leads.up;
          over = IsSum-join rest_one leads.over;
          down = IsSum-join down_one leads.down;
          within = leads.within;
        }

    pub IsRight-clean_out : IsRight graph (view_of out' into rank)
    IsRight-clean_out =
        record {
          keeps = record {
            ranks = right.keeps.ranks;
            real_out = λ p q l arc. right.keeps.real_out p q l (arc_only rank out out' cleans p q l arc);
            real_into = right.keeps.real_into;
            mirrored = λ p q l rest. right.keeps.mirrored p q l (record {
              from_left = record { is_left = rest.from_left.is_left };
              to_left = record { is_left = rest.to_left.is_left };
              stands = arc_only rank out out' cleans p q l rest.stands;
            });
            whole = λ a b m short sum. leads_out a b m (right.keeps.whole a b m short sum);
          };
          ruled = record {
            out = λ p z c. ruled_out p z.to.0 z.seconds z.middle.0 (right.ruled.out p z (cleans.only p z c));
            into = λ q z c. ruled_out z.to.0 q z.seconds z.middle.0 (right.ruled.into q z c);
          };
        }

-- the arcs in
module _ (out into into' : List (List CoreArc)) (rank : List ℕ) (contracted : List NodeNo) (cleans : CleansLeft rank into into') where
  mirrored_in : ((p q l : ℕ) → IsRest (view_of out into rank) p q l → HasWithin into q p l) → (p q l : ℕ) → IsRest (view_of out into' rank) p q l → HasWithin into' q p l
  mirrored_in mirrored p q l rest =
      let was : HasWithin into q p l = mirrored p q l (record {
        from_left = record { is_left = rest.from_left.is_left };
        to_left = record { is_left = rest.to_left.is_left };
        stands = rest.stands;
      }) in
      record { l = was.l; stands = arc_stays rank into into' cleans q p was.l rest.from_left.is_left was.stands; within = was.within }

  pub IsSound-clean_into : IsSound (view_of out into rank) contracted → IsSound (view_of out into' rank) contracted
  IsSound-clean_into sound =
      record {
        built = record {
          out_fits = sound.built.out_fits;
          into_fits = fits_left rank into into' cleans (length rank) sound.built.into_fits;
          mirrored = mirrored_in sound.built.mirrored;
          out_ends = sound.built.out_ends;
          into_ends = λ v. cleans.ends v (sound.built.into_ends v);
        };
        rises = record {
          up = sound.rises.up;
          down = λ p q l lt arc. sound.rises.down p q l lt (arc_only rank into into' cleans q p l arc);
        };
        ordered = sound.ordered;
      }

  module _ (graph : Streets) (right : IsRight graph (view_of out into rank)) where
    middle_in : (p q l mid : ℕ) → HasMiddle (view_of out into rank) p q l mid → HasMiddle (view_of out into' rank) p q l mid
    middle_in p q l mid has =
        record {
          below_from = has.below_from;
          below_to = has.below_to;
          k = has.k;
          n = has.n;
          up = has.up;
          down = arc_frozen rank into into' cleans mid p has.k (omega (arith, has.below_from, right.keeps.ranks p)) has.down;
          total = has.total;
        }

    ruled_in : (p q l mid : ℕ) → IsRuled graph (view_of out into rank) p q l mid → IsRuled graph (view_of out into' rank) p q l mid
    ruled_in p q l mid (inl street) = inl street
    ruled_in p q l mid (inr has) = inr (middle_in p q l mid has)

    leads_in : (a b m : ℕ) → Leads (view_of out into rank) a b m → Leads (view_of out into' rank) a b m
    leads_in a b m leads =
        let up_one : (p q l : ℕ) → IsUp (view_of out into rank) p q l → IsSum (IsUp (view_of out into' rank)) p q l =
        λ p q l arc. IsSum-one (record { rises = arc.rises; stands = arc.stands }) in
        let rest_one : (p q l : ℕ) → IsRest (view_of out into rank) p q l → IsSum (IsRest (view_of out into' rank)) p q l =
        λ p q l arc. IsSum-one (record {
          from_left = record { is_left = arc.from_left.is_left };
          to_left = record { is_left = arc.to_left.is_left };
          stands = arc.stands;
        }) in
        let down_one : (p q l : ℕ) → IsDown (view_of out into rank) p q l → IsSum (IsDown (view_of out into' rank)) p q l =
        λ p q l arc. IsSum-one (record { falls = arc.falls; stands = arc_frozen rank into into' cleans q p l (omega (arith, arc.falls, right.keeps.ranks p)) arc.stands }) in
        record {
          top = leads.top;
          bend = leads.bend;
          l = leads.l;
          k = leads.k;
          n = leads.n;
          up = IsSum-join up_one leads.up;
          over = IsSum-join rest_one leads.over;
          down = IsSum-join down_one leads.down;
          within = leads.within;
        }

    pub IsRight-clean_into : IsRight graph (view_of out into' rank)
    IsRight-clean_into =
        record {
          keeps = record {
            ranks = right.keeps.ranks;
            real_out = right.keeps.real_out;
            real_into = λ p q l arc. right.keeps.real_into p q l (arc_only rank into into' cleans q p l arc);
            mirrored = mirrored_in right.keeps.mirrored;
            whole = λ a b m short sum. leads_in a b m (right.keeps.whole a b m short sum);
          };
          ruled = record {
            out = λ p z c. ruled_in p z.to.0 z.seconds z.middle.0 (right.ruled.out p z c);
            into = λ q z c. ruled_in z.to.0 q z.seconds z.middle.0 (right.ruled.into q z (cleans.only q z c));
          };
        }

-- the other ends of the arcs of a row are vertices
pub row_ends : (rows : List (List CoreArc)) (row : List CoreArc) (m many count : ℕ) → row ≡ row_of rows m → Fits rows count → many ≡ count
    → (k : ℕ) (d : CoreArc) → k < length row → (slice_index_or row k d).to.0 < many
row_ends rows row m many count e fits same k d lt =
    let stands : Contains (row_of rows m) (slice_index_or row k d) = subst (λ (r : List CoreArc). Contains r (slice_index_or row k d)) e (Contains-get_or row k d lt) in
    let low = fits.ends m (slice_index_or row k d).to.0 (slice_index_or row k d).seconds ((slice_index_or row k d).middle.0, stands) in
    omega (arith, low, same)

-- one state after another

pub Advances-none : (keep : List Bool) (w : View) → Advances keep w w
Advances-none keep w = record { right = λ graph right. right; many = refl; kept = λ v marked left. left }

pub Advances-join : (keep : List Bool) (one two three : View) → Advances keep one two → Advances keep two three → Advances keep one three
Advances-join keep one two three f g =
    record {
      right = λ graph right. g.right graph (f.right graph right);
      many = g.many ∙ f.many;
      kept = λ v marked left. g.kept v marked (f.kept v marked left);
    }

pub Advances-one : (keep : List Bool) (old new : View) (m count : ℕ) (many : ℕ) → IsFree old.rank keep many m → ((graph : Streets) → IsRight graph old → IsRight graph new)
    → new.rank ≡ slice_set old.rank m count → Advances keep old new
Advances-one keep old new m count many free right e =
    record {
      right = right;
      many = ap length e ∙ length-set old.rank m count;
      kept = λ v marked left.
          let ne : v ≢ m = λ same.
          let clash : true ≡ false = sym marked ∙ ap (λ (x : ℕ). slice_index_or keep x false) same ∙ free.free in
          cc in
          ap (λ (r : List ℕ). slice_index_or r v last_rank) e ∙ get_or-set_other old.rank m v count last_rank ne ∙ left;
    }

-- a vertex is contracted as the next one
pub IsSound-pushed : (old new : View) (contracted contracted' : List NodeNo) (m count : ℕ) → count ≡ length contracted → IsSound old contracted → is_last old.rank m → 1 ≤ m → m < length old.rank
    → length contracted < length old.rank → IsBuilt new → Rises new → new.rank ≡ slice_set old.rank m count → contracted' ≡ contracted ++ (record { 0 = m }) ∷ []
    → IsSound new contracted'
IsSound-pushed old new contracted contracted' m count same sound left one low room built rises e f =
    record {
      built = built;
      rises = rises;
      ordered =
          subst (λ (r : List ℕ). IsOrdered r contracted') (sym (e ∙ ap (λ (n : ℕ). slice_set old.rank m n) same))
          (subst (λ (list : List NodeNo). IsOrdered (slice_set old.rank m (length contracted)) list) (sym f)
          (IsOrdered-push old.rank contracted m sound.ordered left one low room));
    }

-- the same state by other names
pub IsSound-same : {out out' into into' : List (List CoreArc)} {rank rank' : List ℕ} {contracted contracted' : List NodeNo} → out' ≡ out → into' ≡ into → rank' ≡ rank
    → contracted' ≡ contracted → IsSound (view_of out into rank) contracted → IsSound (view_of out' into' rank') contracted'
IsSound-same {out} {out'} {into} {into'} {rank} {rank'} {contracted} {contracted'} e f g h sound =
    subst (λ (o : List (List CoreArc)). IsSound (view_of o into' rank') contracted') (sym e)
    (subst (λ (i : List (List CoreArc)). IsSound (view_of out i rank') contracted') (sym f)
    (subst (λ (r : List ℕ). IsSound (view_of out into r) contracted') (sym g)
    (subst (λ (list : List NodeNo). IsSound (view_of out into rank) list) (sym h) sound)))

pub Advances-same : {keep : List Bool} {old : View} {out out' into into' : List (List CoreArc)} {rank rank' : List ℕ} → out' ≡ out → into' ≡ into → rank' ≡ rank
    → Advances keep old (view_of out into rank) → Advances keep old (view_of out' into' rank')
Advances-same {keep} {old} {out} {out'} {into} {into'} {rank} {rank'} e f g advances =
    subst (λ (o : List (List CoreArc)). Advances keep old (view_of o into' rank')) (sym e)
    (subst (λ (i : List (List CoreArc)). Advances keep old (view_of out i rank')) (sym f)
    (subst (λ (r : List ℕ). Advances keep old (view_of out into r)) (sym g) advances))
