-- The streets, before any contraction.
use Rattle.std.proofs.Common.{◌≡◌, ◌≢◌, ℕ, ◌+◌, ◌<◌, ◌≤◌, List, [], length, slice_index_or, replicate, arith, refl, sym, ap, subst, inl, inr, ◌∙◌}
use Rattle.std.specs.Prelude.{Contains}
use Rattle.std.proofs.lemmas.Bool.{cases_eq, cases_lt}
use Rattle.std.proofs.lemmas.List.Elements.{Contains-get_or}
use Rattle.std.proofs.lemmas.List.{get_or_default, get_or-replicate, get_or_past, length-replicate}
use Rattle.move_model.specs.declared.network.Arc.{Arc}
use Rattle.move_model.specs.Streets.{Streets}
use Rattle.walk_laws.specs.declared.CoreArc.{CoreArc}
use Rattle.walk_laws.specs.Sums.{IsSum, IsStreet, View, HasArc, HasWithin, IsRest, last_rank, Keeps}
use Rattle.walk_laws.specs.Sums.IsSum.{none}
use Rattle.walk_laws.proofs.SumLemmas.{IsSum-one, IsSum-map, IsWithin}
use Rattle.walk_core.specs.Middles.{Ruled}
use Rattle.walk_core.specs.Core.{HasDifferentEnds}
use Rattle.walk_core.specs.Search.{Fits}
use Rattle.walk_core.specs.Rows.{Puts}
use Rattle.walk_core.specs.Bridge.{view_of, StreetDone, StreetsDone, IsUnranked}
use Rattle.walk_core.proofs.RowLemmas.{same_end}
use Rattle.walk_core.proofs.BridgeLemmas.{BothPut, row_only}

-- streets

pub StreetDone-put : (arc : Arc) (out out' into into' : List (List CoreArc)) (rank : List ℕ)
    → BothPut arc.from.0 arc.to.0 arc.seconds (view_of out into rank) (view_of out' into' rank)
    → Puts out out' arc.from.0 (record { seconds = arc.seconds; to = arc.to; middle = record { 0 = 0 } })
    → Puts into into' arc.to.0 (record { seconds = arc.seconds; to = arc.from; middle = record { 0 = 0 } })
    → StreetDone arc (view_of out into rank) (view_of out' into' rank)
StreetDone-put arc out out' into into' rank put puts_out puts_into =
    record {
      built = put.built;
      grows = put.grows;
      real = λ graph street real. put.real graph (IsSum-one street) real;
      stands = λ ne. put.put;
      streets = λ graph street all. record {
        out = λ p z c. elim (row_only out out' arc.from.0 _ puts_out p z c) [
          | inl d ↦ all.out p z d
          | inr t ↦ (ap (λ (a : CoreArc). a.middle.0) t.1, same_street graph p z.to.0 z.seconds arc street t.0 (ap (λ (a : CoreArc). a.to.0) t.1) (ap (λ (a : CoreArc). a.seconds) t.1))
        ];
        into = λ q z c. elim (row_only into into' arc.to.0 _ puts_into q z c) [
          | inl d ↦ all.into q z d
          | inr t ↦ (ap (λ (a : CoreArc). a.middle.0) t.1, same_street graph z.to.0 q z.seconds arc street (ap (λ (a : CoreArc). a.to.0) t.1) t.0 (ap (λ (a : CoreArc). a.seconds) t.1))
        ];
      };
    }
  where
    same_street : (graph : Streets) (p q l : ℕ) (arc : Arc) → IsStreet graph arc.from.0 arc.to.0 arc.seconds → p ≡ arc.from.0 → q ≡ arc.to.0 → l ≡ arc.seconds → IsStreet graph p q l
    same_street graph p q l arc street e f g =
        subst (λ (v : ℕ). IsStreet graph v q l) (sym e)
        (subst (λ (v : ℕ). IsStreet graph arc.from.0 v l) (sym f) (subst (λ (v : ℕ). IsStreet graph arc.from.0 arc.to.0 v) (sym g) street))

pub StreetsDone-more : (arcs : List Arc) (i : ℕ) (d : Arc) (old new : View) → i < length arcs → IsUnranked old.rank
    → StreetsDone arcs i old → StreetDone (slice_index_or arcs i d) old new → StreetsDone arcs (i + 1) new
StreetsDone-more arcs i d old new lt unranked all one =
    record {
      built = one.built;
      real = λ graph e.
          one.real graph
          (subst (λ (list : List Arc). Contains list (slice_index_or arcs i d)) (sym e) (Contains-get_or arcs i d lt))
          (all.real graph e);
      streets = λ graph e.
          one.streets graph
          (subst (λ (list : List Arc). Contains list (slice_index_or arcs i d)) (sym e) (Contains-get_or arcs i d lt))
          (all.streets graph e);
      stands = λ k e le ne. elim (cases_eq k i) [
        | inl same ↦
            let at : slice_index_or arcs i d ≡ slice_index_or arcs k e =
            get_or_default arcs i d e lt ∙ ap (λ (j : ℕ). slice_index_or arcs j e) (sym same) in
            subst (λ (z : Arc). z.from.0 ≢ z.to.0 → HasWithin new.out z.from.0 z.to.0 z.seconds) at one.stands ne
        | inr other ↦
            let z : Arc = slice_index_or arcs k e in
            let was : HasWithin old.out z.from.0 z.to.0 z.seconds = all.stands k e (omega arith) ne in
            let now : HasWithin new.out z.from.0 z.to.0 was.l =
            one.grows.out_stays z.from.0 z.to.0 was.l (omega (arith, unranked.all z.from.0, unranked.all z.to.0)) was.stands in
            record { l = now.l; stands = now.stands; within = omega (arith, now.within, was.within) }
      ];
    }

-- each street has an arc that is no longer
street_laid : (graph : Streets) (w : View) → StreetsDone graph.arcs (length graph.arcs) w → (p q l : ℕ) → IsStreet graph p q l → p ≢ q → HasWithin w.out p q l
street_laid graph w done p q l street ne =
    let at : slice_index_or graph.arcs street.0 (record { from = record { 0 = p }; to = record { 0 = q }; seconds = l }) ≡ record { from = record { 0 = p }; to = record { 0 = q }; seconds = l } = street.2 in
    subst (λ (z : Arc). z.from.0 ≢ z.to.0 → HasWithin w.out z.from.0 z.to.0 z.seconds) at
    (done.stands street.0 (record { from = record { 0 = p }; to = record { 0 = q }; seconds = l }) street.1) ne

pub Keeps-start : (graph : Streets) (w : View) → IsUnranked w.rank → StreetsDone graph.arcs (length graph.arcs) w → Keeps graph w
Keeps-start graph w unranked done =
    let real = done.real graph refl in
    let each : (p q l : ℕ) → IsStreet graph p q l → IsWithin (IsRest w) p q l =
    λ p q l street. elim (cases_eq p q) [
      | inl e ↦ record { l = 0; sum = subst (λ (v : ℕ). IsSum (IsRest w) p v 0) e none; within = omega arith }
      | inr ne ↦
          let here : HasWithin w.out p q l = street_laid graph w done p q l street ne in
          record {
            l = here.l;
            sum = IsSum-one (record { from_left = record { is_left = unranked.all p }; to_left = record { is_left = unranked.all q }; stands = here.stands });
            within = here.within;
          }
    ] in
    record {
      ranks = λ v. omega (arith, unranked.all v);
      real_out = real.out;
      real_into = real.into;
      mirrored = done.built.mirrored;
      whole = λ a b m short sum.
          let s = IsSum-map each sum in
          record { top = a; bend = b; l = 0; k = s.l; n = 0; up = none; over = s.sum; down = none; within = omega (arith, s.within) };
    }

-- no arcs

no_arc : (n p q l : ℕ) → HasArc (replicate n []) p q l → ⊥
no_arc n p q l (middle, stands) = elim (cases_lt p n) [
  | inl lt ↦ absurd (no_item _ _ (get_or-replicate n p [] [] lt) stands)
  | inr ge ↦ absurd (no_item _ _ (get_or_past (replicate n []) p [] (omega (arith, length-replicate n (empty_row)))) stands)
]
  where
    empty_row : List CoreArc
    empty_row = []

    no_item : (row : List CoreArc) (x : CoreArc) → row ≡ [] → Contains row x → ⊥
    no_item row x e c = let n = ap length e in omega (arith, c.1, n)

fits_none : (n : ℕ) → Fits (replicate n []) n
fits_none n =
    record {
      many = length-replicate n [];
      ends = λ p q l arc. absurd (no_arc n p q l arc);
      short = λ p q l arc. absurd (no_arc n p q l arc);
      apart = λ p q l arc. absurd (no_arc n p q l arc);
      from_one = λ p q l arc. absurd (no_arc n p q l arc);
    }

pub StreetsDone-none : (arcs : List Arc) (out into : List (List CoreArc)) (rank : List ℕ) → out ≡ replicate (length rank) [] → into ≡ replicate (length rank) []
    → StreetsDone arcs 0 (view_of out into rank)
StreetsDone-none arcs out into rank e f =
    subst (λ (rows : List (List CoreArc)). StreetsDone arcs 0 (view_of rows into rank)) (sym e)
    (subst (λ (rows : List (List CoreArc)). StreetsDone arcs 0 (view_of (replicate (length rank) []) rows rank)) (sym f)
    (record {
      built = record {
        out_fits = fits_none (length rank);
        into_fits = fits_none (length rank);
        mirrored = λ p q l rest. absurd (no_arc (length rank) p q l rest.stands);
        out_ends = no_ends (length rank);
        into_ends = no_ends (length rank);
      };
      real = λ graph e. record { out = λ p q l arc. absurd (no_arc (length rank) p q l arc); into = λ p q l arc. absurd (no_arc (length rank) q p l arc) };
      streets = λ graph e. record { out = λ p z c. absurd (no_item_at (length rank) p z c); into = λ q z c. absurd (no_item_at (length rank) q z c) };
      stands = λ k d lt. absurd (omega arith);
    }))
  where
    no_item_at : (n p : ℕ) (z : CoreArc) → Contains (slice_index_or (replicate n []) p []) z → ⊥
    no_item_at n p z c = no_arc n p z.to.0 z.seconds (z.middle.0, c)

    no_ends : (n p : ℕ) → HasDifferentEnds (slice_index_or (replicate n []) p [])
    no_ends n p = λ i j d before low. absurd (no_item_at n p (slice_index_or (slice_index_or (replicate n []) p []) j d) (Contains-get_or (slice_index_or (replicate n []) p []) j d low))

-- the arc of a list to a vertex is the least that was laid
least_in_row : (row : List CoreArc) (z : CoreArc) (l k : ℕ) → HasDifferentEnds row → Contains row z
    → (middle : ℕ) → Contains row (record { to = z.to; seconds = k; middle = record { 0 = middle } }) → k ≤ l → z.seconds ≤ l
least_in_row row z l k ends c middle stands within =
    let same : z ≡ record { to = z.to; seconds = k; middle = record { 0 = middle } } = same_end row z _ ends c stands refl in
    omega (arith, within, ap (λ (x : CoreArc). x.seconds) same)

pub Ruled-start : (graph : Streets) (w : View) → IsUnranked w.rank → StreetsDone graph.arcs (length graph.arcs) w → Ruled graph w
Ruled-start graph w unranked done =
    let all = done.streets graph refl in
    record {
      out = λ p z c. inl (
        (all.out p z c).0,
        record {
          attained = (all.out p z c).1;
          least = λ m street.
              let here : HasWithin w.out p z.to.0 m = street_laid graph w done p z.to.0 m street (done.built.out_fits.apart p z.to.0 z.seconds (z.middle.0, c)) in
              least_in_row (slice_index_or w.out p []) z m here.l (done.built.out_ends p) c here.stands.0 here.stands.1 here.within;
        },
      );
      into = λ q z c. inl (
        (all.into q z c).0,
        record {
          attained = (all.into q z c).1;
          least = λ m street.
              let ne : z.to.0 ≢ q = λ e. done.built.into_fits.apart q z.to.0 z.seconds (z.middle.0, c) (sym e) in
              let there : HasWithin w.out z.to.0 q m = street_laid graph w done z.to.0 q m street ne in
              let here : HasWithin w.into q z.to.0 there.l = done.built.mirrored z.to.0 q there.l
              (record { from_left = record { is_left = unranked.all z.to.0 }; to_left = record { is_left = unranked.all q }; stands = there.stands }) in
              least_in_row (slice_index_or w.into q []) z m here.l (done.built.into_ends q) c here.stands.0 here.stands.1 (omega (arith, here.within, there.within));
        },
      );
    }

pub unranked_none : (n : ℕ) → IsUnranked (replicate n last_rank)
unranked_none n = record {
  all = λ v. elim (cases_lt v n) [
    | inl lt ↦ get_or-replicate n v last_rank last_rank lt
    | inr ge ↦ get_or_past (replicate n last_rank) v last_rank (omega (arith, length-replicate n last_rank))
  ];
}
