-- One row changes.
use Rattle.std.proofs.Common.{◌≡◌, ◌≢◌, ℕ, ◌<◌, List, [], ◌∷◌, Bool, true, false, cond, length, map, get_or, Vec, Global, slice_index_or, slice_set, arith, sym, ap, subst, inl, inr, ◌∙◌}
use Rattle.std.specs.Prelude.{Contains, filter}
use Rattle.std.proofs.lemmas.Bool.{cases_eq, cases_lt, eqb-true, eq-eqb}
use Rattle.std.proofs.lemmas.List.{get_or-set_same, get_or-set_other, length-set, length-map, map-set, get_or-map, get_or_default}
use Rattle.std.proofs.lemmas.List.Elements.{All-filter, All-contains, All-contains_itself, filter_passes}
use Rattle.std.proofs.lemmas.List.Kept.{AllPairs-filter}
use Rattle.pareto_laws.proofs.LeastArcs.{Contains-here, Contains-later, Contains-cons_cases}
use Rattle.walk_laws.specs.declared.CoreArc.{CoreArc}
use Rattle.walk_core.specs.Core.{HasDifferentEnds}
use Rattle.walk_core.specs.Row.{PutsIn, KeepsLeft, left_by}
use Rattle.walk_core.specs.Rows.{Puts, Cleans, row_of}

-- different ends

pub same_end : (row : List CoreArc) (x y : CoreArc) → HasDifferentEnds row → Contains row x → Contains row y → x.to.0 ≡ y.to.0 → x ≡ y
same_end row x y ends (i, li, ei) (j, lj, ej) same =
    let at_j : slice_index_or row j x ≡ y = get_or_default row j x y lj ∙ ej in
    let to_i = ap (λ (z : CoreArc). z.to.0) ei in
    let to_j = ap (λ (z : CoreArc). z.to.0) at_j in
    elim (cases_eq i j) [
      | inl e ↦ sym ei ∙ ap (λ (k : ℕ). slice_index_or row k x) e ∙ at_j
      | inr ne ↦ elim (cases_lt i j) [
        | inl lt ↦ absurd (ends i j x lt lj (to_i ∙ same ∙ sym to_j))
        | inr ge ↦ absurd (ends j i x (omega arith) li (to_j ∙ sym same ∙ sym to_i))
      ]
    ]

pub ends_put : (row : List CoreArc) (i : ℕ) (arc : CoreArc) → i < length row → ((d : CoreArc) → (slice_index_or row i d).to.0 ≡ arc.to.0)
    → HasDifferentEnds row → HasDifferentEnds (slice_set row i arc)
ends_put row i arc lt same ends = λ a b d before low.
    let end : (k : ℕ) → (slice_index_or (slice_set row i arc) k d).to.0 ≡ (slice_index_or row k d).to.0 =
    λ k. elim (cases_eq k i) [
      | inl e ↦
          ap (λ (x : ℕ). (slice_index_or (slice_set row i arc) x d).to.0) e ∙ ap (λ (x : CoreArc). x.to.0) (get_or-set_same row i arc d lt)
          ∙ sym (same d) ∙ ap (λ (x : ℕ). (slice_index_or row x d).to.0) (sym e)
      | inr ne ↦ ap (λ (x : CoreArc). x.to.0) (get_or-set_other row i k arc d ne)
    ] in
    λ e. ends a b d before (subst (λ (n : ℕ). b < n) (length-set row i arc) low) (sym (end a) ∙ e ∙ end b)

-- what a filter leaves

pub Contains-filter : {X : Type 0} (p : X → Bool) (xs : List X) (x : X) → p x ≡ true → Contains xs x → Contains (filter p xs) x
Contains-filter p [] x px c = absurd (omega (arith, c.1))
Contains-filter p (y ∷ ys) x px c = elim (Contains-cons_cases y ys x c) [
  | inl e ↦
      subst (λ b. Contains (cond b (y ∷ filter p ys) (filter p ys)) x) (sym (ap p e ∙ px))
      (subst (λ z. Contains (y ∷ filter p ys) z) e (Contains-here y (filter p ys)))
  | inr later ↦
      let rest = Contains-filter p ys x px later in
      elim (p y) as (λ b. Contains (cond b (y ∷ filter p ys) (filter p ys)) x) [ true ↦ Contains-later y (filter p ys) x rest | false ↦ rest ]
]

pub KeepsLeft-filter : (rank : List ℕ) (old new : List CoreArc) → new ≡ filter (λ arc. left_by rank arc.to.0) old → KeepsLeft rank old new
KeepsLeft-filter rank old new e =
    let p : CoreArc → Bool = λ arc. left_by rank arc.to.0 in
    subst (λ (n : List CoreArc). KeepsLeft rank old n) (sym e)
    (record {
      only = λ x c. (
        All-contains (λ (y : CoreArc). Contains old y) (filter p old) x (All-filter p (λ (y : CoreArc). Contains old y) old (All-contains_itself old)) c,
        eqb-true _ _ (All-contains (λ (y : CoreArc). p y ≡ true) (filter p old) x (filter_passes p old) c),
      );
      stays = λ x c left. Contains-filter p old x (eq-eqb _ _ left) c;
      ends = λ ends. AllPairs-filter (λ (x y : CoreArc). x.to.0 ≢ y.to.0) p old ends;
    })

-- one row of many

pub row_set_here : (rows : List (List CoreArc)) (at : ℕ) (row : List CoreArc) → at < length rows → row_of (slice_set rows at row) at ≡ row
row_set_here rows at row lt = get_or-set_same rows at row [] lt

pub row_set_other : (rows : List (List CoreArc)) (at v : ℕ) (row : List CoreArc) → v ≢ at → row_of (slice_set rows at row) v ≡ row_of rows v
row_set_other rows at v row ne = get_or-set_other rows at v row [] ne

Puts-from_set : (old new : List (List CoreArc)) (at : ℕ) (row : List CoreArc) (arc : CoreArc) → new ≡ slice_set old at row → at < length old
    → PutsIn (row_of old at) row arc → (HasDifferentEnds (row_of old at) → HasDifferentEnds row) → Puts old new at arc
Puts-from_set old new at row arc e lt puts ends =
    subst (λ (n : List (List CoreArc)). Puts old n at arc) (sym e)
    (record {
      many = length-set old at row;
      others = λ v ne. row_set_other old at v row ne;
      here = subst (λ (r : List CoreArc). PutsIn (row_of old at) r arc) (sym (row_set_here old at row lt)) puts;
      ends = λ h. subst (λ (r : List CoreArc). HasDifferentEnds r) (sym (row_set_here old at row lt)) (ends h);
    })

Cleans-from_set : (old new : List (List CoreArc)) (at : ℕ) (row : List CoreArc) (rank : List ℕ) → new ≡ slice_set old at row → at < length old
    → KeepsLeft rank (row_of old at) row → Cleans old new at rank
Cleans-from_set old new at row rank e lt keeps =
    subst (λ (n : List (List CoreArc)). Cleans old n at rank) (sym e)
    (record {
      many = length-set old at row;
      others = λ v ne. row_set_other old at v row ne;
      here = subst (λ (r : List CoreArc). KeepsLeft rank (row_of old at) r) (sym (row_set_here old at row lt)) keeps;
    })

-- the row that was read
read_row : (vs : List (Vec CoreArc Global)) (old : List (List CoreArc)) (at : ℕ) (read : Vec CoreArc Global)
    → map (λ (v : Vec CoreArc Global). v.items) vs ≡ old → at < length old → read ≡ get_or vs at read → row_of old at ≡ read.items
read_row vs old at read e lt is =
    let f : Vec CoreArc Global → List CoreArc = λ v. v.items in
    let short : at < length vs = subst (λ (n : ℕ). at < n) (ap length (sym e) ∙ length-map vs f) lt in
    ap (λ (rows : List (List CoreArc)). row_of rows at) (sym e) ∙ get_or-map f vs at read [] short ∙ ap f (sym is)

pub Puts-viewed : (vs : List (Vec CoreArc Global)) (old : List (List CoreArc)) (at : ℕ) (read w : Vec CoreArc Global) (arc : CoreArc)
    → map (λ (v : Vec CoreArc Global). v.items) vs ≡ old → at < length old → read ≡ get_or vs at read → PutsIn read.items w.items arc
    → (HasDifferentEnds read.items → HasDifferentEnds w.items)
    → Puts old (map (λ (v : Vec CoreArc Global). v.items) (slice_set vs at w)) at arc
Puts-viewed vs old at read w arc e lt is puts ends =
    let f : Vec CoreArc Global → List CoreArc = λ v. v.items in
    let same = read_row vs old at read e lt is in
    Puts-from_set old _ at w.items arc (map-set f vs at w ∙ ap (λ (rows : List (List CoreArc)). slice_set rows at w.items) e) lt
    (subst (λ (r : List CoreArc). PutsIn r w.items arc) (sym same) puts)
    (λ h. ends (subst (λ (r : List CoreArc). HasDifferentEnds r) same h))

pub Cleans-viewed : (vs : List (Vec CoreArc Global)) (old : List (List CoreArc)) (at : ℕ) (read w : Vec CoreArc Global) (rank : List ℕ)
    → map (λ (v : Vec CoreArc Global). v.items) vs ≡ old → at < length old → read ≡ get_or vs at read → KeepsLeft rank read.items w.items
    → Cleans old (map (λ (v : Vec CoreArc Global). v.items) (slice_set vs at w)) at rank
Cleans-viewed vs old at read w rank e lt is cleans =
    let f : Vec CoreArc Global → List CoreArc = λ v. v.items in
    Cleans-from_set old _ at w.items rank (map-set f vs at w ∙ ap (λ (rows : List (List CoreArc)). slice_set rows at w.items) e) lt
    (subst (λ (r : List CoreArc). KeepsLeft rank r w.items) (sym (read_row vs old at read e lt is)) cleans)
