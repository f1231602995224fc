-- Walking along arcs from the ways of a row.
use Rattle.std.proofs.Common.{◌≡◌, ◌≢◌, ℕ, suc, ◌+◌, ◌<◌, ◌≤◌, Bool, true, false, ◌||◌, eqb, List, [], ◌∷◌, ◌++◌, length, get_or, take, map, refl, sym, ◌∙◌, ap, subst, inl, inr, arith, Some}
use Rattle.std.proofs.Math.ListN.{set, length-set}
use Rattle.std.proofs.Math.ListN.{get_or-map}
use Rattle.std.specs.Prelude.{AllPairs, Contains, MatchBool}
use Rattle.std.specs.List.{IsDistinct, list_any}
use Rattle.std.proofs.lemmas.Bool.{or_cases, eqb-true}
use Rattle.std.proofs.lemmas.Bool.Decides.{Decides-eqb}
use Rattle.std.proofs.lemmas.Option.{slice_get_within}
use Rattle.std.proofs.lemmas.List.{length-map, length_push, take_more, take_all}
use Rattle.std.proofs.lemmas.List.Elements.{Contains-append_cases}
use Rattle.std.proofs.lemmas.List.Quantifiers.{all_pairs_push}
use Rattle.std.proofs.lemmas.Map.Made.{IsDistinct-from_AllPairs}
use Rattle.std.proofs.lemmas.Map.Steps.{length-le_from_distinct_below}
use Rattle.move_model.specs.declared.network.NodeNo.{NodeNo}
use Rattle.move_model.specs.declared.network.Arc.{Arc}
use Rattle.plain_search.specs.declared.way.Way.{Way}
use Rattle.plain_search.specs.Row.{Ways, IsWayTo, HasWayBy, NoLater, IsWholeWay, IsWhole, IsWalked, GoesOn, WalksOn, weight}
use Rattle.plain_search.specs.Row.GoesOn.{stays, goes}
use Rattle.plain_search.proofs.Rows.{node_eq, same_default, by_later, Contains-one, way_there, no_later-set, ways-set, whole-set}

-- a walk that comes to no vertex twice has no more vertices than the row

numbers : List NodeNo → List ℕ
numbers vs = map (λ (v : NodeNo). v.0) vs

number_on : (vs : List NodeNo) (q : ℕ) → list_any (eqb q) (numbers vs) ≡ true → Contains vs (record { 0 = q })
unfolding numbers
number_on [] q e = absurd (cc)
number_on (v ∷ vs) q e =
    elim (or_cases (eqb q v.0) (list_any (eqb q) (numbers vs)) e) [
      | inl h ↦ (0, omega arith, node_eq v (record { 0 = q }) (sym (eqb-true q v.0 h)))
      | inr h ↦ let on = number_on vs q h in (suc on.0, omega (arith, on.1), on.2)
    ]

distinct_numbers : (vs : List NodeNo) → AllPairs (λ a b. a ≢ b) vs → IsDistinct eqb (numbers vs)
unfolding numbers
distinct_numbers vs apart =
    IsDistinct-from_AllPairs Decides-eqb (numbers vs)
    (λ i j d before within same.
    let a : get_or (numbers vs) i d ≡ (get_or vs i (record { 0 = d })).0 = get_or-map (λ (v : NodeNo). v.0) vs i (record { 0 = d }) in
    let b : get_or (numbers vs) j d ≡ (get_or vs j (record { 0 = d })).0 = get_or-map (λ (v : NodeNo). v.0) vs j (record { 0 = d }) in
    let many : length (numbers vs) ≡ length vs = length-map vs (λ (v : NodeNo). v.0) in
    apart i j (record { 0 = d }) before (omega arith) (node_eq _ _ (sym a ∙ same ∙ b)))

pub walk_within : (row : Ways) (way : Way) → IsWholeWay row way → length way.walk ≤ length row
unfolding numbers
walk_within row way whole =
    let many : length (numbers way.walk) ≡ length way.walk = length-map way.walk (λ (v : NodeNo). v.0) in
    let few : length (numbers way.walk) ≤ length row =
    length-le_from_distinct_below (numbers way.walk) (length row) (distinct_numbers way.walk whole.no_vertex_twice)
    (λ q on.
    let there = (whole.passes (record { 0 = q }) (number_on way.walk q on)).stands in
    slice_get_within row q _ there) in
    omega arith

-- the seconds of a walk on along one arc more fit
pub walk_fits : (row : Ways) (v : NodeNo) (way : Way) (m : ℕ) → IsWhole row → IsWayTo row v way → m ≤ 4294967295
    → way.second + m < 18446744073709551616
walk_fits row v way m whole at small =
    let kept = whole.ways v way at in
    omega (arith, kept.bounded, walk_within row way kept, whole.few, small)

-- what goes on from a row

pub NoLater-same : (row : Ways) → NoLater row row
NoLater-same row v m h = h

pub WalksOn-same : (arcs : List Arc) (row : Ways) → WalksOn arcs row row
WalksOn-same arcs row = record { one_each = refl; no_later = NoLater-same row; go_on = λ v way is. stays is }

-- on from ways that go on
GoesOn-both : (arcs : List Arc) (old mid : Ways) → ((v : NodeNo) (way : Way) → IsWayTo mid v way → GoesOn arcs old v way)
    → {v : NodeNo} {way : Way} → GoesOn arcs mid v way → GoesOn arcs old v way
GoesOn-both arcs old mid first (stays is) = first _ _ is
GoesOn-both arcs old mid first (goes on arc) = goes (GoesOn-both arcs old mid first on) arc

GoesOn-more : (arcs more : List Arc) (row : Ways) → ((arc : Arc) → Contains arcs arc → Contains more arc)
    → {v : NodeNo} {way : Way} → GoesOn arcs row v way → GoesOn more row v way
GoesOn-more arcs more row among (stays is) = stays is
GoesOn-more arcs more row among (goes on arc) = goes (GoesOn-more arcs more row among on) (among _ arc)

pub WalksOn-both : (arcs : List Arc) (old mid new : Ways) → WalksOn arcs old mid → WalksOn arcs mid new → WalksOn arcs old new
WalksOn-both arcs old mid new first second =
    record {
      one_each = second.one_each ∙ first.one_each;
      no_later = λ v m h. second.no_later v m (first.no_later v m h);
      go_on = λ v way is. GoesOn-both arcs old mid first.go_on (second.go_on v way is);
    }

pub WalksOn-more : (arcs more : List Arc) (old new : Ways) → ((arc : Arc) → Contains arcs arc → Contains more arc)
    → WalksOn arcs old new → WalksOn more old new
WalksOn-more arcs more old new among walks =
    record {
      one_each = walks.one_each;
      no_later = walks.no_later;
      go_on = λ v way is. GoesOn-more arcs more old among (walks.go_on v way is);
    }

-- an arc of a list, by its place
pub arc_among : (arcs : List Arc) (i : ℕ) (d : Arc) → i < length arcs → (a : Arc) → Contains (get_or arcs i d ∷ []) a → Contains arcs a
arc_among arcs i d within a one = (i, within, same_default arcs i a d within ∙ Contains-one (get_or arcs i d) a one)

-- along one arc to where it leads earlier
module _ (row : Ways) (arc : Arc) (way : Way) (second : ℕ) (walk : List NodeNo)
    (whole : IsWhole row) (at : IsWayTo row arc.from way) (small : arc.seconds ≤ 4294967295)
    (second_is : second ≡ way.second + arc.seconds) (walk_is : walk ≡ way.walk ++ arc.to ∷ [])
    (within : arc.to.0 < length row) (none : HasWayBy row arc.to second → ⊥) where
  abbrev better : Way
  better = record { second = second; walk = walk; ride = way.ride }

  abbrev improved : Ways
  improved = set row arc.to.0 (Some better)

  better_is : better ≡ record { second = way.second + arc.seconds; walk = way.walk ++ arc.to ∷ []; ride = way.ride }
  better_is = λ i. record { second = second_is i; walk = walk_is i; ride = way.ride }

  whole_better : IsWholeWay improved better
  whole_better =
      let kept = whole.ways arc.from way at in
      record {
        bounded = omega (arith, kept.bounded, second_is, small, ap (λ (vs : List NodeNo). length vs) walk_is, length_push way.walk arc.to);
        no_vertex_twice = subst (λ vs. AllPairs (λ a b. a ≢ b) vs) (sym walk_is) (all_pairs_push (λ a b. a ≢ b) way.walk arc.to kept.no_vertex_twice
            (λ k d inside same. none (by_later (kept.passes arc.to (k, inside, same_default way.walk k arc.to d inside ∙ same)) (omega (arith, second_is)))));
        passes = λ v on. elim (Contains-append_cases way.walk (arc.to ∷ []) v (subst (λ vs. Contains vs v) walk_is on)) [
          | inl before ↦ by_later (no_later-set row arc.to better within none v way.second (kept.passes v before)) (omega arith)
          | inr last ↦ subst (λ x. HasWayBy improved x second) (Contains-one arc.to v last) (record { way = better; stands = way_there row arc.to better within none; no_later = omega arith })
        ];
      }

  pub walk_arc_whole : IsWhole improved
  walk_arc_whole = whole-set row arc.to better within none whole whole_better

  pub walk_arc_walks : WalksOn (arc ∷ []) row improved
  walk_arc_walks =
      record {
        one_each = length-set row arc.to.0 (Some better);
        no_later = no_later-set row arc.to better within none;
        go_on = λ v w is. elim (ways-set row arc.to better within none v w is) [
          | inl same ↦
              subst (λ x. GoesOn (arc ∷ []) row x w) (sym same.0)
              (subst (λ x. GoesOn (arc ∷ []) row arc.to x) (sym (same.1 ∙ better_is)) (goes (stays at) (0, omega arith, refl)))
          | inr old ↦ stays old
        ];
      }

-- along one arc more

IsWalked-push : (arcs : List Arc) (arc : Arc) (row : Ways) → IsWalked arcs row → IsWalked (arc ∷ []) row → IsWalked (arcs ++ arc ∷ []) row
IsWalked-push arcs arc row before here a m among within h = elim (Contains-append_cases arcs (arc ∷ []) a among) [
  | inl old ↦ before a m old within h
  | inr new ↦ here a m new within h
]

-- what a pass along arcs did so far: some arrival got earlier, or no arc led to an earlier one
abbrev pub FellOrWalked : Bool → List Arc → Ways → Ways → Type 0
FellOrWalked fell arcs start row = MatchBool fell (weight row < weight start) ((row ≡ start) × IsWalked arcs start)

pub FellOrWalked-more : (arcs : List Arc) (i : ℕ) (d : Arc) (start row next : Ways) (fell did now : Bool)
    → i < length arcs → FellOrWalked fell (take i arcs) start row → FellOrWalked did (get_or arcs i d ∷ []) row next
    → (did || fell) ≡ now → FellOrWalked now (take (i + 1) arcs) start next
FellOrWalked-more arcs i d start row next fell did now within so_far here is =
    subst (λ b. FellOrWalked b (take (i + 1) arcs) start next) is
    (subst (λ xs. FellOrWalked (did || fell) xs start next) (sym (take_more arcs i d within)) (both fell did so_far here))
  where
    arc : Arc
    arc = get_or arcs i d

    both : (fell did : Bool) → FellOrWalked fell (take i arcs) start row → FellOrWalked did (arc ∷ []) row next
        → FellOrWalked (did || fell) (take i arcs ++ arc ∷ []) start next
    both true true so_far here = omega (arith, so_far, here)
    both true false so_far here = subst (λ r. weight r < weight start) (sym here.0) so_far
    both false true so_far here = subst (λ r. weight next < weight r) so_far.0 here
    both false false so_far here = (
      here.0 ∙ so_far.0,
      IsWalked-push (take i arcs) arc start so_far.1 (subst (λ r. IsWalked (arc ∷ []) r) so_far.0 here.1),
    )

pub FellOrWalked-all : (arcs : List Arc) (i : ℕ) (start row : Ways) (fell : Bool) → length arcs ≤ i
    → FellOrWalked fell (take i arcs) start row → FellOrWalked fell arcs start row
FellOrWalked-all arcs i start row fell all so_far = subst (λ xs. FellOrWalked fell xs start row) (take_all i arcs all) so_far
