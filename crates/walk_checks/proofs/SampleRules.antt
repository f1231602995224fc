-- The small hierarchies of the tests meet the rules.
use Rattle.std.proofs.Common.{◌≡◌, ◌≢◌, ◌<◌, ◌≤◌, ℕ, zero, suc, List, [], ◌∷◌, refl, inl, arith}
use Rattle.std.specs.Prelude.{All, Contains}
use Rattle.std.specs.List.{AllAdjacentBelow}
use Rattle.std.proofs.lemmas.List.Elements.{All-cons, All-contains}
use Rattle.std.proofs.lemmas.List.Kept.{AllPairs-cons}
use Rattle.move_model.specs.declared.network.Arc.{Arc}
use Rattle.move_model.specs.Streets.{IsLeastArc}
use Rattle.walk_hierarchy.specs.declared.arcs.UpDown.{UpDown}
use Rattle.walk_hierarchy.specs.Hierarchy.{Parts, IsNode, IsArcUp, IsArcDown, IsBefore, IsMade, IsHierarchy, IsLeastStreet, IsOver}
use Rattle.walk_checks.specs.Samples.{street, arc_by, pairs_streets, pairs, line_streets, line}

all_none : {A : Type 0} (P : A → Type 0) → All P []
all_none P = λ k d lt. absurd (omega arith)

all_two : {A : Type 0} (P : A → Type 0) (x y : A) → P x → P y → All P (x ∷ y ∷ [])
all_two P x y p q = All-cons P x (y ∷ []) p (All-cons P y [] q (all_none P))

all_three : {A : Type 0} (P : A → Type 0) (x y z : A) → P x → P y → P z → All P (x ∷ y ∷ z ∷ [])
all_three P x y z p q r = All-cons P x (y ∷ z ∷ []) p (all_two P y z q r)

all_four : {A : Type 0} (P : A → Type 0) (x y z w : A) → P x → P y → P z → P w → All P (x ∷ y ∷ z ∷ w ∷ [])
all_four P x y z w p q r s = All-cons P x (y ∷ z ∷ w ∷ []) p (all_three P y z w q r s)

in_order : (x y : UpDown) → IsBefore x y → AllAdjacentBelow IsBefore (x ∷ y ∷ []) 2
in_order x y before zero d lt = before
in_order x y before (suc k) d lt = absurd (omega arith)

no_middle : (h : Parts) (p q seconds : ℕ) → IsMade h (arc_by p q seconds 0)
no_middle h p q seconds ne = absurd (ne refl)

-- a least street is no longer than each with its ends
abbrev pub IsNoLonger : ℕ → ℕ → ℕ → Arc → Type 0
IsNoLonger p q seconds arc = arc.from.0 ≡ p → arc.to.0 ≡ q → seconds ≤ arc.seconds

least_street : (arcs : List Arc) (p q seconds : ℕ) → Contains arcs (street p q seconds) → All (IsNoLonger p q seconds) arcs
    → IsLeastArc arcs (record { 0 = p }) (record { 0 = q }) seconds
least_street arcs p q seconds stands all = record {
  attained = stands;
  least = λ m has. All-contains (IsNoLonger p q seconds) arcs (street p q m) all has refl refl;
}

-- two pairs

pairs_least : (p q seconds : ℕ) → Contains pairs_streets.arcs (street p q seconds)
    → IsNoLonger p q seconds (street 2 3 240) → IsNoLonger p q seconds (street 3 2 240) → IsNoLonger p q seconds (street 1 4 7200) → IsNoLonger p q seconds (street 4 1 7200)
    → IsLeastArc pairs_streets.arcs (record { 0 = p }) (record { 0 = q }) seconds
pairs_least p q seconds stands one two three four =
    least_street pairs_streets.arcs p q seconds stands
    (all_four (IsNoLonger p q seconds) (street 2 3 240) (street 3 2 240) (street 1 4 7200) (street 4 1 7200) one two three four)

pub pairs_over : IsOver pairs_streets pairs
pairs_over = record {
  nodes = refl;
  up = all_two (IsLeastStreet pairs_streets) (arc_by 1 4 7200 0) (arc_by 2 3 240 0)
      (λ e. pairs_least 1 4 7200 (2, omega arith, refl) (λ f t. omega (arith, f)) (λ f t. omega (arith, f)) (λ f t. omega arith) (λ f t. omega (arith, f)))
      (λ e. pairs_least 2 3 240 (0, omega arith, refl) (λ f t. omega arith) (λ f t. omega (arith, f)) (λ f t. omega (arith, f)) (λ f t. omega (arith, f)));
  down = all_two (IsLeastStreet pairs_streets) (arc_by 3 2 240 0) (arc_by 4 1 7200 0)
      (λ e. pairs_least 3 2 240 (1, omega arith, refl) (λ f t. omega (arith, f)) (λ f t. omega arith) (λ f t. omega (arith, f)) (λ f t. omega (arith, f)))
      (λ e. pairs_least 4 1 7200 (3, omega arith, refl) (λ f t. omega (arith, f)) (λ f t. omega (arith, f)) (λ f t. omega (arith, f)) (λ f t. omega arith));
}

-- a line

line_node : (l m : ℕ) (v : ℕ) → 1 ≤ v → v ≤ 3 → IsNode (line l m) (record { 0 = v })
line_node l m v from to = record { from_one = from; to_nodes = to }

line_rules : (l m : ℕ) → l ≤ 2000000000000 → IsMade (line l m) (arc_by 1 3 l m) → IsHierarchy (line l m)
line_rules l m short made =
    let apart : ℕ → ℕ → Type 0 = λ rank other. rank ≢ other in
    let below : ℕ → Type 0 = λ rank. rank < 3 in
    record {
      has_node = omega arith;
      nodes = omega arith;
      ranks = record {
        below = all_three below 1 0 2 (omega arith) (omega arith) (omega arith);
        once = AllPairs-cons apart 1 (0 ∷ 2 ∷ []) (all_two (apart 1) 0 2 (λ e. omega (arith, e)) (λ e. omega (arith, e)))
            (AllPairs-cons apart 0 (2 ∷ []) (All-cons (apart 0) 2 [] (λ e. omega (arith, e)) (all_none (apart 0)))
            (AllPairs-cons apart 2 [] (all_none (apart 2)) (λ i j d lt low. absurd (omega arith))));
      };
      up = all_two (IsArcUp (line l m)) (arc_by 1 3 l m) (arc_by 2 3 140 0)
          (record { from = line_node l m 1 (omega arith) (omega arith); to = line_node l m 3 (omega arith) (omega arith); rises = omega arith; short = short })
          (record { from = line_node l m 2 (omega arith) (omega arith); to = line_node l m 3 (omega arith) (omega arith); rises = omega arith; short = omega arith });
      up_in_order = in_order (arc_by 1 3 l m) (arc_by 2 3 140 0) (inl (omega arith));
      up_made = all_two (IsMade (line l m)) (arc_by 1 3 l m) (arc_by 2 3 140 0) made (no_middle (line l m) 2 3 140);
      down = all_two (IsArcDown (line l m)) (arc_by 1 2 100 0) (arc_by 3 2 140 0)
          (record { from = line_node l m 1 (omega arith) (omega arith); to = line_node l m 2 (omega arith) (omega arith); falls = omega arith; short = omega arith })
          (record { from = line_node l m 3 (omega arith) (omega arith); to = line_node l m 2 (omega arith) (omega arith); falls = omega arith; short = omega arith });
      down_in_order = in_order (arc_by 1 2 100 0) (arc_by 3 2 140 0) (inl (omega arith));
      down_made = all_two (IsMade (line l m)) (arc_by 1 2 100 0) (arc_by 3 2 140 0) (no_middle (line l m) 1 2 100) (no_middle (line l m) 3 2 140);
    }

line_least : (p q seconds : ℕ) → Contains line_streets.arcs (street p q seconds)
    → IsNoLonger p q seconds (street 1 2 100) → IsNoLonger p q seconds (street 2 3 140) → IsNoLonger p q seconds (street 3 2 140) → IsNoLonger p q seconds (street 1 3 500)
    → IsLeastArc line_streets.arcs (record { 0 = p }) (record { 0 = q }) seconds
line_least p q seconds stands one two three four =
    least_street line_streets.arcs p q seconds stands
    (all_four (IsNoLonger p q seconds) (street 1 2 100) (street 2 3 140) (street 3 2 140) (street 1 3 500) one two three four)

line_over : (l m : ℕ) → IsLeastStreet line_streets (arc_by 1 3 l m) → IsOver line_streets (line l m)
line_over l m least = record {
  nodes = refl;
  up = all_two (IsLeastStreet line_streets) (arc_by 1 3 l m) (arc_by 2 3 140 0)
      least
      (λ e. line_least 2 3 140 (1, omega arith, refl) (λ f t. omega (arith, f)) (λ f t. omega arith) (λ f t. omega (arith, f)) (λ f t. omega (arith, f)));
  down = all_two (IsLeastStreet line_streets) (arc_by 1 2 100 0) (arc_by 3 2 140 0)
      (λ e. line_least 1 2 100 (0, omega arith, refl) (λ f t. omega arith) (λ f t. omega (arith, f)) (λ f t. omega (arith, f)) (λ f t. omega (arith, t)))
      (λ e. line_least 3 2 140 (2, omega arith, refl) (λ f t. omega (arith, f)) (λ f t. omega (arith, f)) (λ f t. omega arith) (λ f t. omega (arith, f)));
}

-- with an added arc by way of 2
pub added_rules : IsHierarchy (line 240 2)
added_rules = line_rules 240 2 (omega arith) (λ ne. record {
  middle = line_node 240 2 2 (omega arith) (omega arith);
  below_from = omega arith;
  below_to = omega arith;
  l = 100;
  k = 140;
  first = (record { 0 = 0 }, (0, omega arith, refl));
  second = (record { 0 = 0 }, (1, omega arith, refl));
  total = refl;
})

pub added_over : IsOver line_streets (line 240 2)
added_over = line_over 240 2 (λ e. absurd (omega (arith, e)))

-- with a street that is longer than the way by 2
pub long_over : IsOver line_streets (line 500 0)
long_over =
    line_over 500 0 (λ e. line_least 1 3 500 (3, omega arith, refl) (λ f t. omega (arith, t)) (λ f t. omega (arith, f)) (λ f t. omega (arith, f)) (λ f t. omega arith))
