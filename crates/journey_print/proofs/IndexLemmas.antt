-- Arcs in the order of their ends, and the parts of them that have the same ends.
use Rattle.std.proofs.Common.{◌≡◌, ◌∙◌, ℕ, ◌+◌, ◌-◌, ◌<◌, List, length, take, drop, get_or, nat_lt, true, false, unwrap_or, refl, sym, ap, inl, inr, arith, length-drop, length-take, Option, Some, None}
use Rattle.std.specs.Prelude.{Contains, nat_le}
use Rattle.std.specs.List.Sorted.{IsPermutation, IsPartitionPoint, IsPartitionedBy, IsNonDecreasingBy}
use Rattle.std.proofs.lemmas.Bool.{cases_lt}
use Rattle.std.proofs.lemmas.Bool.Decides.{nat_tests}
use Rattle.std.proofs.lemmas.List.{get_or-take, get_or-drop}
use Rattle.std.proofs.lemmas.List.Sorted.{Contains-permutation, IsPermutation-sym, IsPartitionedBy-ltb, IsPartitionedBy-leb, IsNonDecreasingBy-drop}
use Rattle.move_model.specs.declared.network.NodeNo.{NodeNo}
use Rattle.move_model.specs.declared.network.Arc.{Arc}
use Rattle.move_model.specs.Streets.{HasLeastArc}
use Rattle.journey_print.specs.Arcs.{ends_key, key_of, TellsLeastArcs}
use Rattle.journey_print.specs.Legs.{least_arc, least_seconds}
use Rattle.journey_print.proofs.ArcLemmas.{least_arc_has}

-- the least of some arcs is the least of all, where those with these ends are among them
pub least_of_part : (part arcs : List Arc) (p q : NodeNo) (o : Option ℕ) → ((arc : Arc) → Contains part arc → Contains arcs arc)
    → ((arc : Arc) → key_of arc ≡ ends_key p q → Contains arcs arc → Contains part arc)
    → HasLeastArc part p q o → HasLeastArc arcs p q o
least_of_part part arcs p q (Some m) some all has = record {
  attained = some (record { from = p; to = q; seconds = m }) has.attained;
  least = λ k h. has.least k (all (record { from = p; to = q; seconds = k }) refl h);
}
least_of_part part arcs p q None some all has = λ k h. has k (all (record { from = p; to = q; seconds = k }) refl h)

pub TellsLeastArcs-permutation : (arcs sorted : List Arc) → IsPermutation arcs sorted → TellsLeastArcs sorted arcs
TellsLeastArcs-permutation arcs sorted same = λ p q seconds has.
    least_of_part sorted arcs p q seconds (λ arc h. Contains-permutation sorted arcs arc (IsPermutation-sym arcs sorted same) h)
    (λ arc e h. Contains-permutation arcs sorted arc same h) has

least_unique : (arcs : List Arc) (p q : NodeNo) (o o' : Option ℕ) → HasLeastArc arcs p q o → HasLeastArc arcs p q o' → o ≡ o'
least_unique arcs p q None None h k = refl
least_unique arcs p q None (Some m) h k = absurd (h m k.attained)
least_unique arcs p q (Some l) None h k = absurd (k l h.attained)
least_unique arcs p q (Some l) (Some m) h k = ap (λ n. Some n) (omega (arith, h.least m k.attained, k.least l h.attained))

pub least_seconds-has : (arcs : List Arc) (p q : NodeNo) (o : Option ℕ) → HasLeastArc arcs p q o → unwrap_or o 0 ≡ least_seconds arcs p q
least_seconds-has arcs p q o has = ap (λ r. unwrap_or r 0) (least_unique arcs p q o (least_arc arcs p q) has (least_arc_has arcs p q))

pub least_seconds-told : (told arcs : List Arc) → TellsLeastArcs told arcs → (p q : NodeNo) → least_seconds told p q ≡ least_seconds arcs p q
least_seconds-told told arcs tells p q = least_seconds-has arcs p q (least_arc told p q) (tells p q (least_arc told p q) (least_arc_has told p q))

pub parted_below : (arcs : List Arc) (key : ℕ) → IsNonDecreasingBy key_of arcs → IsPartitionedBy (λ (arc : Arc). nat_lt (key_of arc) key) arcs
parted_below arcs key rising = IsPartitionedBy-ltb key_of arcs key rising

pub parted_upto : (arcs : List Arc) (key first : ℕ) → IsNonDecreasingBy key_of arcs → IsPartitionedBy (λ (arc : Arc). nat_le (key_of arc) key) (drop first arcs)
parted_upto arcs key first rising = IsPartitionedBy-leb key_of (drop first arcs) key (IsNonDecreasingBy-drop key_of first arcs rising)

pub Contains-of_part : (arcs : List Arc) (first count : ℕ) (arc : Arc) → Contains (take count (drop first arcs)) arc → Contains arcs arc
Contains-of_part arcs first count arc (i, within, is) =
    let few : i < count = omega (arith, within, length-take count (drop first arcs)) in
    let rest : i < length (drop first arcs) = omega (arith, within, length-take count (drop first arcs)) in (
      first + i,
      omega (arith, rest, length-drop first arcs),
      sym (get_or-drop first arcs i arc) ∙ (sym (get_or-take count (drop first arcs) i arc few) ∙ is),
    )

not_below : (n key : ℕ) → n ≡ key → nat_lt n key ≡ true → ⊥
not_below n key is h = grind (arith, nat_tests)

not_above : (n key : ℕ) → n ≡ key → nat_le n key ≡ false → ⊥
not_above n key is h = grind (arith, nat_tests)

-- the arcs with a key stand together: behind those with a lesser key
pub Contains-part : (arcs : List Arc) (key first count : ℕ)
    → IsPartitionPoint (λ (arc : Arc). nat_lt (key_of arc) key ≡ true) (λ (arc : Arc). nat_lt (key_of arc) key ≡ false) arcs first
    → IsPartitionPoint (λ (arc : Arc). nat_le (key_of arc) key ≡ true) (λ (arc : Arc). nat_le (key_of arc) key ≡ false) (drop first arcs) count
    → (arc : Arc) → key_of arc ≡ key → Contains arcs arc → Contains (take count (drop first arcs)) arc
Contains-part arcs key first count below upto arc key_is (i, within, is) =
    elim (cases_lt i first) [
      | inl before ↦ absurd (not_below (key_of (get_or arcs i arc)) key (ap key_of is ∙ key_is) (below.0 i arc (omega arith) before))
      | inr behind ↦
          let there : get_or (drop first arcs) (i - first) arc ≡ arc = get_or-drop first arcs (i - first) arc ∙ (ap (λ k. get_or arcs k arc) (omega (arith, behind)) ∙ is) in
          let left : i - first < length (drop first arcs) = omega (arith, behind, within, length-drop first arcs) in
          elim (cases_lt (i - first) count) [
            | inl few ↦ (
              i - first,
              omega (arith, few, left, length-take count (drop first arcs)),
              get_or-take count (drop first arcs) (i - first) arc few ∙ there,
            )
            | inr past ↦ absurd (not_above (key_of (get_or (drop first arcs) (i - first) arc)) key (ap key_of there ∙ key_is) (upto.1 (i - first) arc past left))
          ]
    ]
