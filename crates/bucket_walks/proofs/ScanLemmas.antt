-- One entry on, one settled vertex on, and the whole of a row.
use Rattle.std.proofs.Common.{◌≡◌, ◌∙◌, ◌+◌, ◌<◌, ◌⊎◌, ◌↔◌, ℕ, List, Option, Some, None, length, take, get_or, sym, ap, inl, inr, arith}
use Rattle.std.specs.Prelude.{Contains}
use Rattle.move_model.specs.declared.network.NodeNo.{NodeNo}
use Rattle.walk_laws.specs.Sums.{HasLeast}
use Rattle.walk_hierarchy.specs.declared.settled.Settled.{Settled}
use Rattle.walk_hierarchy.specs.Hierarchy.{Parts, IsUpSum, IsDownSum, AreSettled}
use Rattle.bucket_walks.specs.declared.bucket.Bucket.{Bucket}
use Rattle.bucket_walks.specs.Buckets.{Parts as BucketParts, IsFirstSum, IsLastSum, HoldsFirst, HoldsLast}
use Rattle.bucket_walks.specs.Scan.{IsHeld, Lowers, IsAt, IsBy, IsOver}
use Rattle.bucket_walks.proofs.ListLemmas.{taken_cases, taken_before, taken_last}
use Rattle.bucket_walks.proofs.LowerLemmas.{lowers_then, least_of}
use Rattle.bucket_walks.proofs.LeastLaws.{IsMet, over_least}

module _ (entries : List Bucket) (s i : ℕ) (x : Bucket) (lt : i < length entries) (is : x ≡ get_or entries i x) where
  by_parts : (p m : ℕ) → IsBy (take (i + 1) entries) s p m → IsBy (take i entries) s p m ⊎ IsAt x.stop.0 (s + x.seconds) p m
  by_parts p m by = elim (taken_cases entries i x by.entry lt is by.stands) [
    | inl before ↦ inl (record { entry = by.entry; stands = before; stop_is = by.stop_is; total = by.total })
    | inr e ↦ inr (record {
      stop_is = ap (λ (b : Bucket). b.stop.0) e ∙ by.stop_is;
      seconds_are = ap (λ (b : Bucket). s + b.seconds) e ∙ by.total;
    })
  ]

  by_first : (p m : ℕ) → IsBy (take i entries) s p m → IsBy (take (i + 1) entries) s p m
  by_first p m by = record { entry = by.entry; stands = taken_before entries i x by.entry lt is by.stands; stop_is = by.stop_is; total = by.total }

  by_second : (p m : ℕ) → IsAt x.stop.0 (s + x.seconds) p m → IsBy (take (i + 1) entries) s p m
  by_second p m at = record { entry = x; stands = taken_last entries i x lt is; stop_is = at.stop_is; total = at.seconds_are }

  pub lowers_by_more : (a b c : List (Option ℕ)) → Lowers a b (IsBy (take i entries) s) → Lowers b c (IsAt x.stop.0 (s + x.seconds)) → Lowers a c (IsBy (take (i + 1) entries) s)
  lowers_by_more a b c one two =
      lowers_then (IsBy (take i entries) s) (IsAt x.stop.0 (s + x.seconds)) (IsBy (take (i + 1) entries) s) a b c by_parts by_first by_second one two

module _ (settled : List Settled) (list row : List Bucket) (i : ℕ) (x : Settled) (lt : i < length settled) (is : x ≡ get_or settled i x)
    (holds : (entry : Bucket) → Contains row entry ↔ (Contains list entry × (entry.node ≡ x.node))) where
  over_parts : (p m : ℕ) → IsOver (take (i + 1) settled) list p m → IsOver (take i settled) list p m ⊎ IsBy row x.seconds p m
  over_parts p m over = elim (taken_cases settled i x over.there lt is over.comes) [
    | inl before ↦
        inl (record { there = over.there; entry = over.entry; comes = before; stands = over.stands; meets = over.meets; stop_is = over.stop_is; total = over.total })
    | inr e ↦ inr (record {
      entry = over.entry;
      stands = (holds over.entry).1 (over.stands, over.meets ∙ ap (λ (t : Settled). t.node) (sym e));
      stop_is = over.stop_is;
      total = ap (λ (t : Settled). t.seconds + over.entry.seconds) e ∙ over.total;
    })
  ]

  over_first : (p m : ℕ) → IsOver (take i settled) list p m → IsOver (take (i + 1) settled) list p m
  over_first p m over = record {
    there = over.there;
    entry = over.entry;
    comes = taken_before settled i x over.there lt is over.comes;
    stands = over.stands;
    meets = over.meets;
    stop_is = over.stop_is;
    total = over.total;
  }

  over_second : (p m : ℕ) → IsBy row x.seconds p m → IsOver (take (i + 1) settled) list p m
  over_second p m by =
      let at = (holds by.entry).0 by.stands in
      record { there = x; entry = by.entry; comes = taken_last settled i x lt is; stands = at.0; meets = at.1; stop_is = by.stop_is; total = by.total }

  pub lowers_over_more : (a b c : List (Option ℕ)) → Lowers a b (IsOver (take i settled) list) → Lowers b c (IsBy row x.seconds) → Lowers a c (IsOver (take (i + 1) settled) list)
  lowers_over_more a b c one two =
      lowers_then (IsOver (take i settled) list) (IsBy row x.seconds) (IsOver (take (i + 1) settled) list) a b c over_parts over_first over_second one two

-- a row that had no seconds
module _ (settled : List Settled) (list : List Bucket) (none row : List (Option ℕ)) (is_none : (p : ℕ) → get_or none p None ≡ None)
    (lowers : Lowers none row (IsOver settled list)) (sum : ℕ → ℕ → Type 0) (are : AreSettled sum settled) where
  not_held : (p m : ℕ) → IsHeld none p m → ⊥
  not_held p m held = let e : ◌≡◌ {A = Option ℕ} None (Some m) = sym (is_none p) ∙ held.is in cc

  pub least_met : (p : ℕ) → p < length none → HasLeast (IsMet sum list p) (get_or row p None)
  least_met p low =
      over_least sum list settled are p (get_or row p None)
      (least_of (λ m. IsHeld none p m ⊎ IsOver settled list p m) (IsOver settled list p) (get_or row p None)
      (λ m either. elim either [ inl held ↦ absurd (not_held p m held) | inr over ↦ over ])
      (λ n over. (n, (inr over, omega arith)))
      (lowers.least p low))

pub first_holds : (h : Parts) (b : BucketParts) (a : NodeNo) (settled : List Settled) (none row : List (Option ℕ)) → AreSettled (IsUpSum h a.0) settled
    → length none ≡ b.stops → ((p : ℕ) → get_or none p None ≡ None) → Lowers none row (IsOver settled b.to) → HoldsFirst h b a row
first_holds h b a settled none row are many is_none lowers = record {
  one_each = lowers.many ∙ many;
  least = λ p low.
      least_of (IsMet (IsUpSum h a.0) b.to p) (IsFirstSum h b a p) (get_or row p None)
      (λ m met. record { top = met.top; l = met.l; k = met.k; up = met.there; entry = met.entry; total = met.total })
      (λ n sum. (n, (record { top = sum.top; l = sum.l; k = sum.k; there = sum.up; entry = sum.entry; total = sum.total }, omega arith)))
      (least_met settled b.to none row is_none lowers (IsUpSum h a.0) are p (omega (arith, many)));
}

pub last_holds : (h : Parts) (b : BucketParts) (t : NodeNo) (settled : List Settled) (none row : List (Option ℕ)) → AreSettled (λ v m. IsDownSum h v t.0 m) settled
    → length none ≡ b.stops → ((p : ℕ) → get_or none p None ≡ None) → Lowers none row (IsOver settled b.from) → HoldsLast h b t row
last_holds h b t settled none row are many is_none lowers = record {
  one_each = lowers.many ∙ many;
  least = λ p low.
      least_of (IsMet (λ v m. IsDownSum h v t.0 m) b.from p) (λ m. IsLastSum h b p t m) (get_or row p None)
      (λ m met. record { top = met.top; l = met.k; k = met.l; entry = met.entry; down = met.there; total = omega (arith, met.total) })
      (λ n sum. (n, (record { top = sum.top; l = sum.k; k = sum.l; there = sum.down; entry = sum.entry; total = omega (arith, sum.total) }, omega arith)))
      (least_met settled b.from none row is_none lowers (λ v m. IsDownSum h v t.0 m) are p (omega (arith, many)));
}
