-- Least sums, where it is not known which sums there are.
use Rattle.std.proofs.Common.{◌≡◌, ◌∙◌, ◌+◌, ◌<◌, ◌≤◌, ℕ, zero, suc, List, Option, Some, None, refl, ap, subst, inl, inr, arith}
use Rattle.std.specs.Prelude.{Contains}
use Rattle.std.proofs.lemmas.Bool.{cases_lt}
use Rattle.walk_laws.specs.Sums.{IsLeast, HasLeast, longest}
use Rattle.walk_hierarchy.specs.declared.settled.Settled.{Settled}
use Rattle.walk_hierarchy.specs.Hierarchy.{AreSettled}
use Rattle.bucket_walks.specs.declared.bucket.Bucket.{Bucket}
use Rattle.bucket_walks.specs.Buckets.{IsNeeded}
use Rattle.bucket_walks.specs.Scan.{IsOver}

least_below : (P : ℕ → Type 0) → ((k : ℕ) → IsLeast P k → ⊥) → (n m : ℕ) → m < n → P m → ⊥
least_below P none zero m lt p = absurd (omega arith)
least_below P none (suc n) m lt p =
    none m (record {
      attained = p;
      least = λ k q. elim (cases_lt k m) [ inl less ↦ absurd (least_below P none n k (omega arith) q) | inr le ↦ le ];
    })

-- where there is a number, it can't be that there is no least one
pub not_without : (P : ℕ → Type 0) (m : ℕ) → P m → ((k : ℕ) → IsLeast P k → k ≤ m → ⊥) → ⊥
not_without P m p none = least_below P (λ k least. none k least (least.least m p)) (suc m) m (omega arith) p

pub least_same : (P : ℕ → Type 0) (m n : ℕ) → IsLeast P m → IsLeast P n → m ≡ n
least_same P m n one two = omega (arith, one.least n two.attained, two.least m one.attained)

-- a sum to a vertex and the seconds of an entry there
pub record IsMet (sum : ℕ → ℕ → Type 0) (list : List Bucket) (p seconds : ℕ) : Type 0 where
  pub top : ℕ
  pub l : ℕ
  pub k : ℕ
  pub there : sum top l
  pub entry : Contains list (record { node = record { 0 = top }; stop = record { 0 = p }; seconds = k })
  pub total : l + k ≡ seconds

module _ (sum : ℕ → ℕ → Type 0) (list : List Bucket) (settled : List Settled) (are : AreSettled sum settled) (p : ℕ) where
  met_over : (m : ℕ) → IsOver settled list p m → IsMet sum list p m
  met_over m over =
      let v = over.there.node.0 in
      let at : ◌≡◌ {A = Bucket} over.entry (record { node = record { 0 = v }; stop = record { 0 = p }; seconds = over.entry.seconds }) =
      ap (λ node. record over.entry { node = node }) over.meets ∙ ap (λ stop. record { node = over.there.node; stop = record { 0 = stop }; seconds = over.entry.seconds }) over.stop_is in
      record {
        top = v;
        l = over.there.seconds;
        k = over.entry.seconds;
        there = ((are.least v over.there.seconds).0 over.comes).attained;
        entry = subst (λ (entry : Bucket). Contains list entry) at over.stands;
        total = over.total;
      }

  -- a sum by way of an entry can't be less than all those of settled vertices
  not_less : (m : ℕ) → IsMet sum list p m → ((n : ℕ) → IsOver settled list p n → n ≤ m → ⊥) → ⊥
  not_less m met none =
      not_without (sum met.top) met.l met.there
      (λ l least le. none (l + met.k)
      (record {
        there = record { node = record { 0 = met.top }; seconds = l };
        entry = record { node = record { 0 = met.top }; stop = record { 0 = p }; seconds = met.k };
        comes = (are.least met.top l).1 least;
        stands = met.entry;
        meets = refl;
        stop_is = refl;
        total = refl;
      })
      (omega (arith, met.total)))

  pub over_least : (r : Option ℕ) → HasLeast (IsOver settled list p) r → HasLeast (IsMet sum list p) r
  over_least None none = λ m met. not_less m met (λ n over le. none n over)
  over_least (Some s) least = record {
    attained = met_over s least.attained;
    least = λ m met. elim (cases_lt m s) [
      | inl less ↦ absurd (not_less m met (λ n over le. omega (arith, least.least n over)))
      | inr le ↦ le
    ];
  }

-- Where a sum to a vertex, and from there to the end, can be made less by an arc over to another vertex, it is, until no
-- arc makes it less.
module _ (sum back : ℕ → ℕ → Type 0) (over : ℕ → ℕ → ℕ → Type 0) (goes_on : (v w l m : ℕ) → sum v m → over v w l → sum w (m + l)) where
  needed_below : (n v l k : ℕ) → sum v l → back v k → l + k < n → l + k ≤ longest
      → ((w a b : ℕ) → sum w a → IsNeeded back over w b → a + b ≤ l + k → ⊥) → ⊥
  needed_below zero v l k there rest lt short none = absurd (omega arith)
  needed_below (suc n) v l k there rest lt short none =
      not_without (back v) k rest
      (λ m least le. none v l m there
      (record {
        least = least;
        short = omega arith;
        direct = λ w x y arc from_there. elim (cases_lt (x + y) m) [
          | inl less ↦
              absurd (needed_below n w (l + x) y (goes_on v w x l there arc) from_there (omega arith) (omega arith)
              (λ u a b to_u needed within. none u a b to_u needed (omega arith)))
          | inr more ↦ more
        ];
      })
      (omega arith))

  pub not_without_needed : (v l k : ℕ) → sum v l → back v k → l + k ≤ longest
      → ((w a b : ℕ) → sum w a → IsNeeded back over w b → a + b ≤ l + k → ⊥) → ⊥
  not_without_needed v l k there rest short none = needed_below (suc (l + k)) v l k there rest (omega arith) short none
