-- The rows of walks are distances, for the buckets of a hierarchy that keeps the distances of its streets.
use Rattle.std.proofs.Common.{◌≡◌, ◌∙◌, ◌+◌, ◌≤◌, ℕ, List, Option, Some, None, get_or, refl, sym, ap, subst, inl, inr, arith}
use Rattle.std.specs.Prelude.{slice_get}
use Rattle.std.proofs.lemmas.Bool.{cases_lt}
use Rattle.std.proofs.lemmas.Option.{slice_get_within, get_or_from_slice_get}
use Rattle.move_model.specs.declared.network.NodeNo.{NodeNo}
use Rattle.move_model.specs.declared.network.Stop.{Stop}
use Rattle.move_model.specs.Streets.{Streets, IsVertex, HasDistance}
use Rattle.walk_laws.specs.Sums.{IsSum, HasLeast, IsShort, longest}
use Rattle.walk_laws.specs.Sums.IsSum.{more}
use Rattle.walk_laws.proofs.SumLemmas.{IsSum-append, IsSum-one}
use Rattle.walk_hierarchy.specs.Hierarchy.{Parts, IsNode, HasArc, IsUpSum, IsDownSum, IsUpDownSum, GivesDistances}
use Rattle.bucket_walks.specs.Buckets.{Parts as BucketParts, IsEntryTo, IsEntryFrom, AreBucketsOf, IsFirstSum, IsLastSum, HoldsFirst, HoldsLast, HoldsDistancesFrom, HoldsDistancesTo}
use Rattle.bucket_walks.proofs.LeastLaws.{not_without, not_without_needed}

-- what is least of some sums is the distance, where they are sums of arcs up and down and none of these is without one that is no greater
module _ (h : Parts) (graph : Streets) (gives : GivesDistances graph h) (short : IsShort graph) (a b : NodeNo) (is_a : IsNode h a) (is_b : IsNode h b)
    (P : ℕ → Type 0) (real : (m : ℕ) → P m → IsUpDownSum h a b m)
    (whole : (m : ℕ) → IsUpDownSum h a b m → m ≤ longest → ((n : ℕ) → P n → n ≤ m → ⊥) → ⊥) where
  vertex : (v : NodeNo) → IsNode h v → IsVertex graph v
  vertex v is = record { from_one = is.from_one; to_nodes = subst (λ (n : ℕ). v.0 ≤ n) (sym gives.nodes) is.to_nodes }

  distance : (r : Option ℕ) → HasLeast (IsUpDownSum h a b) r → HasDistance graph a b r
  distance r least = (gives.distances a b r (vertex a is_a) (vertex b is_b)).0 least

  -- none of the sums is without one of these that is no greater
  not_beyond : (m : ℕ) → IsUpDownSum h a b m → ((n : ℕ) → P n → n ≤ m → ⊥) → ⊥
  not_beyond m sum none =
      not_without (IsUpDownSum h a b) m sum
      (λ k least le. whole k least.attained (short.distances a b k (distance (Some k) least)) (λ n p within. none n p (omega arith)))

  least_all : (r : Option ℕ) → HasLeast P r → HasLeast (IsUpDownSum h a b) r
  least_all None none = λ m sum. not_beyond m sum (λ n p le. none n p)
  least_all (Some s) least = record {
    attained = real s least.attained;
    least = λ m sum. elim (cases_lt m s) [
      | inl less ↦ absurd (not_beyond m sum (λ n p le. omega (arith, least.least n p)))
      | inr le ↦ le
    ];
  }

  pub is_distance : (r : Option ℕ) → HasLeast P r → HasDistance graph a b r
  is_distance r least = distance r (least_all r least)

sum_end : {arc : ℕ → ℕ → ℕ → Type 0} (a v w m l : ℕ) → IsSum arc a v m → arc v w l → IsSum arc a w (m + l)
sum_end a v w m l there last = IsSum-append there (IsSum-one last)

sum_begin : {arc : ℕ → ℕ → ℕ → Type 0} (w v t l m : ℕ) → arc w v l → IsSum arc v t m → IsSum arc w t (m + l)
sum_begin {arc} w v t l m first rest = subst (λ (n : ℕ). IsSum arc w t n) (omega arith) (more first rest)

module _ (h : Parts) (stops : List Stop) (b : BucketParts) (are : AreBucketsOf h stops b) (graph : Streets) (gives : GivesDistances graph h) (short : IsShort graph) (p : ℕ) (stop : Stop) (stands : slice_get stops p ≡ Some stop) where
  stop_node : IsNode h stop.node
  stop_node =
      subst (λ (s : Stop). IsNode h s.node) (get_or_from_slice_get stops p stop stop stands) (are.stand p stop (slice_get_within stops p stop stands))

  same_stop : (other : Stop) → slice_get stops p ≡ Some other → other.node ≡ stop.node
  same_stop other at =
      let e : ◌≡◌ {A = Option Stop} (Some other) (Some stop) = sym at ∙ stands in
      let same : other ≡ stop = cc in
      ap (λ (s : Stop). s.node) same

  first_real : (a : NodeNo) (m : ℕ) → IsFirstSum h b a p m → IsUpDownSum h a stop.node m
  first_real a m sum =
      let entry : IsEntryTo h stops (record { node = record { 0 = sum.top }; stop = record { 0 = p }; seconds = sum.k }) = (are.to _).0 sum.entry in
      record {
        top = sum.top;
        l = sum.l;
        k = sum.k;
        up = sum.up;
        down = subst (λ (v : NodeNo). IsDownSum h sum.top v.0 sum.k) (same_stop entry.stop entry.stands) entry.needed.least.attained;
        total = sum.total;
      }

  first_whole : (a : NodeNo) (m : ℕ) → IsUpDownSum h a stop.node m → m ≤ longest → ((n : ℕ) → IsFirstSum h b a p n → n ≤ m → ⊥) → ⊥
  first_whole a m sum le none =
      not_without_needed (IsUpSum h a.0) (λ v k. IsDownSum h v stop.node.0 k) (HasArc h.up) (λ v w l k there arc. sum_end a.0 v w k l there arc)
      sum.top
      sum.l
      sum.k
      sum.up
      sum.down
      (omega (arith, sum.total))
      (λ w x y up needed within. none (x + y)
      (record {
        top = w;
        l = x;
        k = y;
        up = up;
        entry = (are.to (record { node = record { 0 = w }; stop = record { 0 = p }; seconds = y })).1 (record { stop = stop; stands = stands; needed = needed });
        total = refl;
      })
      (omega (arith, sum.total)))

  pub first_distance : (a : NodeNo) (r : Option ℕ) → IsNode h a → HasLeast (IsFirstSum h b a p) r → HasDistance graph a stop.node r
  first_distance a r is least = is_distance h graph gives short a stop.node is stop_node (IsFirstSum h b a p) (first_real a) (first_whole a) r least

  last_real : (t : NodeNo) (m : ℕ) → IsLastSum h b p t m → IsUpDownSum h stop.node t m
  last_real t m sum =
      let entry : IsEntryFrom h stops (record { node = record { 0 = sum.top }; stop = record { 0 = p }; seconds = sum.l }) = (are.from _).0 sum.entry in
      record {
        top = sum.top;
        l = sum.l;
        k = sum.k;
        up = subst (λ (v : NodeNo). IsUpSum h v.0 sum.top sum.l) (same_stop entry.stop entry.stands) entry.needed.least.attained;
        down = sum.down;
        total = sum.total;
      }

  last_whole : (t : NodeNo) (m : ℕ) → IsUpDownSum h stop.node t m → m ≤ longest → ((n : ℕ) → IsLastSum h b p t n → n ≤ m → ⊥) → ⊥
  last_whole t m sum le none =
      not_without_needed (λ v k. IsDownSum h v t.0 k) (λ v k. IsUpSum h stop.node.0 v k) (λ v w l. HasArc h.down w v l) (λ v w l k there arc. sum_begin w v t.0 l k arc there)
      sum.top
      sum.k
      sum.l
      sum.down
      sum.up
      (omega (arith, sum.total))
      (λ w x y down needed within. none (y + x)
      (record {
        top = w;
        l = y;
        k = x;
        entry = (are.from (record { node = record { 0 = w }; stop = record { 0 = p }; seconds = y })).1 (record { stop = stop; stands = stands; needed = needed });
        down = down;
        total = refl;
      })
      (omega (arith, sum.total)))

  pub last_distance : (t : NodeNo) (r : Option ℕ) → IsNode h t → HasLeast (λ m. IsLastSum h b p t m) r → HasDistance graph stop.node t r
  last_distance t r is least = is_distance h graph gives short stop.node t stop_node is (λ m. IsLastSum h b p t m) (last_real t) (last_whole t) r least

pub first_distances : (h : Parts) (stops : List Stop) (b : BucketParts) (graph : Streets) (a : NodeNo) (row : List (Option ℕ)) → AreBucketsOf h stops b
    → GivesDistances graph h → IsShort graph → IsNode h a → HoldsFirst h b a row → HoldsDistancesFrom graph a stops row
first_distances h stops b graph a row are gives short is holds = record {
  one_each = holds.one_each ∙ are.one_each;
  distances = λ p stop stands.
      first_distance h stops b are graph gives short p stop stands a (get_or row p None) is
      (holds.least p (omega (arith, slice_get_within stops p stop stands, are.one_each)));
}

pub last_distances : (h : Parts) (stops : List Stop) (b : BucketParts) (graph : Streets) (t : NodeNo) (row : List (Option ℕ)) → AreBucketsOf h stops b
    → GivesDistances graph h → IsShort graph → IsNode h t → HoldsLast h b t row → HoldsDistancesTo graph stops t row
last_distances h stops b graph t row are gives short is holds = record {
  one_each = holds.one_each ∙ are.one_each;
  distances = λ p stop stands.
      last_distance h stops b are graph gives short p stop stands t (get_or row p None) is
      (holds.least p (omega (arith, slice_get_within stops p stop stands, are.one_each)));
}
