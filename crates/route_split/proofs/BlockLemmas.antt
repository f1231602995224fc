-- The rows of a block of seconds.
use Rattle.std.proofs.Common.{◌≡◌, ℕ, zero, suc, ◌+◌, ◌-◌, ◌*◌, ◌<◌, ◌≤◌, inl, inr, List, [], ◌++◌, length, take, drop, refl, sym, ap, ◌∙◌, subst, arith, append_assoc, length-append, length-drop}
use Rattle.std.specs.Prelude.{All}
use Rattle.std.proofs.Math.Nat.{suc-mul, zero-mul}
use Rattle.std.proofs.lemmas.Nat.{mul-le}
use Rattle.std.proofs.lemmas.Bool.{cases_lt}
use Rattle.std.proofs.lemmas.List.{append-nil, length-map, drop-append-le, take-append-le, drop_at, take_at, take_all}
use Rattle.std.proofs.lemmas.List.Elements.{All-append, All-nil}
use Rattle.move_model.specs.declared.network.TripNo.{TripNo}
use Rattle.move_model.specs.declared.network.Trip.{Trip}
use Rattle.route_split.specs.Fill.{block, arrivals_at, departures_at, call_at}

rows_more : (n q : ℕ) → 2 * suc n * q ≡ 2 * n * q + (q + q)
rows_more n q =
    let e : 2 * suc n ≡ suc (suc (2 * n)) = omega arith in
    ap (λ m. m * q) e ∙ omega (arith, suc-mul (suc (2 * n)) q, suc-mul (2 * n) q)

pub odd_row : (k q : ℕ) → (2 * k + 1) * q ≡ 2 * k * q + q
odd_row k q =
    let e : 2 * k + 1 ≡ suc (2 * k) = omega arith in
    ap (λ m. m * q) e ∙ suc-mul (2 * k) q

pub rows_within : (k n q : ℕ) → k < n → 2 * k * q + (q + q) ≤ 2 * n * q
rows_within k n q low =
    let le : 2 * suc k ≤ 2 * n = omega arith in
    let same : q ≤ q = omega arith in
    omega (arith, rows_more k q, mul-le (2 * suc k) q (2 * n) q le same)

-- a part of what stands first
pub part_within : {X : Type 0} (xs ys : List X) (a b : ℕ) → a ≤ b → b ≤ length xs → take (b - a) (drop a (xs ++ ys)) ≡ take (b - a) (drop a xs)
part_within xs ys a b order within =
    let low : a ≤ length xs = omega arith in
    let short : b - a ≤ length (drop a xs) = omega (arith, length-drop a xs) in
    ap (take (b - a)) (drop-append-le a xs ys low) ∙ take-append-le (b - a) (drop a xs) ys short

-- the part that stands behind a list
pub part_between : {X : Type 0} (xs ys zs : List X) (a b : ℕ) → length xs ≡ a → a + length ys ≡ b → take (b - a) (drop a (xs ++ (ys ++ zs))) ≡ ys
part_between xs ys zs a b first long =
    let long' : length ys ≡ b - a = omega (arith, long) in
    ap (take (b - a)) (drop_at xs (ys ++ zs) a first) ∙ take_at ys zs (b - a) long'

pub part_last : {X : Type 0} (xs ys : List X) (a b : ℕ) → length xs ≡ a → a + length ys ≡ b → take (b - a) (drop a (xs ++ ys)) ≡ ys
part_last xs ys a b first long =
    let long' : length ys ≤ b - a = omega (arith, long) in
    ap (take (b - a)) (drop_at xs ys a first) ∙ take_all (b - a) ys long'

module _ (trips : List Trip) (group : List TripNo) where
  block_none : block trips group zero ≡ []
  unfolding block
  block_none = refl

  block_more : (k : ℕ) → block trips group (suc k) ≡ block trips group k ++ (arrivals_at trips group k ++ departures_at trips group k)
  unfolding block
  block_more k = refl

  pub length-arrivals : (k : ℕ) → length (arrivals_at trips group k) ≡ length group
  length-arrivals k = length-map group (λ t. (call_at trips k t).arr)

  pub length-departures : (k : ℕ) → length (departures_at trips group k) ≡ length group
  length-departures k = length-map group (λ t. (call_at trips k t).dep)

  pub length-block : (n : ℕ) → length (block trips group n) ≡ 2 * n * length group
  length-block zero =
      let none : 2 * zero ≡ 0 = omega arith in
      ap length block_none ∙ sym (ap (λ m. m * length group) none ∙ zero-mul (length group))
  length-block (suc n) =
      ap length (block_more n)
      ∙ length-append (block trips group n) (arrivals_at trips group n ++ departures_at trips group n)
      ∙ omega (arith, length-append (arrivals_at trips group n) (departures_at trips group n), length-arrivals n, length-departures n, length-block n, rows_more n (length group))

  pub arrivals_row : (n k : ℕ) → k < n
      → take (2 * k * length group + length group - 2 * k * length group) (drop (2 * k * length group) (block trips group n)) ≡ arrivals_at trips group k
  arrivals_row zero k low = absurd (omega arith)
  arrivals_row (suc n) k low =
      let q = length group in
      let a = 2 * k * length group in
      let more = arrivals_at trips group n ++ departures_at trips group n in
      ap (λ l. take (a + q - a) (drop a l)) (block_more n)
      ∙ elim (cases_lt k n) [
        | inl before ↦
            part_within (block trips group n) more a (a + q) (omega arith) (omega (arith, length-block n, rows_within k n q before))
            ∙ arrivals_row n k before
        | inr last ↦
            let same : n ≡ k = omega arith in
            part_between (block trips group n) (arrivals_at trips group n) (departures_at trips group n) a (a + q)
            (length-block n ∙ ap (λ m. 2 * m * length group) same) (omega (arith, length-arrivals n))
            ∙ ap (arrivals_at trips group) same
      ]

  pub departures_row : (n k : ℕ) → k < n
      → take ((2 * k + 1) * length group + length group - (2 * k + 1) * length group) (drop ((2 * k + 1) * length group) (block trips group n)) ≡ departures_at trips group k
  departures_row zero k low = absurd (omega arith)
  departures_row (suc n) k low =
      let q = length group in
      let a = (2 * k + 1) * length group in
      let av = arrivals_at trips group n in
      let dv = departures_at trips group n in
      ap (λ l. take (a + q - a) (drop a l)) (block_more n)
      ∙ elim (cases_lt k n) [
        | inl before ↦
            part_within (block trips group n) (av ++ dv) a (a + q) (omega arith) (omega (arith, length-block n, rows_within k n q before, odd_row k q))
            ∙ departures_row n k before
        | inr last ↦
            let same : n ≡ k = omega arith in
            ap (λ l. take (a + q - a) (drop a l)) (sym (append_assoc (block trips group n) av dv))
            ∙ part_last (block trips group n ++ av) dv a (a + q)
            (length-append (block trips group n) av ∙ omega (arith, length-block n, ap (λ m. 2 * m * length group) same, length-arrivals n, odd_row k q))
            (omega (arith, length-departures n))
            ∙ ap (departures_at trips group) same
      ]

  pub All-block : (P : ℕ → Type 0) (n : ℕ) → ((k : ℕ) → k < n → All P (arrivals_at trips group k)) → ((k : ℕ) → k < n → All P (departures_at trips group k))
      → All P (block trips group n)
  All-block P zero av dv = subst (All P) (sym block_none) (All-nil P)
  All-block P (suc n) av dv =
      let last : n < suc n = omega arith in
      subst (All P) (sym (block_more n))
      (All-append P (block trips group n) (arrivals_at trips group n ++ departures_at trips group n)
      (All-block P n (λ k low. av k (omega (arith, low))) (λ k low. dv k (omega (arith, low))))
      (All-append P (arrivals_at trips group n) (departures_at trips group n) (av n last) (dv n last)))

  -- no row yet, and the two rows of one more call
  pub none_pushed : (init : List ℕ) → init ≡ init ++ block trips group 0
  none_pushed init = sym (ap (λ l. init ++ l) block_none ∙ append-nil init)

  pub rows_pushed : (init s0 s1 s2 : List ℕ) (k : ℕ) → s0 ≡ init ++ block trips group k → s1 ≡ s0 ++ arrivals_at trips group k
      → s2 ≡ s1 ++ departures_at trips group k → s2 ≡ init ++ block trips group (k + 1)
  rows_pushed init s0 s1 s2 k e0 e1 e2 =
      let next : suc k ≡ k + 1 = omega arith in
      let av = arrivals_at trips group k in
      let dv = departures_at trips group k in
      e2
      ∙ ap (λ l. l ++ dv) (e1 ∙ ap (λ l. l ++ av) e0)
      ∙ append_assoc (init ++ block trips group k) av dv
      ∙ append_assoc init (block trips group k) (av ++ dv)
      ∙ ap (λ l. init ++ l) (sym (block_more k))
      ∙ ap (λ n. init ++ block trips group n) next
