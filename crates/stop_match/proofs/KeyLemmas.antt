-- Distances to cells, and the order of keys.
use Rattle.std.proofs.Common.{◌≡◌, ◌∙◌, ◌*◌, ◌<◌, ◌≤◌, ℕ, ℤ, ◌≤ℤ◌, ◌-ℤ◌, refl, inl, inr, arith}
use Rattle.std.specs.Prelude.{unsigned_abs}
use Rattle.std.proofs.lemmas.Bool.{cases_lt}
use Rattle.std.proofs.lemmas.Int.{ints}
use Rattle.std.proofs.Math.Nat.{mul-le-mul}
use Rattle.street_graph.specs.declared.point.Point.{Point}
use Rattle.stop_match.specs.declared.cell.Cell.{Cell}
use Rattle.stop_match.specs.declared.target.Key.{Key}
use Rattle.stop_match.specs.declared.target.Target.{Target}
use Rattle.stop_match.specs.Nearest.{squared, square_distance}
use Rattle.stop_match.specs.Cell.{Within, IsPoint, cell_of, gap, square_of, key_of, IsBefore, IsNoLater}

-- no coordinate of a range is nearer than the range
pub gap-le : (at low high z : ℤ) → low ≤ℤ z → z ≤ℤ high → gap at low high ≤ unsigned_abs (at -ℤ z)
gap-le at low high z l h = grind (arith, ints)

-- the distance from one coordinate
pub gap-same : (at z : ℤ) → gap at z z ≡ unsigned_abs (at -ℤ z)
gap-same at z = grind (arith, ints)

squared-le : (a b : ℕ) → a ≤ b → squared a ≤ squared b
squared-le a b h = mul-le-mul h h

square_of-le : (w a b : ℕ) → a ≤ b → square_of w a ≤ square_of w b
square_of-le w a b h = squared-le (w * a) (w * b) (mul-le-mul (omega arith) h)

-- the key of one point
pub key-point : (t : Target) (point : Point) (n : ℕ)
    → key_of t (cell_of point n) ≡ record { square = square_distance t.lat t.lon t.scale point; number = n }
unfolding key_of
key-point t point n = rw (gap-same t.lat point.lat, gap-same t.lon point.lon) refl

-- a cell has no greater key than a point in it
pub key-le : (t : Target) (inner outer : Cell) → IsPoint inner → Within inner outer
    → ((key_of t outer).square ≤ (key_of t inner).square) × ((key_of t outer).number ≤ (key_of t inner).number)
unfolding key_of
key-le t inner outer p w =
    let lat : gap t.lat outer.lat_low outer.lat_high ≤ gap t.lat inner.lat_low inner.lat_high =
    rw (p.lat, gap-same t.lat inner.lat_high) (gap-le t.lat outer.lat_low outer.lat_high inner.lat_high (rw p.lat at w.lat_low) w.lat_high) in
    let lon : gap t.lon outer.lon_low outer.lon_high ≤ gap t.lon inner.lon_low inner.lon_high =
    rw (p.lon, gap-same t.lon inner.lon_high) (gap-le t.lon outer.lon_low outer.lon_high inner.lon_high (rw p.lon at w.lon_low) w.lon_high) in
    (omega (arith, square_of-le 1000 _ _ lat, square_of-le t.scale _ _ lon), w.least)

pub IsNoLater-refl : (k : Key) → IsNoLater k k
IsNoLater-refl k = inr (refl, omega arith)

pub IsNoLater-trans : (k m n : Key) → IsNoLater k m → IsNoLater m n → IsNoLater k n
IsNoLater-trans k m n (inl a) (inl b) = inl (omega arith)
IsNoLater-trans k m n (inl a) (inr b) = inl (omega arith)
IsNoLater-trans k m n (inr a) (inl b) = inl (omega arith)
IsNoLater-trans k m n (inr a) (inr b) = inr (a.0 ∙ b.0, omega arith)

-- a key that comes before no other than itself comes no earlier
pub IsNoLater-not : (k m : Key) → (IsBefore k m → ⊥) → IsNoLater m k
IsNoLater-not k m refuses =
    elim (cases_lt m.square k.square) [
      | inl less ↦ inl less
      | inr more ↦ elim (cases_lt k.square m.square) [
        | inl before ↦ absurd (refuses (inl before))
        | inr same ↦ elim (cases_lt k.number m.number) [
          | inl first ↦ let e : k.square ≡ m.square = omega arith in absurd (refuses (inr (e, first)))
          | inr later ↦ inr (omega arith, later)
        ]
      ]
    ]

pub IsNoLater-before : (k m : Key) → IsBefore k m → IsNoLater k m
IsNoLater-before k m (inl a) = inl a
IsNoLater-before k m (inr a) = inr (a.0, omega arith)

-- a key that is no later in both parts
pub IsNoLater-parts : (k m : Key) → k.square ≤ m.square → k.number ≤ m.number → IsNoLater k m
IsNoLater-parts k m s n = elim (cases_lt k.square m.square) [ inl less ↦ inl less | inr more ↦ inr (omega arith, n) ]

pub IsNoLater-le : (k m : Key) → IsNoLater k m → k.square ≤ m.square
IsNoLater-le k m (inl a) = omega arith
IsNoLater-le k m (inr a) = omega (arith, a.0)

-- a key of a greater number that is no later has a lesser square
pub IsNoLater-lt : (k m : Key) → IsNoLater k m → m.number < k.number → k.square < m.square
IsNoLater-lt k m (inl a) less = a
IsNoLater-lt k m (inr a) less = absurd (omega (arith, a.1))
