-- Points in the order of their places.
use Rattle.std.proofs.Common.{◌≡◌, ◌∙◌, ◌+◌, ◌-◌, ◌<◌, ◌++◌, ℕ, List, length, get_or, take, sym, ap, arith}
use Rattle.std.proofs.Math.Seq.{take-append_seam}
use Rattle.std.specs.Prelude.{All, IsPermutation, pos}
use Rattle.std.proofs.lemmas.List.{get_or_default}
use Rattle.std.proofs.lemmas.List.Elements.{Contains-get_or, All-from_get_or}
use Rattle.std.proofs.lemmas.List.Sorted.{Contains-permutation, IsPermutation-sym}
use Rattle.std.proofs.lemmas.Option.{slice_get-get_or, slice_get_within, get_or_from_slice_get}
use Rattle.street_graph.specs.declared.point.Point.{Point}
use Rattle.stop_match.specs.declared.cell.Cell.{Cell}
use Rattle.stop_match.specs.declared.order.Place.{Place}
use Rattle.stop_match.specs.Place.{IsPlace, AreAllPlaces, AreCellsOf, ArePointCells}

-- a `Vec` after a write to its whole slice
pub whole-slice : (n : ℕ) (ys rest : List Place) → length ys ≡ n → take n (ys ++ rest) ≡ ys
whole-slice n ys rest e = rw (sym e) (take-append_seam ys rest)

-- each vertex has a place, in any order
place-there : (places sorted : List Place) (many k : ℕ) (d : Place) → AreAllPlaces places many → IsPermutation places sorted → k < many
    → (p : ℕ) × (p < length sorted) × ((get_or sorted p d).number ≡ k + 1)
place-there places sorted many k d h perm lt =
    let within : k < length places = omega (arith, h.each) in
    let x = get_or places k d in
    let found = Contains-permutation places sorted x perm (Contains-get_or places k d within) in
    let same : get_or sorted found.0 d ≡ x = get_or_default sorted found.0 d x found.1 ∙ found.2 in
    (found.0, found.1, ap (λ (place : Place). place.number) same ∙ h.numbers k d lt)

-- each place is that of a vertex
place-real : (places sorted : List Place) (many p : ℕ) (d : Place) → AreAllPlaces places many → IsPermutation places sorted → p < length sorted
    → (k : ℕ) × (k < many) × ((get_or sorted p d).number ≡ k + 1)
place-real places sorted many p d h perm lt =
    let x = get_or sorted p d in
    let found = Contains-permutation sorted places x (IsPermutation-sym places sorted perm) (Contains-get_or sorted p d lt) in
    let within : found.0 < many = omega (arith, found.1, h.each) in
    (found.0, within, ap (λ (place : Place). place.number) (sym found.2) ∙ h.numbers found.0 x within)

pub all-places : (places sorted : List Place) (many : ℕ) → AreAllPlaces places many → IsPermutation places sorted → All (λ place. IsPlace place many) sorted
all-places places sorted many h perm =
    All-from_get_or (λ place. IsPlace place many) sorted (record { lat = pos 0; lon = pos 0; number = 0 }) (λ p lt.
    let f = place-real places sorted many p (record { lat = pos 0; lon = pos 0; number = 0 }) h perm lt in
    record { from_one = omega (arith, f.2); to_many = omega (arith, f.1, f.2) })

-- the cells in the order of the places
pub point-cells : (places sorted : List Place) (points : List Point) (cells : List Cell) → AreAllPlaces places (length points)
    → IsPermutation places sorted → AreCellsOf cells sorted points → ArePointCells cells points
point-cells places sorted points cells h perm of =
    let d : Place = record { lat = pos 0; lon = pos 0; number = 0 } in
    let none : Point = record { lat = pos 0; lon = pos 0 } in
    record {
      real = λ p c lt.
          let here : p < length sorted = omega (arith, of.each) in
          let f = place-real places sorted (length points) p d h perm here in
          let number : (get_or sorted p d).number - 1 ≡ f.0 = omega (arith, f.2) in
          (f.0, get_or points f.0 none, slice_get-get_or points f.0 none f.1, rw (number, f.2) at (of.stands p c d none here));
      there = λ k point c e.
          let lt : k < length points = slice_get_within points k point e in
          let f = place-there places sorted (length points) k d h perm lt in
          let number : (get_or sorted f.0 d).number - 1 ≡ k = omega (arith, f.2) in
          (f.0, omega (arith, of.each, f.1), rw (number, f.2, get_or_from_slice_get points k point none e) at (of.stands f.0 c d none f.1));
    }
