-- Grids, one after another.
use Rattle.std.proofs.Common.{◌≡◌, ◌+◌, ◌-◌, ◌<◌, ◌≤◌, List, [], ◌∷◌, ◌++◌, length, get_or, inl, inr, arith, pos}
use Rattle.std.proofs.lemmas.Bool.{cases_lt}
use Rattle.std.proofs.lemmas.List.{get_or_append_left, get_or_push, length_push}
use Rattle.std.proofs.lemmas.Option.{slice_get-get_or}
use Rattle.street_graph.specs.declared.point.Point.{Point}
use Rattle.stop_match.specs.declared.cell.Cell.{Cell}
use Rattle.stop_match.specs.Cell.{AreParents, no_cell}
use Rattle.stop_match.specs.Place.{ArePointCells}
use Rattle.stop_match.specs.Levels.{AreRising, AreLevelsOf}

-- there is a cell where there is a point
pub point-cells-some : (finest : List Cell) (points : List Point) → ArePointCells finest points → 0 < length points → 0 < length finest
point-cells-some finest points h some =
    let none : Point = record { lat = pos 0; lon = pos 0 } in
    let f = h.there 0 (get_or points 0 none) no_cell (slice_get-get_or points 0 none some) in
    omega (arith, f.1)

-- the finest grid alone
pub rising-one : (finest : List Cell) (points : List Point) → ArePointCells finest points → AreRising (finest ∷ []) points
rising-one finest points h = record { finest = h; parents = λ d lt. absurd (omega arith) }

-- one more grid behind the last one
pub rising-more : (levels : List (List Cell)) (last next : List Cell) (points : List Point) → AreRising (levels ++ last ∷ []) points
    → AreParents last next → AreRising ((levels ++ last ∷ []) ++ next ∷ []) points
rising-more levels last next points h up =
    let all : List (List Cell) = levels ++ last ∷ [] in
    let many : length all ≡ length levels + 1 = length_push levels last in
    let some : 0 < length all = omega arith in
    record {
      finest = rw (get_or_append_left all (next ∷ []) [] 0 some) h.finest;
      parents = λ d lt.
          let more = length_push all next in
          elim (cases_lt (d + 1) (length all)) [
            | inl before ↦
                let here : d < length all = omega arith in
                rw (get_or_append_left all (next ∷ []) [] d here, get_or_append_left all (next ∷ []) [] (d + 1) before) (h.parents d before)
            | inr end ↦
                let here : d < length all = omega arith in
                let place : length levels ≡ d = omega arith in
                let behind : length all ≡ d + 1 = omega arith in
                rw (get_or_append_left all (next ∷ []) [] d here, get_or_push levels last [] d place, get_or_push all next [] (d + 1) behind) up
          ];
    }

-- the grids are whole once the last one has one cell
pub levels-whole : (levels : List (List Cell)) (last : List Cell) (points : List Point) → AreRising (levels ++ last ∷ []) points
    → 0 < length last → length last ≤ 1 → AreLevelsOf (levels ++ last ∷ []) points
levels-whole levels last points h some one =
    let many : length (levels ++ last ∷ []) ≡ length levels + 1 = length_push levels last in
    let place : length levels ≡ length (levels ++ last ∷ []) - 1 = omega arith in
    record {
      some = omega arith;
      rising = h;
      coarsest = rw (get_or_push levels last [] (length (levels ++ last ∷ []) - 1) place) (omega arith);
    }
