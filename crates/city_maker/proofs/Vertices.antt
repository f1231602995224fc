-- The stops stand at vertices, and the streets join vertices.
use Rattle.std.proofs.Common.{◌≡◌, ℕ, ◌+◌, ◌-◌, ◌*◌, ◌%◌, ◌<◌, ◌≤◌, ◌==◌, Bool, true, false, cond, List, [], ◌∷◌, arith}
use Rattle.std.specs.Prelude.{All, nat_lt}
use Rattle.std.specs.List.{range_with_len, enumerate_from}
use Rattle.std.proofs.Math.Nat.{mul-le-mul_right, mod-add-div'}
use Rattle.std.proofs.lemmas.Bool.Decides.{nat_tests}
use Rattle.std.proofs.lemmas.List.Elements.{All-nil, All-cons, All-append, All-map, All-weaker}
use Rattle.move_model.specs.declared.network.Arc.{Arc}
use Rattle.move_model.specs.declared.network.NodeNo.{NodeNo}
use Rattle.move_model.specs.declared.network.Stop.{Stop}
use Rattle.city_maker.specs.declared.line.Line.{Line}
use Rattle.city_maker.specs.Streets.{Street, node, vertex, row_of, column_of, street_right, street_below, streets_from, city_streets, walk_seconds, both_ways, city_arcs}
use Rattle.city_maker.specs.Lines.{Fits, stops_along, stop_node, stop_at, stops_of, city_stops}
use Rattle.city_maker.proofs.Lists.{All-flat_map, All-range, All-enumerate_from, All-one}

-- the streets join vertices up to a last one
record Joins (nodes : ℕ) (street : Street) : Type 0 where
  from_one : 1 ≤ street.from
  from_last : street.from ≤ nodes
  to_one : 1 ≤ street.to
  to_last : street.to ≤ nodes

below : (a b : ℕ) → nat_lt a b ≡ true → a < b
below a b e = grind (arith, nat_tests)

-- a row is below the side
row-below : (side v : ℕ) → 0 < side → 1 ≤ v → v ≤ side * side → row_of side v + 1 ≤ side
row-below side v some one last =
    let parts : (v - 1) % side + row_of side v * side ≡ v - 1 = mod-add-div' (v - 1) side in
    at_most (row_of side v) parts
  where
    at_most : (r : ℕ) → (v - 1) % side + r * side ≡ v - 1 → r + 1 ≤ side
    at_most r parts = grind (arith, parts)

right-last : (side v : ℕ) → 0 < side → 1 ≤ v → v ≤ side * side → column_of side v + 1 < side → v + 1 ≤ side * side
right-last side v some one last h =
    let row = row-below side v some one last in
    let parts : (v - 1) % side + row_of side v * side ≡ v - 1 = mod-add-div' (v - 1) side in
    let product : (row_of side v + 1) * side ≤ side * side = mul-le-mul_right side row in
    omega (arith, parts, product)

below-last : (side v : ℕ) → 0 < side → 1 ≤ v → v ≤ side * side → row_of side v + 1 < side → v + side ≤ side * side
below-last side v some one last h =
    let parts : (v - 1) % side + row_of side v * side ≡ v - 1 = mod-add-div' (v - 1) side in
    let row : row_of side v + 2 ≤ side = omega arith in
    let product : (row_of side v + 2) * side ≤ side * side = mul-le-mul_right side row in
    omega (arith, parts, product)

streets-join : (side : ℕ) → 0 < side → All (Joins (side * side)) (city_streets side)
streets-join side some = All-flat_map (Joins (side * side)) (streets_from side) (range_with_len 1 (side * side)) (All-range (λ v. All (Joins (side * side)) (streets_from side v)) 1 (side * side) from)
  where
    from : (v : ℕ) → 1 ≤ v → v < 1 + side * side → All (Joins (side * side)) (streets_from side v)
    from v one last =
        All-append (Joins (side * side)) (street_right side v) (street_below side v)
        (All-one (Joins (side * side)) (nat_lt (column_of side v + 1) side) (record { from = v; to = v + 1 })
        (λ e. let lt : column_of side v + 1 < side = below (column_of side v + 1) side e in
        let most : v + 1 ≤ side * side = right-last side v some one (omega arith) lt in
        record { from_one = one; from_last = omega arith; to_one = omega arith; to_last = most }))
        (All-one (Joins (side * side)) (nat_lt (row_of side v + 1) side) (record { from = v; to = v + side })
        (λ e. let lt : row_of side v + 1 < side = below (row_of side v + 1) side e in
        let most : v + side ≤ side * side = below-last side v some one (omega arith) lt in
        record { from_one = one; from_last = omega arith; to_one = omega arith; to_last = most }))

-- an arc of the city
abbrev pub IsCityArc : ℕ → Arc → Type 0
IsCityArc nodes arc = (1 ≤ arc.from.0) × (arc.from.0 ≤ nodes) × (1 ≤ arc.to.0) × (arc.to.0 ≤ nodes) × (arc.seconds ≤ 120)

pub arcs-join : (side number first : ℕ) → 0 < side → All (IsCityArc (side * side)) (city_arcs side number first)
arcs-join side number first some =
    All-flat_map (IsCityArc (side * side)) (both_ways number) (enumerate_from first (city_streets side))
    (All-weaker (λ (p : ℕ × Street). Joins (side * side) p.1) (λ (p : ℕ × Street). All (IsCityArc (side * side)) (both_ways number p)) both (enumerate_from first (city_streets side))
    (All-enumerate_from (Joins (side * side)) first (city_streets side) (streets-join side some)))
  where
    short : (k : ℕ) → walk_seconds number k ≤ 120
    short k = omega arith

    both : (p : ℕ × Street) → Joins (side * side) p.1 → All (IsCityArc (side * side)) (both_ways number p)
    both (k, street) join =
        let there : Arc = record { from = node street.from; to = node street.to; seconds = walk_seconds number k } in
        let back : Arc = record { from = node street.to; to = node street.from; seconds = walk_seconds number k } in
        All-cons (IsCityArc (side * side)) there (back ∷ []) (join.from_one, join.from_last, join.to_one, join.to_last, short k)
        (All-cons (IsCityArc (side * side)) back [] (join.to_one, join.to_last, join.from_one, join.from_last, short k) (All-nil (IsCityArc (side * side))))

-- a vertex of the city
abbrev pub IsCityVertex : ℕ → NodeNo → Type 0
IsCityVertex nodes v = (1 ≤ v.0) × (v.0 ≤ nodes)

vertex-within : (side i j : ℕ) → i < side → j < side → IsCityVertex (side * side) (vertex side i j)
vertex-within side i j row column =
    let product : (i + 1) * side ≤ side * side = mul-le-mul_right side (let h : i + 1 ≤ side = omega arith in h) in
    (omega arith, omega (arith, product))

stop-within : (side : ℕ) (line : Line) (i : ℕ) → Fits side line → i < stops_along side → IsCityVertex (side * side) (stop_node side line i)
stop-within side line i fits h = by (line.number % 2 == 0)
  where
    place : 4 * i < side
    place = omega arith

    by : (even : Bool) → IsCityVertex (side * side) (cond even (vertex side line.place (4 * i)) (vertex side (4 * i) line.place))
    by true = vertex-within side line.place (4 * i) fits.place place
    by false = vertex-within side (4 * i) line.place place fits.place

pub stops-stand : (side : ℕ) (lines : List Line) → All (Fits side) lines → All (λ (stop : Stop). IsCityVertex (side * side) stop.node) (city_stops side lines)
stops-stand side lines fit =
    All-flat_map (λ (stop : Stop). IsCityVertex (side * side) stop.node) (stops_of side) lines
    (All-weaker (Fits side) (λ (line : Line). All (λ (stop : Stop). IsCityVertex (side * side) stop.node) (stops_of side line)) of lines fit)
  where
    of : (line : Line) → Fits side line → All (λ (stop : Stop). IsCityVertex (side * side) stop.node) (stops_of side line)
    of line fits =
        All-map (λ (stop : Stop). IsCityVertex (side * side) stop.node) (stop_at side line) (range_with_len 0 (stops_along side))
        (All-range (λ i. IsCityVertex (side * side) (stop_node side line i)) 0 (stops_along side) (λ i low high. stop-within side line i fits (omega arith)))
