-- The lines of a summary.
--     line_of word number        the word, a space, the number and LF
--     summary_text totals        a line for each number, in their order
use Rattle.std.specs.Prelude.{ℕ, List, [], ◌∷◌, ◌++◌, codes, decimal}
use Rattle.city_summary.specs.declared.totals.Totals.{Totals}

abbrev pub line_of : List ℕ → ℕ → List ℕ
line_of word number = word ++ 32 ∷ decimal number ++ 10 ∷ []

unfoldable pub summary_text : Totals → List ℕ
summary_text totals =
    line_of (codes "vertices") totals.vertices
    ++ line_of (codes "arcs") totals.arcs
    ++ line_of (codes "stops") totals.stops
    ++ line_of (codes "trips") totals.trips
    ++ line_of (codes "shortcuts") totals.shortcuts
    ++ line_of (codes "queries") totals.queries
    ++ line_of (codes "pairs") totals.pairs
    ++ line_of (codes "spans") totals.spans
    ++ line_of (codes "arrivals") totals.arrivals
