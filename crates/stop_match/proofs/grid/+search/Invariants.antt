-- The key so far is the least of that at the start and those below the children so far.
use Rattle.std.proofs.Common.{◌≡◌, ◌-◌, ◌<◌, ◌⊎◌, ℕ, length}
use Rattle.stop_match.specs.Cell.{IsNoLater, cell, cells, cell_at, key_of}
use Rattle.stop_match.proofs.grid.+search.Given as goal

abbrev pub decreases-search : goal.decreases-search
decreases-search l = l.depth

abbrev pub invariant-loop-child : goal.invariant-loop-child
invariant-loop-child l = record {
  keeps : IsNoLater l.least l.fn.best;
  done : (p : ℕ) → p < length (cells l.levels 0) → cell_at l.depth p ≡ l.index → cell_at (l.depth - 1) p < l.child
      → IsNoLater l.least (key_of l.target (cell l.levels 0 p));
  real : (l.least ≡ l.fn.best) ⊎ ((p : ℕ) × (p < length (cells l.levels 0)) × (l.least ≡ key_of l.target (cell l.levels 0 p)));
}
