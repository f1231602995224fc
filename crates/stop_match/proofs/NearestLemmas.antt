-- The least key is that of the nearest vertex.
use Rattle.std.proofs.Common.{◌≡◌, ◌∙◌, ◌+◌, ◌-◌, ◌<◌, ◌⊎◌, ℕ, List, length, sym, ap, inl, inr, arith}
use Rattle.move_model.specs.declared.network.NodeNo.{NodeNo}
use Rattle.street_graph.specs.declared.point.Point.{Point}
use Rattle.stop_match.specs.declared.cell.Cell.{Cell}
use Rattle.stop_match.specs.declared.target.Key.{Key}
use Rattle.stop_match.specs.declared.target.Target.{Target}
use Rattle.stop_match.specs.Nearest.{square_distance, HasPoint, IsNearest}
use Rattle.stop_match.specs.Cell.{no_cell, cell_at, cells, cell, AreLevels, key_of, IsNoLater}
use Rattle.stop_match.specs.Levels.{AreLevelsOf}
use Rattle.stop_match.proofs.KeyLemmas.{key-point, IsNoLater-le, IsNoLater-lt}
use Rattle.stop_match.proofs.LevelLemmas.{cell_at-lt}

-- the grids of points are grids
pub are-levels : (levels : List (List Cell)) (points : List Point) → AreLevelsOf levels points → AreLevels levels
are-levels levels points h =
    record {
      points = λ p d lt.
          let f = h.rising.finest.real p d lt in
          record {
            lat = ap (λ (c : Cell). c.lat_low) f.3 ∙ sym (ap (λ (c : Cell). c.lat_high) f.3);
            lon = ap (λ (c : Cell). c.lon_low) f.3 ∙ sym (ap (λ (c : Cell). c.lon_high) f.3);
          };
      parents = h.rising.parents;
    }

-- each point is below the one cell of the coarsest grid
top : (levels : List (List Cell)) (points : List Point) (p : ℕ) → AreLevelsOf levels points → p < length (cells levels 0)
    → cell_at (length levels - 1) p ≡ 0
top levels points p h lt =
    omega (arith, cell_at-lt levels p (are-levels levels points h) lt (length levels - 1) (omega (arith, h.some)), h.coarsest)

-- a key that no point's key comes before
pub nearest_from : (levels : List (List Cell)) (points : List Point) (t : Target) (best : Key) → AreLevelsOf levels points
    → (p : ℕ) × (p < length (cells levels 0)) × (best ≡ key_of t (cell levels 0 p))
    → ((p : ℕ) → p < length (cells levels 0) → cell_at (length levels - 1) p ≡ 0 → IsNoLater best (key_of t (cell levels 0 p)))
    → IsNearest points t.lat t.lon t.scale (record { 0 = best.number })
nearest_from levels points t best h real done =
    let f = h.rising.finest.real real.0 no_cell real.1 in
    let key : best ≡ record { square = square_distance t.lat t.lon t.scale f.1; number = f.0 + 1 } = real.2 ∙ ap (key_of t) f.3 ∙ key-point t f.1 (f.0 + 1) in
    let square : best.square ≡ square_distance t.lat t.lon t.scale f.1 = ap (λ (k : Key). k.square) key in
    let number : best.number ≡ f.0 + 1 = ap (λ (k : Key). k.number) key in
    let place : best.number - 1 ≡ f.0 = omega arith in
    let no_later : (w : NodeNo) (other : Point) → HasPoint points w other
    → IsNoLater best (record { square = square_distance t.lat t.lon t.scale other; number = w.0 }) =
    λ w other there.
    let g = h.rising.finest.there (w.0 - 1) other no_cell there.1 in
    let same : w.0 - 1 + 1 ≡ w.0 = omega (arith, there.0) in
    let here = done g.0 g.1 (top levels points g.0 h g.1) in
    rw (g.2, same, key-point t other w.0) at here in
    record {
      point = f.1;
      stands = (omega arith, rw place f.2);
      nearest = λ w other there. rw square at (IsNoLater-le best (record { square = square_distance t.lat t.lon t.scale other; number = w.0 }) (no_later w other there));
      first = λ w other there less. rw square at (IsNoLater-lt best (record { square = square_distance t.lat t.lon t.scale other; number = w.0 }) (no_later w other there) less);
    }

-- the key of a point, from that of a guess
pub real_from : (levels : List (List Cell)) (t : Target) (guess best : Key)
    → ((p : ℕ) × (p < length (cells levels 0)) × (guess ≡ key_of t (cell levels 0 p)))
    → ((best ≡ guess) ⊎ ((p : ℕ) × (p < length (cells levels 0)) × (best ≡ key_of t (cell levels 0 p))))
    → (p : ℕ) × (p < length (cells levels 0)) × (best ≡ key_of t (cell levels 0 p))
real_from levels t guess best g (inl e) = (g.0, g.1, e ∙ g.2)
real_from levels t guess best g (inr found) = found
