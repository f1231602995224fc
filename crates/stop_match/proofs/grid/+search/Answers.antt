use Rattle.std.proofs.Common.{◌≡◌, ◌∙◌, ◌-◌, ◌<◌, List, length, get_or, sym, ap, arith}
use Rattle.std.proofs.lemmas.Bool.{false≢true}
use Rattle.stop_match.specs.declared.cell.Cell.{Cell}
use Rattle.stop_match.specs.Cell.{key_of, cell, cells, no_cell}
use Rattle.stop_match.proofs.KeyLemmas.{IsNoLater-trans}
use Rattle.stop_match.proofs.LevelLemmas.{passed, cell_at-pred, cell_at-lt, cells-read, IsStep, step-passed, step-done, step-real}
use Rattle.stop_match.proofs.grid.+search.Goals as goal
use Rattle.stop_match.proofs.grid.+search.Goals.{then-is_before, else-is_before}

pub returns-then-not-is_before-clause-done : goal.returns-then-not-is_before-clause-done
returns-then-not-is_before-clause-done t c =
    let levels = c.args.levels.now in
    let target = c.args.target.now in
    let e = cells-read levels c.args.depth c.index-levels-depth.result c.requires.depth c.index-levels-depth.is in
    let key : c.key-key.result ≡ key_of target (cell levels c.args.depth c.args.index) =
    c.key-key.ensures ∙ ap (λ (cs : List Cell). key_of target (get_or cs c.args.index no_cell)) (c.as_slice.ensures ∙ e) in
    λ p lt at. passed levels target c.args.best c.args.depth c.args.index p c.requires.levels c.requires.depth lt at (λ before.
    false≢true (sym c.if-not-is_before.true ∙ c.is_before.ensures.1 (rw key before)))

pub loop-child-preserved : goal.loop-child-preserved
loop-child-preserved t c =
    let levels = c.args.levels.now in
    let target = c.args.target.now in
    let child = c.loop-child.child in
    let deep : c.args.depth - 1 < length levels = omega (arith, c.requires.depth) in
    let e = cells-read levels (c.args.depth - 1) c.index-levels-depth-2.result deep c.index-levels-depth-2.is in
    let key : c.key.result ≡ key_of target (cell levels (c.args.depth - 1) child) =
    c.key.ensures ∙ ap (λ (cs : List Cell). key_of target (get_or cs child no_cell)) (c.as_slice-fine.ensures ∙ e) in
    let step : IsStep levels target (c.args.depth - 1) child c.loop-child.least c.if-is_before.least =
    elim c.if-is_before.branch [
      | then-is_before w ↦ rw w.least-is (record { keeps = w.search-least.ensures.keeps; done = w.search-least.ensures.done; real = w.search-least.ensures.real })
      | else-is_before w ↦
          rw w.least-is
          (step-passed levels target c.loop-child.least (c.args.depth - 1) child c.requires.levels deep
          (λ before. false≢true (sym w.if-is_before.false ∙ c.is_before-in-loop-child.ensures.1 (rw key before))))
    ] in
    let v = c.loop-child.invariant in
    record {
      keeps = IsNoLater-trans c.if-is_before.least c.loop-child.least c.args.best step.keeps v.keeps;
      done = λ p lt at less. step-done levels target (c.args.depth - 1) child c.loop-child.least c.if-is_before.least p step lt less (λ before. v.done p lt at before);
      real = step-real levels target (c.args.depth - 1) child c.args.best c.loop-child.least c.if-is_before.least step v.real;
    }

pub returns-clause-done : goal.returns-clause-done
returns-clause-done t c = λ p lt at.
    let levels = c.args.levels.now in
    let some : 0 < c.args.depth = omega arith in
    let deep : c.args.depth - 1 < length levels = omega (arith, c.requires.depth) in
    let up = cell_at-pred c.args.depth p some in
    let within = cell_at-lt levels p c.requires.levels lt (c.args.depth - 1) deep in
    let e = cells-read levels (c.args.depth - 1) c.index-levels-depth-2.result deep c.index-levels-depth-2.is in
    let many : length c.as_slice-fine.result.now ≡ length (cells levels (c.args.depth - 1)) = ap (length {A = Cell}) (c.as_slice-fine.ensures ∙ e) in
    c.loop-child.invariant.done p lt at (omega (arith, c.min-end.ensures))
