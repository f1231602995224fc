use Rattle.std.proofs.Common.{ℕ, ◌≡◌, ◌<◌, ◌⊎◌, length, slice_index_or, sym, ◌∙◌, subst, arith}
use Rattle.std.specs.Prelude.{◌↔◌, All, Contains}
use Rattle.std.proofs.lemmas.Option.{slice_get-get_or}
use Rattle.stop_rows.specs.Rows.{Rows}
use Rattle.start_seconds.specs.declared.start.Start.{Start}
use Rattle.shortcut_build.specs.Collected.{HasNeeded}
use Rattle.shortcut_build.proofs.Starts.{no_start, needed_more, needed_same, after_step}
use Rattle.shortcut_build.proofs.collect.collect.Goals as goal

pub set_out-requires-clause-places : goal.set_out-requires-clause-places
set_out-requires-clause-places c = subst (λ (r : Rows). All (λ start. start.place < length r.nodes) c.args.starts.now) (sym c.loop-k.invariant.rows) c.requires.places

pub step-requires : goal.step-requires
step-requires c = (c.set_out.ensures.ready (slice_index_or c.args.starts.now c.loop-k.k no_start) (slice_get-get_or c.args.starts.now c.loop-k.k no_start c.loop-k-test.true)).1

pub loop-k-preserved : goal.loop-k-preserved
loop-k-preserved c =
    let was = c.loop-k.invariant in
    let starts = c.args.starts.now in
    let k = c.loop-k.k in
    let start : Start = slice_index_or starts k no_start in
    let there = slice_get-get_or starts k no_start c.loop-k-test.true in
    let ready = c.set_out.ensures.ready start there in
    let network = c.set_out.ensures.network ∙ was.network in
    let rows = c.set_out.ensures.rows ∙ was.rows in
    record {
      network = c.in_ok-step.ensures.network ∙ network;
      rows = c.in_ok-step.ensures.rows ∙ rows;
      after = after_step starts k start c.step.new.self.place c.step.new.self.below there (c.in_ok-step.ensures.place ∙ ready.0) c.in_ok-step.ensures.below;
      pairs = λ x y. needed_more _ _ starts k start x y _ _ _ there (was.pairs x y) (needed_same _ _ _ _ _ _ start.second x y _ _ network rows ready.0 (c.in_ok-step.ensures.ok x y));
    }

pub returns : goal.returns
returns c = λ x y.
    let all : c.loop-k.k ≡ length c.args.starts.now = omega (arith, c.loop-k.auto.k-end, c.loop-k-test.false) in
    subst (λ (k : ℕ). Contains c.loop-k.needed (x, y) ↔ (Contains c.args.needed.now (x, y) ⊎ HasNeeded c.args.search.now.network c.args.search.now.rows c.args.starts.now k x y)) all
    (c.loop-k.invariant.pairs x y)
