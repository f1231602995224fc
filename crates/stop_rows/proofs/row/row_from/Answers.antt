use Rattle.std.proofs.Common.{◌≡◌, ◌<◌, ℕ, List, Option, Some, length, slice_set, sym, subst, ap, ◌∙◌, arith}
use Rattle.std.proofs.lemmas.Option.{slice_get_within, get_or_from_slice_get}
use Rattle.move_model.specs.declared.network.NodeNo.{NodeNo}
use Rattle.walk_core.specs.Core.{Holds}
use Rattle.core_search.specs.declared.label.Label.{Label}
use Rattle.core_search.specs.Label.{label_at}
use Rattle.core_search.specs.Spread.{HasLeastLabel, IsApart}
use Rattle.stop_rows.specs.Rows.{IsEntry}
use Rattle.stop_rows.specs.Row.{start, entry_of}
use Rattle.stop_rows.proofs.RowLemmas.{entry_is}
use Rattle.stop_rows.proofs.row.row_from.Goals as goal

pub returns-clause-row : goal.returns-clause-row
returns-clause-row c = λ graph is q b there.
    let nodes = c.args.nodes.now in
    let low = slice_get_within nodes q b there in
    let at = get_or_from_slice_get nodes q b b there in
    let holds : Holds c.args.core.now b = subst (λ (v : NodeNo). Holds c.args.core.now v) at (c.requires.held q b low) in
    let first : c.set.new.self ≡ slice_set c.args.labels.now c.args.from.0 (Some start) =
    c.set.ensures ∙ ap (λ (x : Label). slice_set c.args.labels.now c.args.from.0 (Some x)) c.first.ensures in
    let least = subst (λ (old : List (Option Label)). HasLeastLabel (IsApart graph) old b.0 (label_at c.spread.new.labels b.0)) first (c.spread.ensures.over_graph graph is b.0 holds) in
    let inside : c.args.from.0 < length c.args.labels.now = omega (arith, c.requires.from.to_nodes, c.requires.fits) in
    let entry = entry_is graph c.args.labels.now c.args.from b c.requires.none inside (label_at c.spread.new.labels b.0) least in
    let same = c.loop-node.invariant.each q b (omega (arith, low, c.loop-node-test.false)) ∙ ap (λ (v : NodeNo). entry_of (label_at c.spread.new.labels v.0)) at in
    subst (λ (m : ℕ). IsEntry graph c.args.from b m) (sym same) entry
