use Rattle.std.proofs.Common.{◌≡◌, ◌<◌, ℕ, List, [], Vec, Global, length, map, slice_index_or, sym, ap, ◌∙◌, subst, inl, inr, arith}
use Rattle.std.proofs.lemmas.Bool.{cases_eq}
use Rattle.std.proofs.lemmas.List.{length_push, get_or_default}
use Rattle.std.proofs.lemmas.List.Elements.{All-push}
use Rattle.std.proofs.lemmas.Option.{slice_get_within, get_or_from_slice_get}
use Rattle.move_model.specs.declared.network.NodeNo.{NodeNo}
use Rattle.stop_rows.specs.Rows.{HoldsRow}
use Rattle.stop_rows.proofs.ListLemmas.{map_push_old, map_push_last}
use Rattle.stop_rows.proofs.rows.all_rows.Goals as goal

pub loop-node-preserved : goal.loop-node-preserved
loop-node-preserved c =
    let rows = c.loop-node.rows.items in
    let row = c.in_ok-row.row in
    let nodes = c.args.nodes.now in
    let i = c.loop-node.node-index in
    let f = λ (row : Vec ℕ Global). row.items in
    let inv = c.loop-node.invariant in
    rw (c.push_reserved.ensures.items, c.push_reserved.ensures.capacity)
    (record {
      many = omega (arith, length_push rows row, inv.many);
      wide = All-push (λ (r : Vec ℕ Global). length r.items ≡ length c.args.nodes.now) rows row inv.wide c.in_ok-row.ensures.many;
      none = c.in_ok-row.ensures.none;
      fits = c.in_ok-row.ensures.fits ∙ inv.fits;
      work = c.in_ok-row.ensures.work ∙ inv.work;
      room = inv.room;
      rows = λ graph is p d lt. elim (cases_eq p c.loop-node.node-index) [
        | inl e ↦
            let none : NodeNo = record { 0 = 0 } in
            let at : slice_index_or c.args.nodes.now c.loop-node.node-index none ≡ slice_index_or c.args.nodes.now p d =
            get_or_default nodes i none d c.loop-node-test.true ∙ ap (λ (k : ℕ). slice_index_or c.args.nodes.now k d) (sym e) in
            subst (λ (r : List ℕ). HoldsRow graph (slice_index_or c.args.nodes.now p d) c.args.nodes.now r) (sym (map_push_last f rows row [] p (e ∙ sym inv.many)))
            (subst (λ (v : NodeNo). HoldsRow graph v c.args.nodes.now c.in_ok-row.row.items) at (c.in_ok-row.ensures.row graph is))
        | inr ne ↦
            let low : p < c.loop-node.node-index = omega (arith, lt, ne) in
            subst (λ (r : List ℕ). HoldsRow graph (slice_index_or c.args.nodes.now p d) c.args.nodes.now r) (sym (map_push_old f rows row [] p (omega (arith, low, inv.many))))
            (inv.rows graph is p d low)
      ];
    })

pub returns-clause-rows : goal.returns-clause-rows
returns-clause-rows c = λ graph is p a there.
    let nodes = c.args.nodes.now in
    let low : p < c.loop-node.node-index = omega (arith, slice_get_within nodes p a there, c.loop-node-test.false) in
    subst (λ (v : NodeNo). HoldsRow graph v c.args.nodes.now (slice_index_or (map (λ (row : Vec ℕ Global). row.items) c.loop-node.rows.items) p [])) (get_or_from_slice_get nodes p a a there)
    (c.loop-node.invariant.rows graph is p a low)
