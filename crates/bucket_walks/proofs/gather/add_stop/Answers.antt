use Rattle.std.proofs.Common.{List, length, sym, subst, ◌∙◌, inl, inr, arith}
use Rattle.walk_hierarchy.specs.declared.settled.Settled.{Settled}
use Rattle.walk_hierarchy.specs.Hierarchy.{AreSettled}
use Rattle.bucket_walks.specs.Gathered.{sums, AreMarked}
use Rattle.bucket_walks.proofs.KeptLemmas.{one_each, settled_low, settled_next, marks_few, entry_kept, kept_entry, over_low, bypasses_short}
use Rattle.bucket_walks.proofs.gather.add_stop.Goals as goal

pub mark-requires-clause-exist : goal.mark-requires-clause-exist
mark-requires-clause-exist g c =
    let h = c.args.hierarchy.now in
    let are : AreSettled (sums c.args.side h c.args.node.0) c.settled.result.now =
    subst (AreSettled (sums c.args.side h c.args.node.0)) (sym c.settled.ensures) c.search.ensures.settled in
    settled_low c.args.side h c.nodes.ensures.rules c.args.node.0 c.requires.exists c.settled.result.now are (length c.args.marks.now) (omega (arith, c.requires.places))

pub mark-requires-clause-one_each : goal.mark-requires-clause-one_each
mark-requires-clause-one_each g c =
    let h = c.args.hierarchy.now in
    let are : AreSettled (sums c.args.side h c.args.node.0) c.settled.result.now =
    subst (AreSettled (sums c.args.side h c.args.node.0)) (sym c.settled.ensures) c.search.ensures.settled in
    one_each (sums c.args.side h c.args.node.0) c.settled.result.now are

pub add_entries-requires-clause-exist : goal.add_entries-requires-clause-exist
add_entries-requires-clause-exist g c =
    let h = c.args.hierarchy.now in
    let are : AreSettled (sums c.args.side h c.args.node.0) c.settled-2.result.now =
    subst (AreSettled (sums c.args.side h c.args.node.0)) (sym c.settled-2.ensures) c.search.ensures.settled in
    settled_next c.args.side h c.nodes.ensures.rules c.args.node.0 c.requires.exists c.settled-2.result.now are (length c.args.bypasses.now.starts.items) c.requires.bypasses.starts

pub add_entries-requires-clause-over : goal.add_entries-requires-clause-over
add_entries-requires-clause-over g c =
    over_low c.args.side c.args.hierarchy.now c.nodes.ensures.rules c.args.bypasses.now c.requires.bypasses (length c.mark.new.marks) (omega (arith, c.requires.places, c.mark.auto.marks))

pub add_entries-requires-clause-short : goal.add_entries-requires-clause-short
add_entries-requires-clause-short g c = bypasses_short c.args.side c.args.hierarchy.now c.nodes.ensures.rules c.args.bypasses.now c.requires.bypasses

pub add_entries-requires-clause-few : goal.add_entries-requires-clause-few
add_entries-requires-clause-few g c =
    let h = c.args.hierarchy.now in
    let are : AreSettled (sums c.args.side h c.args.node.0) c.settled.result.now =
    subst (AreSettled (sums c.args.side h c.args.node.0)) (sym c.settled.ensures) c.search.ensures.settled in
    marks_few c.args.side h c.nodes.ensures.rules c.args.node.0 c.requires.exists c.settled.result.now are c.mark.new.marks c.mark.ensures

pub unmark-requires-clause-exist : goal.unmark-requires-clause-exist
unmark-requires-clause-exist g c =
    let h = c.args.hierarchy.now in
    let are : AreSettled (sums c.args.side h c.args.node.0) c.settled-3.result.now =
    subst (AreSettled (sums c.args.side h c.args.node.0)) (sym c.settled-3.ensures) c.search.ensures.settled in
    settled_low c.args.side h c.nodes.ensures.rules c.args.node.0 c.requires.exists c.settled-3.result.now are (length c.mark.new.marks) (omega (arith, c.requires.places, c.mark.auto.marks))

pub returns-clause-entries : goal.returns-clause-entries
returns-clause-entries g c entry =
    let h = c.args.hierarchy.now in
    let all = c.args.bypasses.now in
    let are : AreSettled (sums c.args.side h c.args.node.0) c.settled-2.result.now =
    subst (AreSettled (sums c.args.side h c.args.node.0)) (sym c.settled-2.ensures) c.search.ensures.settled in
    let e = c.in_ok-add_entries.ensures.entries entry in
    let marks = c.mark.new.marks in
    let marked : AreMarked c.settled-2.result.now marks = subst (λ (settled : List Settled). AreMarked settled marks) (c.settled.ensures ∙ sym c.settled-2.ensures) c.mark.ensures in (
      λ has. elim (e.0 has) [
        | inl was ↦ inl was
        | inr kept ↦ inr (entry_kept c.args.side h c.nodes.ensures.rules c.args.node.0 c.requires.exists c.settled-2.result.now are marks marked all c.requires.bypasses c.args.stop entry kept)
      ],
      λ either. e.1 (elim either [
        | inl was ↦ inl was
        | inr of ↦ inr (kept_entry c.args.side h c.nodes.ensures.rules c.args.node.0 c.requires.exists c.settled-2.result.now are marks marked all c.requires.bypasses c.args.stop entry of)
      ]),
    )
