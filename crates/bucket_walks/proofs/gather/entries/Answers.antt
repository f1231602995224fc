use Rattle.std.proofs.Common.{◌∙◌, length, sym, subst}
use Rattle.bucket_walks.specs.Buckets.{AreBuckets}
use Rattle.bucket_walks.specs.Gathered.{AreEntries}
use Rattle.bucket_walks.proofs.EntryLemmas.{entries_moved, rules_of}
use Rattle.bucket_walks.proofs.gather.entries.Goals as goal

pub returns-clause-entries : goal.returns-clause-entries
returns-clause-entries g c =
    let h = c.args.hierarchy.now in
    subst (AreEntries c.args.side h c.args.stops.now) (sym (c.from_vec.ensures ∙ c.shrink_to_fit.ensures.items))
    (entries_moved c.args.side h c.args.stops.now c.in_ok-list.list.items c.sort_entries.new.list.items c.sort_entries.ensures.same c.in_ok-list.ensures.entries)

pub returns-clause-rules : goal.returns-clause-rules
returns-clause-rules g c =
    let h = c.args.hierarchy.now in
    subst (AreBuckets (length h.ranks) (length c.args.stops.now)) (sym (c.from_vec.ensures ∙ c.shrink_to_fit.ensures.items))
    (rules_of c.args.side h c.args.stops.now c.nodes.ensures.rules c.requires.stand c.requires.few c.in_ok-list.list.items c.sort_entries.new.list.items c.sort_entries.ensures.same
    c.in_ok-list.ensures.entries c.in_ok-list.ensures.apart c.sort_entries.ensures.rise)
