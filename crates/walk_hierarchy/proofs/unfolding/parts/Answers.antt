use Rattle.walk_hierarchy.proofs.UnfoldLaws.{added_of, parts_total}
use Rattle.walk_hierarchy.proofs.unfolding.parts.Goals as goal

pub arc_down-requires : goal.arc_down-requires
arc_down-requires c =
    let added = added_of c.args.hierarchy.now c.requires.rules c.args.arc c.requires.arc c.requires.added in
    (added.l, added.first)

pub arc_up-requires : goal.arc_up-requires
arc_up-requires c =
    let added = added_of c.args.hierarchy.now c.requires.rules c.args.arc c.requires.arc c.requires.added in
    (added.k, added.second)

pub returns-clause-total : goal.returns-clause-total
returns-clause-total c =
    let added = added_of c.args.hierarchy.now c.requires.rules c.args.arc c.requires.arc c.requires.added in
    parts_total c.args.hierarchy.now c.requires.rules c.args.arc c.arc_down.result c.arc_up.result added c.arc_down.ensures.stands c.arc_up.ensures.stands
    c.arc_down.ensures.from c.arc_down.ensures.to c.arc_up.ensures.from c.arc_up.ensures.to
