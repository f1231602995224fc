use Rattle.walk_hierarchy.proofs.UnfoldLaws.{unfolding_first}
use Rattle.walk_hierarchy.proofs.unfolding.walk_by.Goals as goal

pub returns : goal.returns
returns c = λ graph x y over there back.
    let start = unfolding_first graph c.args.hierarchy.now over c.args.a c.args.top x.seconds c.climb.new.stack.items c.in_ok-way.way c.requires.a c.in_ok-way.ensures.places c.in_ok-way.ensures.since (c.in_ok-climb.ensures.stacked x there) in
    c.in_ok-fall.ensures.walks graph c.args.a x.seconds y over back (c.in_ok-unfold.ensures.walks graph c.args.a c.args.top x.seconds over start)
