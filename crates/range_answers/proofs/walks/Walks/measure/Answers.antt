use Rattle.network_answers.proofs.AskLaws.{vertex_node, first_bounded, last_bounded, foot_bounded}
use Rattle.range_answers.proofs.walks.Walks.measure.Goals as goal

pub returns-clause-foot_seconds : goal.returns-clause-foot_seconds
returns-clause-foot_seconds g c =
    foot_bounded c.args.compiled.now c.requires.fits c.args.from c.args.to _
    (vertex_node c.args.compiled.now c.requires.fits c.args.from c.requires.from)
    (vertex_node c.args.compiled.now c.requires.fits c.args.to c.requires.to) c.distance-self.ensures.least

pub returns-clause-first_seconds : goal.returns-clause-first_seconds
returns-clause-first_seconds g c =
    first_bounded c.args.compiled.now c.requires.fits c.args.from _
    (vertex_node c.args.compiled.now c.requires.fits c.args.from c.requires.from) c.first_walks.ensures.sums

pub returns-clause-last_seconds : goal.returns-clause-last_seconds
returns-clause-last_seconds g c =
    last_bounded c.args.compiled.now c.requires.fits c.args.to _
    (vertex_node c.args.compiled.now c.requires.fits c.args.to c.requires.to) c.last_walks.ensures.sums
