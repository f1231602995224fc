use Rattle.std.proofs.Common.{sym, subst}
use Rattle.raptor_rounds.specs.Answers.{HasSeconds}
use Rattle.network_answers.proofs.AskLaws.{vertex_node, first_bounded, last_bounded, foot_bounded}
use Rattle.network_answers.proofs.asked.Asked.ask.Goals as goal

pub ride-requires-clause-first : goal.ride-requires-clause-first
ride-requires-clause-first g c =
    first_bounded c.args.compiled.now c.requires.fits c.args.from c.walk.new.self.first
    (vertex_node c.args.compiled.now c.requires.fits c.args.from c.requires.from) c.walk.ensures.first

pub ride-requires-clause-last : goal.ride-requires-clause-last
ride-requires-clause-last g c =
    last_bounded c.args.compiled.now c.requires.fits c.args.to c.walk.new.self.last
    (vertex_node c.args.compiled.now c.requires.fits c.args.to c.requires.to) c.walk.ensures.last

pub returns-clause-foot : goal.returns-clause-foot
returns-clause-foot g c =
    subst HasSeconds (sym c.ride.ensures.foot)
    (foot_bounded c.args.compiled.now c.requires.fits c.args.from c.args.to c.walk.new.self.foot
    (vertex_node c.args.compiled.now c.requires.fits c.args.from c.requires.from)
    (vertex_node c.args.compiled.now c.requires.fits c.args.to c.requires.to) c.walk.ensures.foot)
