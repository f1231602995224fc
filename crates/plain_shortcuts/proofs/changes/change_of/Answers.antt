use Rattle.pareto_laws.proofs.Calls.{off_stands}
use Rattle.plain_shortcuts.proofs.ChangeLemmas.{no_first, no_second}
use Rattle.plain_shortcuts.proofs.changes.change_of.Goals as goal

pub caught-requires-in-Some-clause-exists : goal.caught-requires-in-Some-clause-exists
caught-requires-in-Some-clause-exists c = off_stands c.args.network.now c.requires.rules c.args.first.ride c.args.first.on c.args.first.off c.requires.first

pub returns-in-None-caught : goal.returns-in-None-caught
returns-in-None-caught c = λ d is from to. no_second c.args.network.now c.args.stop c.args.second d c.args.first c.args.next c.in-None-caught.ensures is from to

pub returns-in-None : goal.returns-in-None
returns-in-None c = λ d is from to. no_first c.args.network.now c.args.stop c.args.second d c.args.first c.in-None.ensures is from
