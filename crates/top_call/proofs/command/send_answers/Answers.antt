use Rattle.std.proofs.Common.{subst}
use Rattle.move_model.specs.declared.network.Network.{Network}
use Rattle.top_call.specs.Answered.{SearchesFor, OpensFor}
use Rattle.top_call.specs.Status.{IsThisInput}
use Rattle.top_call.proofs.command.send_answers.Goals as goal

pub returns-in-Ok-clause-searches : goal.returns-in-Ok-clause-searches
returns-in-Ok-clause-searches g c =
    subst (λ (n : Network). SearchesFor (IsThisInput n c.args.queries.now) c.args.searches.now c.send_compiled.new.searches) c.in-Ok.ensures.network c.send_compiled.ensures.searches

pub returns-in-Ok-clause-opens : goal.returns-in-Ok-clause-opens
returns-in-Ok-clause-opens g c =
    subst (λ (n : Network). OpensFor (IsThisInput n c.args.queries.now) c.args.opens.now c.send_compiled.new.opens) c.in-Ok.ensures.network c.send_compiled.ensures.opens
