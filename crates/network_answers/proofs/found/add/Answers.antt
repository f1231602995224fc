use Rattle.network_answers.specs.Found.{IsFinding}
use Rattle.network_answers.specs.Found.Adds.{one}
use Rattle.network_answers.proofs.found.add.Goals as goal

pub returns-in_ok-push-clause-adds : goal.returns-in_ok-push-clause-adds
returns-in_ok-push-clause-adds g c =
    let is : IsFinding c.args.compiled.now c.args.from c.args.depart c.args.rides.now c.args.to c.args.pair c.in-Some.finding =
    rw c.in-Some.is at c.in_ok-made.ensures.made in
    one is c.in_ok-push.ensures.ok
