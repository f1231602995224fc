use Rattle.plain_search.proofs.JourneyLaws.{distances_hold}
use Rattle.std.proofs.lemmas.Result.{IfOk-weaker}
use Rattle.plain_search.proofs.rounds.distances.Goals as goal

pub returns : goal.returns
returns c =
    IfOk-weaker c.seconds_of.result _ _ (λ seconds are ok. distances_hold c.args.network.now ok c.args.from c.in_ok-row.row seconds are (c.in_ok-row.ensures.level ok)) c.seconds_of.ensures
