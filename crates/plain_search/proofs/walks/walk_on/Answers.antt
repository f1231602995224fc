use Rattle.plain_search.proofs.Walked.{WalksOn-same, WalksOn-both}
use Rattle.plain_search.proofs.walks.walk_on.Goals as goal

pub loop-init : goal.loop-init
loop-init c = record { whole = c.requires; walks = WalksOn-same _ _ }

pub loop-preserved : goal.loop-preserved
loop-preserved c =
    let here = c.in_ok-walk_arcs.ensures in
    record { whole = here.whole; walks = WalksOn-both _ _ _ _ c.loop.invariant.walks here.walks_on }
