use Rattle.two_trip_passes.proofs.OwnTable.{own_table}
use Rattle.two_trip_passes.proofs.laws.own_stands.Goals as goal

pub returns : goal.returns
returns c = λ n us z routes own holds. own_table n us z routes holds own
