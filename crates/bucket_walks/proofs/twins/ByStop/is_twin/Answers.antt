use Rattle.bucket_walks.proofs.TwinLemmas.{twin_of_rows}
use Rattle.bucket_walks.proofs.twins.ByStop.is_twin.Goals as goal

pub returns-then-earlier-stop : goal.returns-then-earlier-stop
returns-then-earlier-stop c same =
    twin_of_rows c.args.self.now.entries.items c.row.result.now c.row-then-earlier-stop.result.now c.args.stop c.args.earlier c.if-earlier-stop.true c.row.ensures c.row-then-earlier-stop.ensures
    (c.are_same.ensures same)
