use Rattle.std.proofs.Common.{arith}
use Rattle.journey_print.proofs.IndexLemmas.{least_seconds-has}
use Rattle.journey_print.proofs.least_arcs.LeastArcs.end.Goals as goal

pub returns : goal.returns
returns c = λ fits.
    let least = least_seconds-has c.args.self.now c.args.from c.args.to c.seconds.result c.seconds.ensures in
    omega (arith, fits, least, c.unwrap_or-seconds.ensures, c.from.ensures, c.saturating_add.ensures)
