use Rattle.std.proofs.Common.{refl, arith}
use Rattle.street_graph.proofs.CoLemmas.{cause_skipped, cause_size}
use Rattle.street_graph.proofs.co.Draft.take.Goals as goal

pub returns-in-Skipped-clause-cause : goal.returns-in-Skipped-clause-cause
returns-in-Skipped-clause-cause c = (cause_skipped c.args.nodes c.args.self.now.sized c.args.self.now.placed.items c.args.line c.in-Skipped.is, refl)

pub returns-else-count-from-clause-cause : goal.returns-else-count-from-clause-cause
returns-else-count-from-clause-cause c =
    (cause_size c.args.nodes c.args.self.now.sized c.args.self.now.placed.items c.args.line c.in-Size.count c.in-Size.is c.if-not-self.true (omega arith), refl)
