use Rattle.network_rules.proofs.FaultLemmas.{no_fault}
use Rattle.network_rules.proofs.network.keeps.Goals as goal

pub returns-in-Err : goal.returns-in-Err
returns-in-Err c = (λ no. absurd cc, λ k. absurd (no_fault c.args.network.now c.in-Err.field-0 c.in-Err.ensures.fault k))
