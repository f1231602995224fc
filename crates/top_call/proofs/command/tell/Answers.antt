use Rattle.top_call.proofs.CauseLemmas.{prefix-sent}
use Rattle.top_call.proofs.command.tell.Goals as goal

pub returns-clause-line : goal.returns-clause-line
returns-clause-line g c tells =
    rw (← c.tell.ensures, ← c.bytes.ensures) (prefix-sent c.write_whole.result _ _ _ (c.write_whole.ensures.ok tells) (c.write_whole.ensures.err tells))
