use Rattle.std.proofs.Common.{inl}
use Rattle.top_call.specs.Status.{IsAnyInput}
use Rattle.top_call.proofs.CauseLemmas.{Sends-wordless}
use Rattle.top_call.proofs.CityLemmas.{any_sent}
use Rattle.top_call.proofs.given.run_program.Goals as goal

pub returns-in-Err-clause-sent : goal.returns-in-Err-clause-sent
returns-in-Err-clause-sent g c = λ tells. inl (Sends-wordless IsAnyInput _ _ c.in-Err.ensures)

pub returns-in-Ok-clause-sent : goal.returns-in-Ok-clause-sent
returns-in-Ok-clause-sent g c = λ tells. any_sent _ _ _ _ (c.run.ensures.summed tells) (c.run.ensures.sent tells)
