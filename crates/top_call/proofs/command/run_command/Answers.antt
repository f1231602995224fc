use Rattle.top_call.proofs.CauseLemmas.{not-unsent}
use Rattle.top_call.proofs.CityLemmas.{no_plan, if_none}
use Rattle.top_call.proofs.command.run_command.Goals as goal

pub returns-in-Some-clause-printed : goal.returns-in-Some-clause-printed
returns-in-Some-clause-printed g c = λ files_tell out_tells. if_none _ _ (no_plan c.args.words.now c.in-Some.city (cc))

pub returns-in-Some-clause-unsent : goal.returns-in-Some-clause-unsent
returns-in-Some-clause-unsent g c = λ is. absurd (not-unsent c.run_city_words.result c.run_city_words.ensures.ends is)

pub returns-in-Some-clause-fits : goal.returns-in-Some-clause-fits
returns-in-Some-clause-fits g c = λ files_tell. if_none _ _ (no_plan c.args.words.now c.in-Some.city (cc))

pub returns-in-Some-clause-searches : goal.returns-in-Some-clause-searches
returns-in-Some-clause-searches g c = λ files_tell. if_none _ _ (no_plan c.args.words.now c.in-Some.city (cc))

pub returns-in-Some-clause-opens : goal.returns-in-Some-clause-opens
returns-in-Some-clause-opens g c = λ files_tell. if_none _ _ (no_plan c.args.words.now c.in-Some.city (cc))

pub returns-in-Some-clause-unsearched : goal.returns-in-Some-clause-unsearched
returns-in-Some-clause-unsearched g c = λ is. absurd (not-unsent c.run_city_words.result c.run_city_words.ensures.ends is)
