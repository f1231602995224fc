use Rattle.top_call.proofs.AnswerLemmas.{sends_done, sends_faulty, sends_wanting, searches_this, opens_this}
use Rattle.top_call.proofs.command.send_compiled.Goals as goal

pub returns-in-Ok-clause-sent : goal.returns-in-Ok-clause-sent
returns-in-Ok-clause-sent g c = λ tells. sends_done c.args.compiled.now c.args.queries.now c.requires.right _ _ (c.in-Ok.ensures.rows tells)

pub returns-in-Ok-clause-searches : goal.returns-in-Ok-clause-searches
returns-in-Ok-clause-searches g c = searches_this c.args.compiled.now c.args.queries.now c.requires.right _ _ c.answer.ensures.searches

pub returns-in-Ok-clause-opens : goal.returns-in-Ok-clause-opens
returns-in-Ok-clause-opens g c = opens_this c.args.compiled.now c.args.queries.now c.requires.right _ _ c.answer.ensures.opens

pub returns-in-Err-WriteFault-clause-sent : goal.returns-in-Err-WriteFault-clause-sent
returns-in-Err-WriteFault-clause-sent g c = λ tells. sends_faulty c.args.compiled.now c.args.queries.now c.requires.right _ _ (c.in-Err-WriteFault.ensures.part tells)

pub returns-in-Err-WriteFault-clause-searches : goal.returns-in-Err-WriteFault-clause-searches
returns-in-Err-WriteFault-clause-searches g c = searches_this c.args.compiled.now c.args.queries.now c.requires.right _ _ c.answer.ensures.searches

pub returns-in-Err-WriteFault-clause-opens : goal.returns-in-Err-WriteFault-clause-opens
returns-in-Err-WriteFault-clause-opens g c = opens_this c.args.compiled.now c.args.queries.now c.requires.right _ _ c.answer.ensures.opens

pub returns-in-Err-NoMemory-clause-sent : goal.returns-in-Err-NoMemory-clause-sent
returns-in-Err-NoMemory-clause-sent g c = λ tells. sends_wanting c.args.compiled.now c.args.queries.now c.requires.right _ _ (c.in-Err-NoMemory.ensures.part tells)

pub returns-in-Err-NoMemory-clause-searches : goal.returns-in-Err-NoMemory-clause-searches
returns-in-Err-NoMemory-clause-searches g c = searches_this c.args.compiled.now c.args.queries.now c.requires.right _ _ c.answer.ensures.searches

pub returns-in-Err-NoMemory-clause-opens : goal.returns-in-Err-NoMemory-clause-opens
returns-in-Err-NoMemory-clause-opens g c = opens_this c.args.compiled.now c.args.queries.now c.requires.right _ _ c.answer.ensures.opens
