use Rattle.std.proofs.lemmas.Bool.{false≢true}
use Rattle.plain_shortcuts.proofs.keys.is_less.Goals as goal

pub returns-in-None : goal.returns-in-None
returns-in-None c = (λ t. absurd (false≢true t), λ less. absurd (c.in-None.ensures less.walk less.to_end))
