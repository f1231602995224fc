use Rattle.std.proofs.Common.{◌<◌, ◌∷◌, None, length, sym, subst}
use Rattle.core_search.specs.Waiting.{IsPut}
use Rattle.core_search.proofs.WaitLemmas.{put_is}
use Rattle.core_search.proofs.waiting.Waiting.put.Goals as goal

pub returns : goal.returns
returns c =
    subst (λ old. IsPut old (None ∷ c.put_or_lower.new.self) c.args.at.0 c.args.label) c.self.view_is
    (put_is c.self.inside.queue c.put_or_lower.new.self c.args.at.0 c.args.label c.put_or_lower.result c.requires.from_one
    (subst (λ old. c.args.at.0 < length old) (sym c.self.view_is) c.requires.exists)
    c.put_or_lower.ensures.answer c.put_or_lower.ensures.put c.put_or_lower.ensures.kept c.put_or_lower.ensures.places)
