use Rattle.std.proofs.Common.{refl, ◌∙◌}
use Rattle.plain_shortcuts.proofs.Lists.{not_true, true_not}
use Rattle.plain_shortcuts.proofs.needed.is_needed.Goals as goal

pub returns : goal.returns
returns c = λ z departs are arrive is.
    let bettered = c.is_bettered.ensures c.args.stop z are arrive in
    let plain = c.if-not-is_candidate.ensures.0 refl in (
      λ t. record {
        is_change = is;
        at_stop = plain.0;
        departs = plain.1 ∙ departs;
        walks = plain.2;
        unbettered = λ b. not_true c.is_bettered.result t (bettered.1 b);
      },
      λ needed. true_not c.is_bettered.result (λ t. needed.unbettered (bettered.0 t)),
    )
