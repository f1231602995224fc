use Rattle.std.proofs.Common.{◌≡◌, ◌-◌, ◌++◌, [], sym, ap, ◌∙◌, arith, append-nil}
use Rattle.raptor_rounds.specs.Answers.{before}
use Rattle.raptor_rounds.proofs.SlotsLemmas.{before_none}
use Rattle.raptor_rounds.proofs.legs.back_rides.Goals as goal

pub returns : goal.returns
returns c =
    let e : 255 - c.loop-turn.turn ≡ 0 = omega arith in
    let z : before c.args.slots.now (255 - c.loop-turn.turn) c.loop-turn.next ≡ [] =
    ap (λ n. before c.args.slots.now n c.loop-turn.next) e ∙ before_none c.args.slots.now c.loop-turn.next in
    sym (append-nil c.loop-turn.back.items) ∙ ap (λ l. c.loop-turn.back.items ++ l) (sym z) ∙ c.loop-turn.invariant
