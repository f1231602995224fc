use Rattle.std.proofs.Common.{◌≡◌, [], subst, arith}
use Rattle.raptor_rounds.specs.Answers.{before}
use Rattle.raptor_rounds.proofs.SlotsLemmas.{before_zero, before_past, before_more}
use Rattle.raptor_rounds.proofs.legs.slot_at.Goals as goal
use Rattle.raptor_rounds.proofs.legs.slot_at.Goals.{then-by-eq0-via-then-by-eq0, then-by-eq0-via-else-by-eq0+then-slots-by}

pub returns-then-by-eq0-clause-none : goal.returns-then-by-eq0-clause-none
returns-then-by-eq0-clause-none c fuel = elim c.then-by-eq0.branch [
  | then-by-eq0-via-then-by-eq0 w ↦ (let e : 0 ≡ c.args.by = omega arith in subst (λ b. before c.args.slots.now fuel b ≡ []) e (before_zero c.args.slots.now fuel))
  | then-by-eq0-via-else-by-eq0+then-slots-by w ↦ before_past c.args.slots.now fuel c.args.by (omega arith)
]

pub returns-clause-some : goal.returns-clause-some
returns-clause-some c fuel =
    before_more c.args.slots.now fuel c.args.by (record { ride = record { trip = record { 0 = 0 }; board = 0; alight = 0 }; by = 0 }) (omega arith) (omega arith)
