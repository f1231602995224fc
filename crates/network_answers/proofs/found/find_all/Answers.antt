use Rattle.std.proofs.Common.{◌≡◌, ◌+◌, ◌-◌, ℕ, subst, arith}
use Rattle.network_answers.specs.Gains.{sums_of}
use Rattle.network_answers.specs.Found.{IsFoundFor}
use Rattle.network_answers.proofs.TickLaws.{more_ticked}
use Rattle.network_answers.proofs.found.find_all.Goals as goal

pub returns-in_err-add_walk-clause-ticks : goal.returns-in_err-add_walk-clause-ticks
returns-in_err-add_walk-clause-ticks g c =
    more_ticked c.args.compiled.now (sums_of c.args.asked.now) c.args.depart c.args.asked.now.rounds c.requires.answers c.args.limit 0 c.args.limit c.args.searches.now
    c.add_walk.new.searches (omega arith) (omega (arith, c.requires.one_each)) c.add_walk.ensures.ticks

pub returns-in_err-add_rides-clause-ticks : goal.returns-in_err-add_rides-clause-ticks
returns-in_err-add_rides-clause-ticks g c =
    more_ticked c.args.compiled.now (sums_of c.args.asked.now) c.args.depart c.args.asked.now.rounds c.requires.answers (c.args.limit - (c.loop-before.before + 1))
    (c.loop-before.before + 1) c.args.limit c.args.searches.now c.add_rides.new.searches (omega arith) (omega (arith, c.requires.one_each))
    (c.add_rides.ensures.ticks c.args.searches.now c.loop-before.invariant.ticks)

pub returns-clause-found : goal.returns-clause-found
returns-clause-found g c =
    let end : c.loop-before.before ≡ c.args.limit = omega arith in
    subst (λ (k : ℕ). IsFoundFor c.args.compiled.now (sums_of c.args.asked.now) c.args.from c.args.depart c.args.to k c.loop-before.found) end
    c.loop-before.invariant.found
