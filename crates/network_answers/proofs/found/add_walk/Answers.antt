use Rattle.std.proofs.Common.{◌≡◌, ◌∙◌, None, length, sym, ap, arith}
use Rattle.std.proofs.lemmas.Result.{on_ok_weaker}
use Rattle.network_answers.specs.Gains.{sums_of}
use Rattle.network_answers.proofs.GainLaws.{IsOnFoot, no_foot_from, none_from, foot_from}
use Rattle.network_answers.proofs.FoundLaws.{foot_found_as}
use Rattle.network_answers.proofs.TickLaws.{none_ticked, foot_ticked}
use Rattle.network_answers.proofs.found.add_walk.Goals as goal

pub returns-in_default-clause-ticks : goal.returns-in_default-clause-ticks
returns-in_default-clause-ticks g c =
    let none : c.args.asked.now.foot ≡ None =
    no_foot_from c.args.depart c.args.asked.now.foot (sym c.on_foot.ensures ∙ none_from c.on_foot.result c.in_default.not-Some) in
    none_ticked c.args.compiled.now (sums_of c.args.asked.now) c.args.depart c.args.searches.now none

pub returns-clause-found : goal.returns-clause-found
returns-clause-found g c =
    let at : IsOnFoot c.args.depart c.args.asked.now.foot c.in-Some.arrive =
    foot_from c.args.depart c.args.asked.now.foot c.in-Some.arrive (sym c.on_foot.ensures ∙ c.in-Some.is) in
    on_ok_weaker c.add.result
    (λ adds.
    foot_found_as c.args.compiled.now (sums_of c.args.asked.now) c.args.from c.args.depart c.args.to at.m c.in-Some.arrive _ c.args.found.now c.add.new.found
    at.foot_is at.arrive_is c.new-rides.ensures c.requires.none c.requires.sums adds)
    c.add.ensures.adds

pub returns-clause-ticks : goal.returns-clause-ticks
returns-clause-ticks g c =
    let at : IsOnFoot c.args.depart c.args.asked.now.foot c.in-Some.arrive =
    foot_from c.args.depart c.args.asked.now.foot c.in-Some.arrive (sym c.on_foot.ensures ∙ c.in-Some.is) in
    foot_ticked c.args.compiled.now (sums_of c.args.asked.now) c.args.depart at.m c.args.searches.now c.add.new.searches at.foot_is
    (omega (arith, c.add.ensures.ticks, ap length c.new-rides.ensures))
