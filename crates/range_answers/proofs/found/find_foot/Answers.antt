use Rattle.std.proofs.Common.{◌≡◌, ◌+◌, arith}
use Rattle.std.proofs.lemmas.Result.{IfOk-weaker}
use Rattle.range_answers.specs.Range.{sums_of}
use Rattle.range_answers.proofs.FootLaws.{found_foot}
use Rattle.range_answers.proofs.found.find_foot.Goals as goal

pub returns-clause-foot : goal.returns-clause-foot
returns-clause-foot g c =
    let arrives : c.from.result + c.in-Some.seconds ≡ c.args.first + c.in-Some.seconds = omega (arith, c.from.ensures) in
    IfOk-weaker c.find.result _ _
    (λ made is.
    found_foot c.args.compiled.now (sums_of c.args.walks.now) c.args.from c.args.first c.args.to c.in-Some.seconds _ _ made c.in-Some.is c.requires.sums arrives
    c.new-rides.ensures is)
    c.find.ensures.found
