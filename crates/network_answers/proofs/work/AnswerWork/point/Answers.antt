use Rattle.std.proofs.lemmas.Result.{IfOk-weaker}
use Rattle.network_file.specs.Answers.{IsListedPoint}
use Rattle.network_answers.specs.Gains.{sums_of}
use Rattle.network_answers.specs.Found.{IsFoundFor}
use Rattle.network_answers.proofs.PointLaws.{listed_point, point_searched}
use Rattle.network_answers.proofs.work.AnswerWork.point.Goals as goal

pub returns-clause-found : goal.returns-clause-found
returns-clause-found g c =
    IfOk-weaker c.find_all.result (IsFoundFor c.args.compiled.now (sums_of c.ask.new.self) c.args.from c.args.depart c.args.to c.args.limit)
    (IsListedPoint c.args.compiled.now c.args.from c.args.depart c.args.to c.args.limit)
    (listed_point c.args.compiled.now c.args.from c.args.depart c.args.to c.args.limit (sums_of c.ask.new.self) c.ask.ensures.sums) c.find_all.ensures.found

pub returns-clause-searches : goal.returns-clause-searches
returns-clause-searches g c =
    point_searched c.args.compiled.now c.args.from c.args.depart c.args.to c.args.limit (sums_of c.ask.new.self) c.ask.ensures.sums
    c.args.searches.now c.ask.new.searches c.find_all.new.searches c.ask.ensures.searches c.find_all.ensures.ticks
