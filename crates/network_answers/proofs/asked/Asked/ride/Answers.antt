use Rattle.std.proofs.Common.{arith}
use Rattle.compiled_laws.proofs.Others.{table_fits}
use Rattle.network_answers.proofs.asked.Asked.ride.Goals as goal

pub returns-clause-answers : goal.returns-clause-answers
returns-clause-answers g c = record {
  each = λ k within.
      c.run.ensures.answers c.args.compiled.now.network (table_fits c.args.compiled.now c.requires.fits) k (omega (arith, within, c.run.ensures.one_each));
}
