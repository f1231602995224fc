use Rattle.std.proofs.Common.{arith, refl, rules}
use Rattle.tables.proofs.IdLemmas.{id_holds, id_not}
use Rattle.tables.proofs.value.check_id.Goals as goal

pub returns-in-Ok : goal.returns-in-Ok
returns-in-Ok c = (id_holds c.args.text.now (search rules) (omega arith) c.in-Ok.ensures.cases.1, refl)

pub returns-in-Err : goal.returns-in-Err
returns-in-Err c = id_not c.args.text.now (search rules) (omega arith) c.in-Err.ensures.cases.0
