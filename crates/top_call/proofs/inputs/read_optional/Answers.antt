use Rattle.std.proofs.Common.{rules}
use Rattle.top_call.specs.Words.{told}
use Rattle.top_call.specs.Input.{held}
use Rattle.top_call.proofs.RejectLemmas.{rejects_long}
use Rattle.top_call.proofs.inputs.read_optional.Goals as goal

pub returns-in-Err-TooLong-clause-rejected : goal.returns-in-Err-TooLong-clause-rejected
returns-in-Err-TooLong-clause-rejected g c = λ tells. rejects_long (held (told c.args.plan.now) (g.F.Files.holds c.args.files.now)) c.args.kind c.in-Err-TooLong.seen (search rules) (search rules)
