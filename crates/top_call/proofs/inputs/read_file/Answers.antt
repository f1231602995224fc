use Rattle.std.proofs.Common.{rules}
use Rattle.top_call.specs.Words.{told}
use Rattle.top_call.specs.Input.{held}
use Rattle.top_call.proofs.RejectLemmas.{rejects_missing}
use Rattle.top_call.proofs.inputs.read_file.Goals as goal

pub returns-in-Ok-None-clause-rejected : goal.returns-in-Ok-None-clause-rejected
returns-in-Ok-None-clause-rejected g c = λ tells. rejects_missing (held (told c.args.plan.now) (g.F.Files.holds c.args.files.now)) c.args.kind (search rules) c.requires.required
