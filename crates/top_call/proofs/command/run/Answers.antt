use Rattle.top_call.specs.Words.{plan_of}
use Rattle.top_call.specs.Input.{held}
use Rattle.top_call.proofs.InputOnce.{rejection_told, completed_told}
use Rattle.top_call.proofs.command.run.Goals as goal

pub returns-clause-rejected : goal.returns-clause-rejected
returns-clause-rejected g c = λ tells status.
    rejection_told (plan_of c.args.words.now) (λ plan. held plan (g.F.Files.holds c.args.files.now)) c.run_command-status.result status (c.run_command-status.ensures.fits tells)

pub returns-clause-complete : goal.returns-clause-complete
returns-clause-complete g c = λ tells.
    completed_told g.F.Files c.args.files.now c.run_command-status.new.files (g.O.Sink.faults c.args.out.now) (g.O.Sink.faults c.run_command-status.new.out)
    (plan_of c.args.words.now) (λ plan. held plan (g.F.Files.holds c.args.files.now)) c.run_command-status.result
    (c.run_command-status.ensures.fits tells) c.run_command-status.ensures.read_fault c.run_command-status.ensures.write_fault
