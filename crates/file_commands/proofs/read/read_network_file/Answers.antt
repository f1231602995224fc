use Rattle.std.proofs.lemmas.Result.{err_from_is_err_and}
use Rattle.file_commands.proofs.ReadLemmas.{value_held, stop_fits}
use Rattle.file_commands.proofs.read.read_network_file.Goals as goal

pub returns-in_err-compiled-clause-told : goal.returns-in_err-compiled-clause-told
returns-in_err-compiled-clause-told g c = λ tells.
    let p = err_from_is_err_and c.from_residual-in_err-compiled.result c.from_residual-in_err-compiled.ensures.1 in
    rw (p.1, p.2)
    (stop_fits (g.F.Files.holds c.args.files.now c.args.name.now) c.in_ok-bytes.bytes.items c.deref.result.now c.in_err-compiled.field-0.0
    (c.in_ok-bytes.ensures.ok tells) c.deref.ensures.value c.in_ok-bytes.ensures.within c.in_err-compiled.ensures.damaged c.in_err-compiled.ensures.none)

pub returns-clause-value : goal.returns-clause-value
returns-clause-value g c = λ tells.
    value_held (g.F.Files.holds c.args.files.now c.args.name.now) c.in_ok-bytes.bytes.items c.deref.result.now c.in_ok-compiled.compiled
    (c.in_ok-bytes.ensures.ok tells) c.deref.ensures.value c.in_ok-bytes.ensures.within c.in_ok-compiled.ensures.value c.in_ok-compiled.ensures.only
