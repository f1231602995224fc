use Rattle.std.proofs.lemmas.Result.{on_ok_weaker, on_err_weaker}
use Rattle.file_compile.proofs.FileLemmas.{compiled, part}
use Rattle.file_compile.proofs.whole.compile_file.Goals as goal

pub returns-clause-ok : goal.returns-clause-ok
returns-clause-ok g c = λ tells.
    let made = c.in_ok-compiled.ensures in
    on_ok_weaker c.encode.result
    (λ e. compiled c.args.network c.in_ok-compiled.compiled (g.F.Files.holds c.encode.new.files c.args.name.now) made.network made.right made.writable e)
    (c.encode.ensures.ok tells)

pub returns-clause-err : goal.returns-clause-err
returns-clause-err g c = λ tells.
    let made = c.in_ok-compiled.ensures in
    on_err_weaker c.encode.result
    (λ left. part c.args.network c.in_ok-compiled.compiled (g.F.Files.holds c.args.files.now c.args.name.now) (g.F.Files.holds c.encode.new.files c.args.name.now)
    made.network made.right made.writable left)
    (c.encode.ensures.err tells)
