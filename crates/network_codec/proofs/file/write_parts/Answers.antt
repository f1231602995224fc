use Rattle.std.proofs.Common.{◌≡◌, ◌∙◌, ℕ, List, Option, Some, ap}
use Rattle.move_files.specs.Outside.{behind}
use Rattle.network_codec.proofs.PartLemmas.{front_written, back_written, on_err}
use Rattle.network_codec.proofs.file.write_parts.Goals as goal

pub returns-in_err-append-clause-err : goal.returns-in_err-append-clause-err
returns-in_err-append-clause-err g c = λ tells.
    on_err c.from_residual-in_err-append.result _
    (front_written (g.F.Files.holds c.args.files.now c.args.name.now) (g.F.Files.holds c.begin.new.self c.args.name.now) (g.F.Files.holds c.append.new.self c.args.name.now)
    c.args.head.now c.args.body.now (c.in_ok-begin.ensures.ok tells) (c.in_err-append.ensures.err tells))

pub returns-in_err-append-2-clause-err : goal.returns-in_err-append-2-clause-err
returns-in_err-append-2-clause-err g c = λ tells.
    on_err c.from_residual-in_err-append-2.result _
    (back_written (g.F.Files.holds c.args.files.now c.args.name.now) (g.F.Files.holds c.append.new.self c.args.name.now) (g.F.Files.holds c.append-2.new.self c.args.name.now)
    c.args.head.now c.args.body.now
    (c.in_ok-append.ensures.ok tells ∙ ap (λ (held : Option (List ℕ)). Some (behind held c.args.head.now)) (c.in_ok-begin.ensures.ok tells)) (c.in_err-append-2.ensures.err tells))
