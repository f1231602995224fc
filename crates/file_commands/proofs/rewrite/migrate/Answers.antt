use Rattle.std.proofs.Common.{List, ℕ, Option, subst}
use Rattle.std.proofs.lemmas.Result.{err_from_is_err_and}
use Rattle.network_codec.specs.declared.version.Version.TheVariants as version
use Rattle.network_codec.specs.Form.{file}
use Rattle.network_codec.specs.Part.{HoldsPartOf}
use Rattle.file_commands.proofs.MigrateLemmas.{migrated, part}
use Rattle.file_commands.proofs.rewrite.migrate.Goals as goal

pub returns-in_err-encode-clause-unwritten : goal.returns-in_err-encode-clause-unwritten
returns-in_err-encode-clause-unwritten g c = λ tells.
    let p = err_from_is_err_and c.from_residual-in_err-encode.result c.from_residual-in_err-encode.ensures.1 in
    let now : Option (List ℕ) = g.F.Files.holds c.encode.new.files c.args.to.now in
    let left : HoldsPartOf (g.F.Files.holds c.args.files.now c.args.to.now) (file version.Two c.in_ok-compiled.compiled) now =
    subst (λ (holds : List ℕ → Option (List ℕ)). HoldsPartOf (holds c.args.to.now) (file version.Two c.in_ok-compiled.compiled) now)
    c.in_ok-compiled.ensures.contents (c.in_err-encode.ensures.err tells) in
    rw (p.1, p.2)
    (part c.in_ok-compiled.compiled (g.F.Files.holds c.args.files.now c.args.from.now) (g.F.Files.holds c.args.files.now c.args.to.now) now
    (c.in_ok-compiled.ensures.value tells) left)

pub returns-clause-ok : goal.returns-clause-ok
returns-clause-ok g c = λ tells.
    migrated c.in_ok-compiled.compiled (g.F.Files.holds c.args.files.now c.args.from.now) (g.F.Files.holds c.encode.new.files c.args.to.now)
    (c.in_ok-compiled.ensures.value tells) (c.in_ok-encode.ensures.ok tells)
