use Rattle.std.proofs.Common.{◌∙◌, ℕ, Option, None, set, sym, ap}
use Rattle.std.proofs.lemmas.Option.{get_or_from_slice_get}
use Rattle.bucket_walks.proofs.CopyLemmas.{small_at}
use Rattle.bucket_walks.proofs.scan.copy.Goals as goal

pub set-requires-clause-limited : goal.set-requires-clause-limited
set-requires-clause-limited c =
    let old = c.args.walks.now in
    small_at old c.args.from c.get-seconds.result c.requires.small (get_or_from_slice_get old c.args.from c.get-seconds.result None c.get-seconds.ensures)

pub returns : goal.returns
returns c =
    let old = c.args.walks.now in
    c.set.ensures ∙ ap (λ (s : Option ℕ). set old c.args.to s) (sym (get_or_from_slice_get old c.args.from c.get-seconds.result None c.get-seconds.ensures))
