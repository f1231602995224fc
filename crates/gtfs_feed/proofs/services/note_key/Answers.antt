use Rattle.std.proofs.Common.{◌∙◌, ◌++◌, ℕ, List, ap}
use Rattle.gtfs_feed.proofs.NamedLemmas.{repeated-if, extended}
use Rattle.gtfs_feed.proofs.services.note_key.Goals as goal

pub returns-in-Ok-false-clause-broken : goal.returns-in-Ok-false-clause-broken
returns-in-Ok-false-clause-broken c =
    let key = extended c.extend_from_slice.result c.in-Ok.key.items c.args.id.now _ c.if-is_err.ensures.value c.extend_from_slice.ensures.items in
    let text = c.as_slice.ensures.value ∙ key ∙ ap (λ (front : List ℕ). front ++ c.args.id.now) c.in-Ok.ensures.items in
    rw c.in-Ok-false.field-0-test at (repeated-if c.args.seen.now _ (c.args.date.now ++ c.args.id.now) c.in-Ok-false.field-0 c.in-Ok-false.ensures.added text)

pub returns-clause-holds : goal.returns-clause-holds
returns-clause-holds c =
    let key = extended c.extend_from_slice.result c.in-Ok.key.items c.args.id.now _ c.if-is_err.ensures.value c.extend_from_slice.ensures.items in
    let text = c.as_slice.ensures.value ∙ key ∙ ap (λ (front : List ℕ). front ++ c.args.id.now) c.in-Ok.ensures.items in
    rw c.in-Ok-true.field-0-test at (repeated-if c.args.seen.now _ (c.args.date.now ++ c.args.id.now) c.in-Ok-true.field-0 c.in-Ok-true.ensures.added text)
