use Rattle.std.proofs.Common.{List, take, slice_index_or, subst, arith}
use Rattle.std.proofs.lemmas.List.{take_all}
use Rattle.bucket_walks.specs.declared.bucket.Bucket.{Bucket}
use Rattle.bucket_walks.specs.Scan.{Lowers, IsBy}
use Rattle.bucket_walks.proofs.ListLemmas.{none_taken, read_is}
use Rattle.bucket_walks.proofs.LowerLemmas.{lowers_nothing}
use Rattle.bucket_walks.proofs.ScanLemmas.{lowers_by_more}
use Rattle.bucket_walks.proofs.scan.lower_by.Goals as goal

abbrev no_entry : Bucket
no_entry = record { node = record { 0 = 0 }; stop = record { 0 = 0 }; seconds = 0 }

pub loop-entry-init : goal.loop-entry-init
loop-entry-init c =
    lowers_nothing c.args.walks.now (IsBy (take 0 c.args.entries.now) c.args.seconds) (λ p m by. none_taken c.args.entries.now by.entry by.stands)

pub loop-entry-preserved : goal.loop-entry-preserved
loop-entry-preserved c =
    let entries = c.args.entries.now in
    let i = c.loop-entry.entry-index in
    lowers_by_more entries c.args.seconds i (slice_index_or entries i no_entry) c.loop-entry-test.true (read_is entries i no_entry c.loop-entry-test.true)
    c.args.walks.now c.loop-entry.walks c.lower.new.walks c.loop-entry.invariant c.lower.ensures

pub returns : goal.returns
returns c =
    subst (λ (entries : List Bucket). Lowers c.args.walks.now c.loop-entry.walks (IsBy entries c.args.seconds))
    (take_all c.loop-entry.entry-index c.args.entries.now (omega arith)) c.loop-entry.invariant
