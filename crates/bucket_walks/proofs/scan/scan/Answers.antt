use Rattle.std.proofs.Common.{◌<◌, ◌≤◌, List, length, take, slice_index_or, sym, subst, arith}
use Rattle.std.specs.Prelude.{All}
use Rattle.std.proofs.lemmas.List.{take_all}
use Rattle.walk_laws.specs.Sums.{longest}
use Rattle.walk_hierarchy.specs.declared.settled.Settled.{Settled}
use Rattle.bucket_walks.specs.declared.bucket.Bucket.{Bucket}
use Rattle.bucket_walks.specs.Scan.{Lowers, IsOver}
use Rattle.bucket_walks.proofs.ListLemmas.{none_taken, read_is, all_part}
use Rattle.bucket_walks.proofs.LowerLemmas.{lowers_nothing}
use Rattle.bucket_walks.proofs.ScanLemmas.{lowers_over_more}
use Rattle.bucket_walks.proofs.scan.scan.Goals as goal

abbrev nowhere : Settled
nowhere = record { node = record { 0 = 0 }; seconds = 0 }

pub loop-there-init : goal.loop-there-init
loop-there-init c =
    lowers_nothing c.args.walks.now (IsOver (take 0 c.args.settled.now) c.args.list.now) (λ p m over. none_taken c.args.settled.now over.there over.comes)

pub lower_by-requires-clause-stops : goal.lower_by-requires-clause-stops
lower_by-requires-clause-stops c =
    all_part (λ (entry : Bucket). entry.stop.0 < length c.loop-there.walks) c.args.list.now c.entries_at.result.now (λ entry has. ((c.entries_at.ensures entry).0 has).0)
    (subst (λ n. All (λ (entry : Bucket). entry.stop.0 < n) c.args.list.now) (sym c.loop-there.invariant.many) c.requires.stops)

pub lower_by-requires-clause-short : goal.lower_by-requires-clause-short
lower_by-requires-clause-short c =
    all_part (λ (entry : Bucket). entry.seconds ≤ longest) c.args.list.now c.entries_at.result.now (λ entry has. ((c.entries_at.ensures entry).0 has).0) c.requires.short

pub loop-there-preserved : goal.loop-there-preserved
loop-there-preserved c =
    let settled = c.args.settled.now in
    let i = c.loop-there.there-index in
    lowers_over_more settled c.args.list.now c.entries_at.result.now i (slice_index_or settled i nowhere) c.loop-there-test.true (read_is settled i nowhere c.loop-there-test.true)
    c.entries_at.ensures c.args.walks.now c.loop-there.walks c.lower_by.new.walks c.loop-there.invariant c.lower_by.ensures

pub returns : goal.returns
returns c =
    subst (λ (settled : List Settled). Lowers c.args.walks.now c.loop-there.walks (IsOver settled c.args.list.now))
    (take_all c.loop-there.there-index c.args.settled.now (omega arith)) c.loop-there.invariant
