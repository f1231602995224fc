use Rattle.std.proofs.Common.{slice_index_or, arith}
use Rattle.walk_hierarchy.specs.declared.settled.Settled.{Settled}
use Rattle.bucket_walks.proofs.ListLemmas.{read_is}
use Rattle.bucket_walks.proofs.MarkLemmas.{marked_more}
use Rattle.bucket_walks.proofs.gather.mark.Goals as goal

abbrev nowhere : Settled
nowhere = record { node = record { 0 = 0 }; seconds = 0 }

pub loop-there-preserved : goal.loop-there-preserved
loop-there-preserved c =
    let settled = c.args.settled.now in
    let i = c.loop-there.there-index in
    let low = c.requires.exist i nowhere c.loop-there-test.true in
    marked_more settled c.loop-there.marks i (slice_index_or settled i nowhere) c.loop-there-test.true (read_is settled i nowhere c.loop-there-test.true) (omega (arith, low, c.loop-there.auto.marks))
    c.requires.one_each c.loop-there.invariant
