use Rattle.std.proofs.Common.{None}
use Rattle.std.proofs.lemmas.Option.{get_or_from_slice_get}
use Rattle.bucket_walks.proofs.LowerLemmas.{lowered_at}
use Rattle.bucket_walks.proofs.scan.lower.Goals as goal

pub returns : goal.returns
returns c =
    let old = c.args.walks.now in
    rw (c.set.ensures, c.lesser-least.ensures)
    (lowered_at old c.args.stop.0 c.args.seconds c.get.result c.requires.exists (get_or_from_slice_get old c.args.stop.0 c.get.result None c.get.ensures))
