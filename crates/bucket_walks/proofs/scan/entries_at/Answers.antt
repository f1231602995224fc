use Rattle.bucket_walks.specs.declared.bucket.Bucket.{Bucket}
use Rattle.bucket_walks.proofs.ListLemmas.{row_rises, row_within}
use Rattle.bucket_walks.proofs.SlimLemmas.{row_holds}
use Rattle.bucket_walks.proofs.scan.entries_at.Goals as goal

pub row-requires-clause-rises : goal.row-requires-clause-rises
row-requires-clause-rises c = row_rises (λ (entry : Bucket). entry.node.0) c.args.starts.now c.args.list.now c.args.node.0 c.requires.starts c.requires.exists

pub row-requires-clause-within : goal.row-requires-clause-within
row-requires-clause-within c = row_within (λ (entry : Bucket). entry.node.0) c.args.starts.now c.args.list.now c.args.node.0 c.requires.starts c.requires.exists

pub returns : goal.returns
returns c entry = rw c.row.ensures (row_holds c.args.starts.now c.args.list.now c.args.node c.requires.starts c.requires.exists entry)
