use Rattle.std.proofs.Common.{◌≡◌, ℕ}
use Rattle.bucket_walks.specs.declared.bucket.Bucket.{Bucket}
use Rattle.bucket_walks.specs.Starts.{row_at}
use Rattle.bucket_walks.proofs.ListLemmas.{row_has, row_all}
use Rattle.bucket_walks.proofs.twins.ByStop.row.Goals as goal

pub returns : goal.returns
returns c entry =
    let key : Bucket → ℕ = λ e. e.stop.0 in
    let starts = c.args.self.now.starts.items in
    let entries = c.args.self.now.entries.items in
    let is : c.row.result.now ≡ row_at starts entries c.args.stop = rw (c.deref.ensures.value, c.deref-2.ensures.value) at c.row.ensures in
    rw is (
      λ has. row_has key starts entries c.args.stop c.requires.starts c.requires.exists entry has,
      λ at. row_all key starts entries c.args.stop c.requires.starts c.requires.exists entry at.0 at.1,
    )
