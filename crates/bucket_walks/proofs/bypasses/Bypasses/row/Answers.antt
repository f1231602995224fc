use Rattle.std.proofs.Common.{◌≡◌, ℕ, ap}
use Rattle.move_model.specs.declared.network.NodeNo.{NodeNo}
use Rattle.bucket_walks.specs.declared.bypasses.Bypass.{Bypass}
use Rattle.bucket_walks.specs.Starts.{row_at}
use Rattle.bucket_walks.proofs.ListLemmas.{row_has, row_all}
use Rattle.bucket_walks.proofs.bypasses.Bypasses.row.Goals as goal

pub returns : goal.returns
returns c arc =
    let key : Bypass → ℕ = λ b. b.node.0 in
    let starts = c.args.self.now.starts.items in
    let arcs = c.args.self.now.arcs.items in
    let is : c.row.result.now ≡ row_at starts arcs c.args.node.0 = rw (c.deref.ensures.value, c.deref-2.ensures.value) at c.row.ensures in
    rw is (
      λ has.
          let at = row_has key starts arcs c.args.node.0 c.requires.starts c.requires.exists arc has in
          (at.0, ap (λ n. record { 0 = n }) at.1),
      λ at. row_all key starts arcs c.args.node.0 c.requires.starts c.requires.exists arc at.0 (ap (λ (node : NodeNo). node.0) at.1),
    )
