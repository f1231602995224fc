use Rattle.std.proofs.Common.{◌<◌, List, length, subst, ℕ}
use Rattle.move_model.specs.declared.network.StopNo.{StopNo}
use Rattle.two_trip_passes.specs.Read.{IsReadUntil}
use Rattle.witness_prune.specs.Labels.{kept_of}
use Rattle.witness_prune.proofs.scratch.Scratch.sought_until.Goals as goal

pub returns : goal.returns
returns c =
    let k = kept_of c.args.self.now.labels in
    let rows = c.args.rows.now in
    subst (λ (fs : List ℕ). (v : StopNo) → v.0 < length rows.places → IsReadUntil rows fs c.args.second c.args.self.now.own.items k.boarded k.best c.args.known.now v c.until_known.result)
    c.as_slice-foot.ensures.value
    (subst (λ (xs : List ℕ). (v : StopNo) → v.0 < length rows.places → IsReadUntil rows c.as_slice-foot.result.now c.args.second xs k.boarded k.best c.args.known.now v c.until_known.result)
    c.as_slice-own.ensures.value c.until_known.ensures)
