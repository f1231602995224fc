use Rattle.std.proofs.Common.{◌<◌, List, length, subst}
use Rattle.move_model.specs.declared.network.StopNo.{StopNo}
use Rattle.piece_laws.specs.declared.labels.Ready.{Ready}
use Rattle.piece_laws.specs.declared.labels.Second.{Second}
use Rattle.two_trip_passes.specs.Read.{IsReadUntil}
use Rattle.witness_prune.proofs.scratch.until_known.Goals as goal

pub returns : goal.returns
returns c =
    subst (λ (ls : List Ready). (v : StopNo) → v.0 < length c.args.rows.now.places → IsReadUntil c.args.rows.now c.args.foot.now c.args.second c.args.own.now ls c.args.labels.now.best.items c.args.known.now v c.read_until.result)
    c.as_slice-boarded.ensures.value
    (subst (λ (ks : List Second). (v : StopNo) → v.0 < length c.args.rows.now.places → IsReadUntil c.args.rows.now c.args.foot.now c.args.second c.args.own.now c.as_slice-boarded.result.now ks c.args.known.now v c.read_until.result)
    c.as_slice-best.ensures.value c.read_until.ensures.until)
