use Rattle.std.proofs.Common.{◌⊎◌, List, length, subst}
use Rattle.std.specs.Prelude.{◌↔◌}
use Rattle.piece_laws.specs.declared.labels.Ready.{Ready}
use Rattle.piece_laws.specs.declared.labels.Second.{Second}
use Rattle.two_trip_passes.specs.Read.{IsFound, HasRead}
use Rattle.witness_prune.proofs.NeededTable.{none_before}
use Rattle.witness_prune.proofs.scratch.read_pairs.Goals as goal

pub returns-clause-pairs : goal.returns-clause-pairs
returns-clause-pairs c q =
    let rows = c.args.rows.now in
    let known = c.args.known.now in
    let many = length rows.places in
    let read = subst (λ (ls : List Ready). IsFound known c.read_all.new.pairs.items q ↔ (IsFound known c.clear.new.self.items q ⊎ HasRead rows c.args.foot.now c.args.second c.args.before c.args.own.now ls c.args.labels.now.best.items many q.0 q.1))
    c.as_slice-boarded.ensures.value
    (subst (λ (ks : List Second). IsFound known c.read_all.new.pairs.items q ↔ (IsFound known c.clear.new.self.items q ⊎ HasRead rows c.args.foot.now c.args.second c.args.before c.args.own.now c.as_slice-boarded.result.now ks many q.0 q.1))
    c.as_slice-best.ensures.value (c.read_all.ensures.pairs q)) in
    none_before known c.clear.new.self.items c.read_all.new.pairs.items q (HasRead rows c.args.foot.now c.args.second c.args.before c.args.own.now c.args.labels.now.boarded.items c.args.labels.now.best.items many q.0 q.1)
    c.clear.ensures.items read
