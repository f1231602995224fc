use Rattle.std.proofs.Common.{refl, sym, ap, subst, ◌∙◌, arith}
use Rattle.std.proofs.lemmas.List.{get_or_default}
use Rattle.piece_laws.specs.declared.labels.Second.{Second}
use Rattle.two_trip_rides.specs.Second.{no_second}
use Rattle.two_trip_passes.specs.Read.{Pair, key_pair, IsReadAt}
use Rattle.two_trip_passes.proofs.ReadLemmas.{read_pushed}
use Rattle.two_trip_passes.proofs.read.read_stop.Goals as goal

pub returns-then-is_read-clause-pairs : goal.returns-then-is_read-clause-pairs
returns-then-is_read-clause-pairs c q =
    let zero : Second = record { a2 = 0; trip = 0; y = 0; label = record { ready = 0; a1 = 0; c = 0 } } in
    let e = get_or_default c.args.best.now c.args.stop no_second zero (omega arith) in
    let same = c.pair_of.ensures ∙ sym (ap key_pair e) in
    let read = subst (λ (t : Pair). IsReadAt c.args.rows.now c.args.foot.now c.args.second c.args.own.now c.args.boarded.now c.args.best.now (record { 0 = c.args.stop }) t.0 t.1) (sym same) (c.if-is_read.ensures.sound refl) in
    rw c.push_reserved.ensures.items
    (read_pushed c.args.rows.now c.args.foot.now c.args.second c.args.own.now c.args.boarded.now c.args.best.now (record { 0 = c.args.stop }) c.args.before c.pair_of.result c.args.known.now c.args.pairs.now.items q same
    (record { early = omega (arith, ap (λ (k : Second). k.a2) e, c.if-key-before.false); read = read }))
