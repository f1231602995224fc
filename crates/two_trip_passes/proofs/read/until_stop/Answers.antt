use Rattle.std.proofs.Common.{inr, refl, ap, arith}
use Rattle.std.proofs.lemmas.List.{get_or_default}
use Rattle.piece_laws.specs.declared.labels.Second.{Second}
use Rattle.two_trip_rides.specs.Second.{no_second}
use Rattle.two_trip_passes.proofs.read.until_stop.Goals as goal

pub returns-then-is_read-clause-last : goal.returns-then-is_read-clause-last
returns-then-is_read-clause-last c =
    let zero : Second = record { a2 = 0; trip = 0; y = 0; label = record { ready = 0; a1 = 0; c = 0 } } in
    let e = get_or_default c.args.best.now c.args.stop no_second zero (omega arith) in
    inr (record { stop = record { 0 = c.args.stop }; exists = omega arith; pair = _; read = c.if-is_read.ensures.sound refl; is_last = omega (arith, ap (λ (k : Second). k.a2) e) })
