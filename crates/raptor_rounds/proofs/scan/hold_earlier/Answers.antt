use Rattle.std.proofs.Common.{◌≡◌, ap, arith}
use Rattle.std.specs.Prelude.{slice_index}
use Rattle.route_split.specs.declared.place.Place.{Place}
use Rattle.raptor_rounds.proofs.TimesLemmas.{departs_before}
use Rattle.raptor_rounds.proofs.scan.hold_earlier.Goals as goal

pub returns-then-second-clause-caught : goal.returns-then-second-clause-caught
returns-then-second-clause-caught c on p is_on may here sooner early =
    let same : c.place-place.result ≡ on = cc in
    let late = departs_before _ c.args.rows.now c.args.call p c.requires.whole in
    absurd (omega (arith, late, early, c.if-second.true, ap (λ (v : Place). slice_index c.args.ready.now v.stop.0) same))
